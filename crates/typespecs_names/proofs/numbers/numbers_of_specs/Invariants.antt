use Rattle.typespecs_names.specs.Numbers.{spec_ids}
use Rattle.typespecs_names.proofs.Counted.{IsAddedTo}
use Rattle.typespecs_names.proofs.numbers.numbers_of_specs.Given as goal

abbrev pub invariant-loop-record : goal.invariant-loop-record
invariant-loop-record l = IsAddedTo spec_ids l.records l.initial.table l.initial.number l.record-index l.number l.table
