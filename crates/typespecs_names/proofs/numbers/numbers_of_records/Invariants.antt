use Rattle.typespecs_names.specs.Numbers.{record_ids}
use Rattle.typespecs_names.proofs.Counted.{IsAddedTo}
use Rattle.typespecs_names.proofs.numbers.numbers_of_records.Given as goal

abbrev pub invariant-loop-form : goal.invariant-loop-form
invariant-loop-form l = IsAddedTo record_ids l.forms l.initial.table l.initial.number l.form-index l.number l.table
