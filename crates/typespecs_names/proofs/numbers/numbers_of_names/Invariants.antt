use Rattle.typespecs_names.specs.Numbers.{name_ids}
use Rattle.typespecs_names.proofs.Counted.{IsAddedTo}
use Rattle.typespecs_names.proofs.numbers.numbers_of_names.Given as goal

abbrev pub invariant-loop-name : goal.invariant-loop-name
invariant-loop-name l = IsAddedTo name_ids l.names l.initial.table l.initial.number l.name-index l.number l.table
