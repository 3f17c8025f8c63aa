use Rattle.typespecs_names.specs.Numbers.{type_ids}
use Rattle.typespecs_names.proofs.Counted.{IsAddedTo}
use Rattle.typespecs_names.proofs.numbers.numbers_of_types.Given as goal

abbrev pub invariant-loop-form : goal.invariant-loop-form
invariant-loop-form l = IsAddedTo type_ids l.forms l.initial.table l.initial.number l.form-index l.number l.table
