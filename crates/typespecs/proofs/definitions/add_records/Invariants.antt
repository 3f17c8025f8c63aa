use Rattle.typespecs_rules.specs.Declarations.{Declarations}
use Rattle.typespecs.specs.Reads.{ReadsDeclared}
use Rattle.typespecs.proofs.Declared.{records_of, records_append}
use Rattle.typespecs.proofs.Present.{AddedTo}
use Rattle.typespecs.proofs.definitions.add_records.Given as goal

abbrev pub invariant-loop-form : goal.invariant-loop-form
invariant-loop-form l = (d : Declarations) → ReadsDeclared l.declared d → AddedTo (records_of d) (records_append d) l.forms l.form-index l.initial.defs l.defs
