use Rattle.typespecs_rules.specs.Declarations.{Declarations}
use Rattle.typespecs.specs.Reads.{ReadsDeclared}
use Rattle.typespecs.proofs.Declared.{types_of, types_append}
use Rattle.typespecs.proofs.Present.{AddedTo}
use Rattle.typespecs.proofs.definitions.add_types.Given as goal

abbrev pub invariant-loop-form : goal.invariant-loop-form
invariant-loop-form l = (d : Declarations) → ReadsDeclared l.declared d → AddedTo (types_of d) (types_append d) l.forms l.form-index l.initial.defs l.defs
