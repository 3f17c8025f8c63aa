use Rattle.std.proofs.Common.{[]}
use Rattle.typespecs_rules.specs.Declarations.{Declarations}
use Rattle.typespecs.specs.Reads.{ReadsDeclared}
use Rattle.typespecs.proofs.Declared.{specs_of, specs_append}
use Rattle.typespecs.proofs.Present.{AddedTo}
use Rattle.typespecs.proofs.assembly.function_specs.Given as goal

abbrev pub invariant-loop-form : goal.invariant-loop-form
invariant-loop-form l = (d : Declarations) → ReadsDeclared l.declared d → AddedTo (specs_of d) (specs_append d) l.forms l.form-index [] l.specs
