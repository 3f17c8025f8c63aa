use Rattle.std.proofs.Common.{◌≡◌, List, take}
use Rattle.std.specs.Prelude.{Some, map}
use Rattle.type_terms.specs.declared.term.Term.{Term}
use Rattle.erl_runs.specs.Specs.{all_present}
use Rattle.flat_modules.specs.FlatSpecs.{type_term}
use Rattle.cert_checker.specs.FlatTypes.{AreSetsOf}
use Rattle.cert_checker.proofs.spec_table.sets_of_types.Given as goal

abbrev pub invariant-loop-expression : goal.invariant-loop-expression
invariant-loop-expression l = (terms : List Term) → all_present (map type_term (take l.expression-index l.types)) ≡ Some terms → AreSetsOf l.sets terms
