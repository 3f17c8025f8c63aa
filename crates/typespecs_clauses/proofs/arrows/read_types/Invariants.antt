use Rattle.std.proofs.Common.{◌≡◌, map, take}
use Rattle.erl_tree.specs.declared.token.Node.{Node}
use Rattle.erl_tree.specs.declared.type_expr.TypeKind.{TypeKind}
use Rattle.erl_runs.specs.Specs.{all_present}
use Rattle.typespecs_rules.specs.Declarations.{Declarations}
use Rattle.typespecs_rules.specs.TypeTerms.{type_kind_term}
use Rattle.typespecs_names.specs.Numbers.{KnowsNumbers}
use Rattle.typespecs_terms.specs.Tables.{terms_in, tuples_in}
use Rattle.typespecs_clauses.proofs.arrows.read_types.Given as goal

abbrev pub invariant-types : goal.invariant-types
invariant-types l = (d : Declarations) → KnowsNumbers l.reading.numbers.now d → l.terms ≡ all_present (map (λ (t : Node TypeKind). type_kind_term d (tuples_in l.reading.tuples.now) (terms_in l.reading.variables.now) t.kind) (take l.t-index l.types))
