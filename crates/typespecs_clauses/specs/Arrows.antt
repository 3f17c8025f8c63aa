-- The arrows of clauses by the terms of their types.
use Rattle.std.specs.Prelude.{map, Option}
use Rattle.std.specs.Option.{option_map}
use Rattle.type_terms.specs.declared.term.Term.{Term}
use Rattle.type_terms.specs.declared.spec.Arrow.{Arrow}
use Rattle.erl_tree.specs.declared.token.Node.{Node}
use Rattle.erl_tree.specs.declared.type_expr.TypeKind.{TypeKind}
use Rattle.erl_tree.specs.declared.form.SpecClauseKind.{SpecClauseKind}
use Rattle.erl_runs.specs.Specs.{and_then, all_present}

-- the arrow of a clause whose types have these terms
abbrev pub arrow_by : (Node TypeKind → Option Term) → SpecClauseKind → Option Arrow
arrow_by term_of c = and_then (all_present (map term_of c.params)) (λ params. option_map (λ result. record { params = params; result = result }) (term_of c.result))
