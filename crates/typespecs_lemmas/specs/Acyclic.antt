-- Records that don't lead back to themselves, and what a bounded variable stands for by its bound.
use Rattle.std.specs.Prelude.{ℕ, Option, Some, None as Nothing}
use Rattle.type_terms.specs.Keys.{Name}
use Rattle.type_terms.specs.Paths.{IsPath}
use Rattle.type_terms.specs.declared.term.Term.{Term}
use Rattle.erl_tree.specs.declared.token.Node.{Node}
use Rattle.erl_tree.specs.declared.type_expr.TypeKind.{TypeKind}
use Rattle.erl_tree.specs.declared.form.SpecClauseKind.{SpecClauseKind}
use Rattle.typespecs_rules.specs.Declarations.{Declarations}
use Rattle.typespecs_rules.specs.TypeTerms.{type_term}
use Rattle.typespecs_rules.specs.RegularUse.{expansion_graph}
use Rattle.typespecs_rules.specs.Bounds.{stands_once, with_bound}

-- no declaration leads back to itself by records that stand with fields in the places of their own
abbrev pub HasNoInfiniteRecord : Declarations → Type 0
HasNoInfiniteRecord declared = (n : ℕ) → IsPath (expansion_graph declared) n n → ⊥

-- what a variable of a clause stands for by its bound, where variables themselves have the first terms, and stand in bounds for the second ones
abbrev pub bounded_term : Declarations → SpecClauseKind → (Name → Option Term) → (Name → Option Term) → Name → Option (Node TypeKind) → Option Term
bounded_term declared c variables standing x Nothing = variables x
bounded_term declared c variables standing x (Some t) = with_bound (stands_once c x) (variables x) (type_term declared standing t)
