-- What the variables of a spec's clause stand for, by the bounds `A :: T` behind `when`. That a bound is an upper one, and that a variable which stands once is replaced by its bound, is this project's own reading.
use Rattle.std.specs.Prelude.{ℕ, zero, suc, List, [], ◌∷◌, map, length, Option, Some, None as Nothing, Bool, true, false, cond, nat_eq, is_some}
use Rattle.std.specs.Option.{option_map}
use Rattle.std.specs.List.{filter_map}
use Rattle.type_terms.specs.Keys.{Name, same_name}
use Rattle.type_terms.specs.Paths.{IsPath}
use Rattle.type_terms.specs.declared.term.Term.{Term, And}
use Rattle.erl_tree.specs.declared.token.Node.{Node}
use Rattle.erl_tree.specs.declared.type_expr.TypeKind.{TypeKind}
use Rattle.erl_tree.specs.declared.form.SpecClauseKind.{SpecClauseKind}
use Rattle.erl_runs.specs.Specs.{and_then}
use Rattle.typespecs_rules.specs.Declarations.{Declarations}
use Rattle.typespecs_rules.specs.TypeTerms.{type_term}
use Rattle.typespecs_rules.specs.TypeVariables.{variables_of, occurrences, clause_occurrences, place_among}

-- a bound: a variable, and the type above it
abbrev pub Bound : Type 0
Bound = Name × Node TypeKind

-- the variables that have a bound
abbrev pub bounded : List Bound → List Name
bounded bounds = map (λ b. b.0) bounds

-- the bound of a variable, the first where it has two
abbrev pub bound_of : List Bound → Name → Option (Node TypeKind)
bound_of [] x = Nothing
bound_of (b ∷ bounds) x = cond (same_name x b.0) (Some b.1) (bound_of bounds x)

-- for each bound the positions of those whose variables its right side mentions
abbrev pub bound_graph : List Bound → List (List ℕ)
bound_graph bounds = map (λ b. filter_map (place_among (bounded bounds)) (variables_of b.1)) bounds

-- mentions of bounded variables lead from a bound's right side back to its own variable
abbrev pub IsCyclic : List Bound → Type 0
IsCyclic bounds = (i : ℕ) × IsPath (bound_graph bounds) i i

-- whether a variable stands exactly once in a clause's parameters, result and right sides together
abbrev pub stands_once : SpecClauseKind → Name → Bool
stands_once c x = nat_eq (occurrences x (clause_occurrences c)) 1

-- what a bounded variable stands for: its bound where it stands once, and else the part of the bound that is in the variable too
abbrev pub with_bound : Bool → Option Term → Option Term → Option Term
with_bound true variable bound = bound
with_bound false variable bound = and_then variable (λ a. option_map (λ b. And (a ∷ b ∷ [])) bound)

-- in a module that declares these, where the variables themselves have these terms
module _ (declared : Declarations) (c : SpecClauseKind) (variables : Name → Option Term) where
  -- what a variable stands for, where bounded variables stand in one another's bounds at most so often
  abbrev pub stands_within : ℕ → Name → Option Term
  stands_within zero x = cond (is_some (bound_of c.bounds x)) Nothing (variables x)
  stands_within (suc k) x = by_bound (bound_of c.bounds x) (λ t. type_term declared (stands_within k) t)
    where
      by_bound : Option (Node TypeKind) → (Node TypeKind → Option Term) → Option Term
      by_bound Nothing bound_term = variables x
      by_bound (Some t) bound_term = with_bound (stands_once c x) (variables x) (bound_term t)

  -- what a variable stands for. Where no bound is cyclic, their number is enough
  abbrev pub stands_for : Name → Option Term
  stands_for x = stands_within (length c.bounds) x
