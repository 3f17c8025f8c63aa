-- The variables of type expressions, and of the clauses of specs, in text order (Erlang Reference Manual, "Types and Function Specifications").
use Rattle.std.specs.Prelude.{ℕ, ◌+◌, List, [], ◌∷◌, ◌++◌, map, length, Option, not, cond}
use Rattle.std.specs.Option.{option_map}
use Rattle.std.specs.List.{filter, list_any}
use Rattle.type_terms.specs.Keys.{Name, same_name}
use Rattle.type_terms.specs.declared.term.Term.{Term, Var}
use Rattle.erl_tree.specs.declared.token.Node.{Node}
use Rattle.erl_tree.specs.declared.type_expr.TypeKind.{TypeKind, out-TypeKind}
use Rattle.erl_tree.specs.declared.type_expr.TypeKind.TheOpen as Y
use Rattle.erl_tree.specs.declared.form.SpecClauseKind.{SpecClauseKind}
use Rattle.erl_runs.specs.Names.{is_wildcard}
use Rattle.typespecs_rules.specs.TypeParts.{from_each, types_within}
use Rattle.typespecs_rules.specs.Declarations.{position}

-- the variable that one level of a type expression is, if it is one. `_` is none, and neither is X in `X :: T`
abbrev pub variable_layer : {A B : Type 0} → Y.TypeKind-F A B → List Name
variable_layer (Y.Var x) = cond (is_wildcard x) [] (x ∷ [])
variable_layer _ = []

abbrev pub own_variable : Node TypeKind → List Name
own_variable t = variable_layer (out-TypeKind t.kind)

-- the variables of a type expression, in text order, each as often as it stands there
abbrev pub variables_of : Node TypeKind → List Name
variables_of t = from_each own_variable (types_within t)

-- names in the order of their first occurrence
abbrev pub first_occurrences : List Name → List Name
first_occurrences [] = []
first_occurrences (x ∷ xs) = x ∷ filter (λ y. not (same_name x y)) (first_occurrences xs)

-- how often a name stands among others
abbrev pub occurrences : Name → List Name → ℕ
occurrences x names = length (filter (same_name x) names)

-- the position of a name, the first where it stands twice
abbrev pub place_among : List Name → Name → Option ℕ
place_among names x = position (same_name x) names

-- variables with numbers that count from this one, by their first positions
abbrev pub numbered_from : ℕ → List Name → Name → Option Term
numbered_from first names x = option_map (λ i. Var (first + i)) (place_among names x)

-- the parameters of a type declaration: 0, 1, ..; of one that stands twice the first counts
abbrev pub parameters : List Name → Name → Option Term
parameters names = numbered_from 0 names

-- names behind others, without those that stand there already: the variables of types that are read one after the other
abbrev pub and_variables_of : List Name → Node TypeKind → List Name
and_variables_of before t = before ++ filter (λ x. not (list_any (same_name x) before)) (first_occurrences (variables_of t))

-- ---- clauses of specs

-- the type expressions of a clause in text order: its parameters, its result, and the right sides of the bounds behind `when`
abbrev pub clause_types : SpecClauseKind → List (Node TypeKind)
clause_types c = c.params ++ c.result ∷ map (λ b. b.1) c.bounds

-- its variables in text order, each as often as it stands there. The left sides of bounds don't count
abbrev pub clause_occurrences : SpecClauseKind → List Name
clause_occurrences c = from_each variables_of (clause_types c)

-- its variables in the order of first occurrence
abbrev pub clause_variables : SpecClauseKind → List Name
clause_variables c = first_occurrences (clause_occurrences c)
