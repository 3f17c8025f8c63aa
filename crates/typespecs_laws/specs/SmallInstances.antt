-- Small definitions, for the examples.
use Rattle.std.specs.Prelude.{List, [], ◌∷◌}
use Rattle.type_terms.specs.Definitions.{list_definition}
use Rattle.type_terms.specs.declared.term.Def.{Def}
use Rattle.type_terms.specs.declared.term.Term.{Term, Any, Tuple, Var, Name}

-- list(A) = [] | cons(A, list(A)), alone
abbrev pub lists : List Def
lists = list_definition ∷ []

-- list(any) and list(list(any))
abbrev pub list_of_any : Term
list_of_any = Name 0 (Any ∷ [])

abbrev pub list_of_lists : Term
list_of_lists = Name 0 (list_of_any ∷ [])

-- t(A) = {A, t({A, A})}
abbrev pub growing : List Def
growing = record { params = 1; body = Tuple (Var 0 ∷ Name 0 (Tuple (Var 0 ∷ Var 0 ∷ []) ∷ []) ∷ []) } ∷ []
