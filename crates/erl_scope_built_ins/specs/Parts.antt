-- The names of the built-in functions, in parts.
use Rattle.std.specs.Prelude.{List, [], ◌∷◌, codes}
use Rattle.type_terms.specs.Keys.{Name}

-- the built-in functions with one argument, in three parts; beside them there is `is_function` with two
abbrev pub type_tests : List Name
type_tests = codes "is_atom" ∷ codes "is_boolean" ∷ codes "is_integer" ∷ codes "is_list" ∷ codes "is_map" ∷ codes "is_tuple" ∷ codes "is_function" ∷ []

abbrev pub operations : List Name
operations = codes "hd" ∷ codes "tl" ∷ codes "length" ∷ codes "tuple_size" ∷ codes "map_size" ∷ codes "abs" ∷ []

abbrev pub exceptions : List Name
exceptions = codes "error" ∷ codes "throw" ∷ codes "exit" ∷ []
