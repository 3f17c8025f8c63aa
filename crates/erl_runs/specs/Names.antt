-- The names that the language itself gives a meaning: the variable `_`, and the built-in functions (Erlang Reference Manual, "Expressions" on variables; the manual page of the module `erlang`).
use Rattle.std.specs.Prelude.{List, [], ◌∷◌, Bool, nat_eq, ◌&&◌, codes}
use Rattle.std.specs.List.{list_any}
use Rattle.std.specs.Str.{bytes_eq}
use Rattle.type_terms.specs.Keys.{Name, same_name}
use Rattle.erl_tree.specs.Functions.{FunctionId, of_function}

-- the variable `_`
abbrev pub is_wildcard : Name → Bool
is_wildcard x = bytes_eq x (codes "_")

-- the built-in functions, which no module defines anew
abbrev pub built_ins : List FunctionId
built_ins = of_function (codes "is_atom") 1 ∷ of_function (codes "is_boolean") 1 ∷ of_function (codes "is_integer") 1 ∷ of_function (codes "is_list") 1 ∷ of_function (codes "is_map") 1 ∷ of_function (codes "is_tuple") 1
    ∷ of_function (codes "is_function") 1 ∷ of_function (codes "is_function") 2 ∷ of_function (codes "hd") 1 ∷ of_function (codes "tl") 1 ∷ of_function (codes "length") 1 ∷ of_function (codes "tuple_size") 1
    ∷ of_function (codes "map_size") 1 ∷ of_function (codes "abs") 1 ∷ of_function (codes "error") 1 ∷ of_function (codes "throw") 1 ∷ of_function (codes "exit") 1 ∷ []

-- whether names and arities agree
abbrev pub same_id : FunctionId → FunctionId → Bool
same_id f g = same_name f.name g.name && nat_eq f.arity g.arity

-- whether a function is built in
abbrev pub is_built_in : FunctionId → Bool
is_built_in id = list_any (same_id id) built_ins
