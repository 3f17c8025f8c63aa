-- The built-in types and their names (Erlang Reference Manual, "Types and their Syntax", predefined and built-in types). Their names are reserved with any number of parameters by this project's own rule, and those of values that it leaves out can't be used.
use Rattle.std.specs.Prelude.{ℕ, zero, suc, ℤ, pos, negsuc, List, [], ◌∷◌, Option, Some, None as Nothing, Bool, false, ◌||◌, cond, is_some, codes}
use Rattle.std.specs.List.{list_any}
use Rattle.type_terms.specs.Keys.{Name, same_name}
use Rattle.type_terms.specs.declared.term.Term.{Term, Any, None, Ints, AtomLit, AnyAtom, Nil, Cons, Tuple, AnyTuple, Map, AnyFun, Or, Name as NameTerm}

-- the lists of a type, which are definition 0, and those that aren't empty
abbrev pub list_of : Term → Term
list_of t = NameTerm 0 (t ∷ [])

abbrev pub nonempty_list_of : Term → Term
nonempty_list_of t = Cons t (list_of t)

-- the integers between two ends
abbrev pub between : ℤ → ℤ → Term
between low high = Ints (Some low) (Some high)

-- the characters, by their code points
abbrev pub characters : Term
characters = between (pos 0) (pos 1114111)

-- the built-in types that are written without arguments, each with its term
abbrev pub plain_types : List (Name × Term)
plain_types = (codes "any", Any) ∷ (codes "term", Any) ∷ (codes "none", None) ∷ (codes "no_return", None)
    ∷ (codes "integer", Ints Nothing Nothing) ∷ (codes "non_neg_integer", Ints (Some (pos 0)) Nothing) ∷ (codes "pos_integer", Ints (Some (pos 1)) Nothing) ∷ (codes "neg_integer", Ints Nothing (Some (negsuc 0)))
    ∷ (codes "byte", between (pos 0) (pos 255)) ∷ (codes "char", characters) ∷ (codes "arity", between (pos 0) (pos 255))
    ∷ (codes "atom", AnyAtom) ∷ (codes "module", AnyAtom)
    ∷ (codes "boolean", Or (AtomLit (codes "true") ∷ AtomLit (codes "false") ∷ []))
    ∷ (codes "timeout", Or (AtomLit (codes "infinity") ∷ Ints (Some (pos 0)) Nothing ∷ []))
    ∷ (codes "nil", Nil) ∷ (codes "list", list_of Any) ∷ (codes "nonempty_list", nonempty_list_of Any)
    ∷ (codes "string", list_of characters) ∷ (codes "nonempty_string", nonempty_list_of characters)
    ∷ (codes "tuple", AnyTuple) ∷ (codes "mfa", Tuple (AnyAtom ∷ AnyAtom ∷ between (pos 0) (pos 255) ∷ []))
    ∷ (codes "map", Map [] (Some Any) (Some Any)) ∷ (codes "function", AnyFun Nothing) ∷ []

-- the names of types that are out of the profile, with any number of arguments
abbrev pub types_out_of_profile : List Name
types_out_of_profile = codes "pid" ∷ codes "port" ∷ codes "reference" ∷ codes "float" ∷ codes "number" ∷ codes "binary" ∷ codes "bitstring" ∷ codes "nonempty_binary" ∷ codes "nonempty_bitstring"
    ∷ codes "iolist" ∷ codes "iodata" ∷ codes "identifier" ∷ codes "node" ∷ codes "dynamic" ∷ codes "maybe_improper_list" ∷ codes "nonempty_improper_list" ∷ codes "nonempty_maybe_improper_list" ∷ []

-- the term of the first type with this name
abbrev pub term_among : List (Name × Term) → Name → Option Term
term_among [] name = Nothing
term_among (t ∷ ts) name = cond (same_name t.0 name) (Some t.1) (term_among ts name)

-- the lists of one type: `list(T)` and `nonempty_list(T)`
abbrev pub list_type : Name → Term → Option Term
list_type name t = cond (same_name name (codes "list")) (Some (list_of t)) (cond (same_name name (codes "nonempty_list")) (Some (nonempty_list_of t)) Nothing)

-- the term of a built-in type with these arguments
abbrev pub built_in_term : Name → List Term → Option Term
built_in_term name [] = term_among plain_types name
built_in_term name (t ∷ []) = list_type name t
built_in_term name _ = Nothing

-- whether a name is that of a type that is out of the profile
abbrev pub is_out_of_profile : Name → Bool
is_out_of_profile name = list_any (same_name name) types_out_of_profile

-- whether a name is a built-in type's, which no module declares anew
abbrev pub is_built_in_name : Name → Bool
is_built_in_name name = is_some (term_among plain_types name) || is_out_of_profile name

-- whether a built-in type is written with so many arguments
abbrev pub is_built_in_type : Name → ℕ → Bool
is_built_in_type name zero = is_some (term_among plain_types name)
is_built_in_type name (suc zero) = is_some (list_type name Any)
is_built_in_type name _ = false
