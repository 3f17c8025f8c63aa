-- The built-in types that are written without arguments, by their kind, and their names in parts.
use Rattle.std.specs.Prelude.{pos, negsuc, List, [], ◌∷◌, Some, None as Nothing, codes}
use Rattle.type_terms.specs.Keys.{Name}
use Rattle.type_terms.specs.declared.term.Term.{Term, Any, None, Ints, AtomLit, AnyAtom, Nil, Tuple, AnyTuple, Map, AnyFun, Or}
use Rattle.typespecs_rules.specs.BuiltInTypes.{list_of, nonempty_list_of, between, characters}
use Rattle.typespecs_built_ins.specs.declared.plain.PlainType.{PlainType}
use Rattle.typespecs_built_ins.specs.declared.plain.PlainType.TheVariants as P

-- the term of a built-in type
abbrev pub plain_term : PlainType → Term
plain_term P.Any = Any
plain_term P.None = None
plain_term P.Integer = Ints Nothing Nothing
plain_term P.NotNegative = Ints (Some (pos 0)) Nothing
plain_term P.Positive = Ints (Some (pos 1)) Nothing
plain_term P.Negative = Ints Nothing (Some (negsuc 0))
plain_term P.Byte = between (pos 0) (pos 255)
plain_term P.Char = characters
plain_term P.Atom = AnyAtom
plain_term P.Boolean = Or (AtomLit (codes "true") ∷ AtomLit (codes "false") ∷ [])
plain_term P.Timeout = Or (AtomLit (codes "infinity") ∷ Ints (Some (pos 0)) Nothing ∷ [])
plain_term P.Nil = Nil
plain_term P.List = list_of Any
plain_term P.NonemptyList = nonempty_list_of Any
plain_term P.String = list_of characters
plain_term P.NonemptyString = nonempty_list_of characters
plain_term P.Tuple = AnyTuple
plain_term P.Mfa = Tuple (AnyAtom ∷ AnyAtom ∷ between (pos 0) (pos 255) ∷ [])
plain_term P.Map = Map [] (Some Any) (Some Any)
plain_term P.Function = AnyFun Nothing

-- the types of integers
abbrev pub integer_types : List (Name × Term)
integer_types = (codes "integer", Ints Nothing Nothing) ∷ (codes "non_neg_integer", Ints (Some (pos 0)) Nothing) ∷ (codes "pos_integer", Ints (Some (pos 1)) Nothing) ∷ (codes "neg_integer", Ints Nothing (Some (negsuc 0)))
    ∷ (codes "byte", between (pos 0) (pos 255)) ∷ (codes "char", characters) ∷ (codes "arity", between (pos 0) (pos 255)) ∷ []

-- the types of all values, of no value and of atoms
abbrev pub first_types : List (Name × Term)
first_types = (codes "any", Any) ∷ (codes "term", Any) ∷ (codes "none", None) ∷ (codes "no_return", None) ∷ []

abbrev pub atom_types : List (Name × Term)
atom_types = (codes "atom", AnyAtom) ∷ (codes "module", AnyAtom)
    ∷ (codes "boolean", Or (AtomLit (codes "true") ∷ AtomLit (codes "false") ∷ []))
    ∷ (codes "timeout", Or (AtomLit (codes "infinity") ∷ Ints (Some (pos 0)) Nothing ∷ [])) ∷ []

-- the types of lists
abbrev pub list_types : List (Name × Term)
list_types = (codes "nil", Nil) ∷ (codes "list", list_of Any) ∷ (codes "nonempty_list", nonempty_list_of Any)
    ∷ (codes "string", list_of characters) ∷ (codes "nonempty_string", nonempty_list_of characters) ∷ []

-- the types of tuples, maps and funs
abbrev pub other_types : List (Name × Term)
other_types = (codes "tuple", AnyTuple) ∷ (codes "mfa", Tuple (AnyAtom ∷ AnyAtom ∷ between (pos 0) (pos 255) ∷ []))
    ∷ (codes "map", Map [] (Some Any) (Some Any)) ∷ (codes "function", AnyFun Nothing) ∷ []

-- the names of types that are out of the profile: in three parts
abbrev pub value_names : List Name
value_names = codes "pid" ∷ codes "port" ∷ codes "reference" ∷ codes "float" ∷ codes "number" ∷ codes "binary" ∷ codes "bitstring" ∷ codes "nonempty_binary" ∷ []

abbrev pub list_names : List Name
list_names = codes "nonempty_bitstring" ∷ codes "iolist" ∷ codes "iodata" ∷ codes "identifier" ∷ []

abbrev pub other_names : List Name
other_names = codes "node" ∷ codes "dynamic" ∷ codes "maybe_improper_list" ∷ codes "nonempty_improper_list" ∷ codes "nonempty_maybe_improper_list" ∷ []
