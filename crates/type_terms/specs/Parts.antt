-- The parts of a type term.
use Rattle.std.specs.Prelude.{List, [], ◌∷◌, ◌++◌, Option, Some, None as Nothing, cond}
use Rattle.std.specs.List.{Contains}
use Rattle.type_terms.specs.Keys.{same_key}
use Rattle.type_terms.specs.declared.term.Key.{Key}
use Rattle.type_terms.specs.declared.term.Field.{Field}
use Rattle.type_terms.specs.declared.term.Term.{Term, out-Term}
use Rattle.type_terms.specs.declared.term.Term.TheOpen.{Term-F, Any, None, Ints, AtomLit, AnyAtom, Nil, Cons, Tuple, AnyTuple, Map, Fun, AnyFun, Or, And, Not, Var, Name}

-- the terms of a map term's fields
abbrev pub field_terms : List Field → List Term
field_terms [] = []
field_terms (field ∷ fields) = field.term ∷ field_terms fields

-- the keys of a map term's fields
abbrev pub field_keys : List Field → List Key
field_keys [] = []
field_keys (field ∷ fields) = field.key ∷ field_keys fields

-- the term of the first field with this key
abbrev pub field_term : Key → List Field → Option Term
field_term k [] = Nothing
field_term k (field ∷ fields) = cond (same_key k field.key) (Some field.term) (field_term k fields)

-- the term of a rest that is there
abbrev pub rest_terms : Option Term → List Term
rest_terms Nothing = []
rest_terms (Some term) = term ∷ []

-- the terms in one level of a term
abbrev pub layer_children : Term-F Term Field → List Term
layer_children Any = []
layer_children None = []
layer_children (Ints low high) = []
layer_children (AtomLit name) = []
layer_children AnyAtom = []
layer_children Nil = []
layer_children (Cons head tail) = head ∷ tail ∷ []
layer_children (Tuple parts) = parts
layer_children AnyTuple = []
layer_children (Map fields rest_int rest_atom) = field_terms fields ++ (rest_terms rest_int ++ rest_terms rest_atom)
layer_children (Fun parameters result) = parameters ++ (result ∷ [])
layer_children (AnyFun arity) = []
layer_children (Or parts) = parts
layer_children (And parts) = parts
layer_children (Not negated) = negated ∷ []
layer_children (Var number) = []
layer_children (Name number arguments) = arguments

-- the terms that a term is made of, one level down
abbrev pub children : Term → List Term
children t = layer_children (out-Term t)

-- the operands in one level of a term
abbrev pub layer_operands : Term-F Term Field → List Term
layer_operands (Or parts) = parts
layer_operands (And parts) = parts
layer_operands (Not negated) = negated ∷ []
layer_operands _ = []

-- the parts of an `Or`, `And` or `Not`, which stand under no constructor
abbrev pub operands : Term → List Term
operands t = layer_operands (out-Term t)

-- the terms in one level of a term, but for a `Not` and a name
abbrev pub layer_positive_children : Term-F Term Field → List Term
layer_positive_children (Not negated) = []
layer_positive_children (Name number arguments) = []
layer_positive_children layer = layer_children layer

-- the children of a term that is neither a `Not` nor a name
abbrev pub positive_children : Term → List Term
positive_children t = layer_positive_children (out-Term t)

-- the first term stands in the second, at any depth
pub data IsPart : Term → Term → Type 0 where
  itself : (t : Term) → IsPart t t
  in_child : (part child whole : Term) → Contains (children whole) child → IsPart part child → IsPart part whole
