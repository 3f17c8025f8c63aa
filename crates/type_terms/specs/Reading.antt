-- What a type term says of one value, given what it says of the value's parts (semantic subtyping, Frisch, Castagna, Benzaken 2008: a type is the set of its values).
use Rattle.std.specs.Prelude.{◌≡◌, ℕ, ℤ, pos, negsuc, List, [], ◌∷◌, Bool, true, false, cond, ◌&&◌, ◌||◌, nat_eq, nat_le, length, Option, Some, None as Nothing}
use Rattle.type_terms.specs.declared.term.Key.{Key}
use Rattle.type_terms.specs.declared.term.Key.TheVariants.{Int as IntKey, Atom as AtomKey}
use Rattle.type_terms.specs.declared.term.Def.{Def}
use Rattle.type_terms.specs.declared.term.Term.{Term, Any, None, Ints, AtomLit, AnyAtom, Nil, Cons', Tuple', AnyTuple, Map', Fun', AnyFun, Or', And', Not', Var, Name', Row_of-Term, end_of-Term, more_of-Term, Row_of-Field, end_of-Field, more_of-Field, Held-Term-Map-1, Term-Map-1-None', Some'}
use Rattle.type_terms.specs.declared.term.Field.{Field}
use Rattle.type_terms.specs.Keys.{Name, same_name, same_key}
use Rattle.type_terms.specs.Parts.{field_term}
use Rattle.type_terms.specs.Replacement.{terms_of}
use Rattle.type_terms.specs.Unfolding.{unfolded}
use Rattle.type_terms.specs.Instances.{Instance, no_variables, variable_and}

-- whether one value is in a term, with names read by definitions and variables by an instance
abbrev pub Reading : Type 1
Reading = Term → List Def → Instance → Type 0

-- the head of a value, with the reading of each part in the part's place; a fun has its arity, and whether it gives such a result for such arguments
pub data Layer : Type 1 where
  integer_layer : ℤ → Layer
  atom_layer : Name → Layer
  nil_layer : Layer
  cons_layer : Reading → Reading → Layer
  tuple_layer : List {1} Reading → Layer
  map_layer : List {1} (Key × Reading) → Layer
  fun_layer : ℕ → (List Term → Term → List Def → Instance → Type 0) → Layer

-- whether an integer is at most another one
abbrev pub le_int : ℤ → ℤ → Bool
le_int (pos m) (pos n) = nat_le m n
le_int (pos m) (negsuc n) = false
le_int (negsuc m) (pos n) = true
le_int (negsuc m) (negsuc n) = nat_le n m

-- whether an integer is at least the lower end; an absent end is open
abbrev pub at_least : Option ℤ → ℤ → Bool
at_least Nothing n = true
at_least (Some low) n = le_int low n

-- whether an integer is at most the upper end
abbrev pub at_most : Option ℤ → ℤ → Bool
at_most Nothing n = true
at_most (Some high) n = le_int n high

-- an integer between the ends
abbrev pub is_integer : Option ℤ → Option ℤ → Layer → Type 0
is_integer low high (integer_layer n) = (at_least low n && at_most high n) ≡ true
is_integer low high _ = ⊥

-- this atom
abbrev pub is_atom : Name → Layer → Type 0
is_atom a (atom_layer b) = same_name b a ≡ true
is_atom a _ = ⊥

-- an atom
abbrev pub is_any_atom : Layer → Type 0
is_any_atom (atom_layer b) = Unit {0}
is_any_atom _ = ⊥

-- the empty list
abbrev pub is_nil : Layer → Type 0
is_nil nil_layer = Unit {0}
is_nil _ = ⊥

-- a cell with such a head and such a tail
abbrev pub is_cons : (Reading → Type 0) → (Reading → Type 0) → Layer → Type 0
is_cons p q (cons_layer head tail) = p head × q tail
is_cons p q _ = ⊥

-- as many parts as terms, each in its term
abbrev pub each_in : List {1} Reading → List Term → List Def → Instance → Type 0
each_in [] [] d i = Unit {0}
each_in (r ∷ rs) (t ∷ ts) d i = r t d i × each_in rs ts d i
each_in _ _ d i = ⊥

-- a tuple of such elements
abbrev pub is_tuple : List Term → List Def → Instance → Layer → Type 0
is_tuple ts d i (tuple_layer parts) = each_in parts ts d i
is_tuple ts d i _ = ⊥

-- a tuple
abbrev pub is_any_tuple : Layer → Type 0
is_any_tuple (tuple_layer parts) = Unit {0}
is_any_tuple _ = ⊥

-- a fun has that arity; an absent arity allows all
abbrev pub of_arity : Option ℕ → ℕ → Type 0
of_arity Nothing n = Unit {0}
of_arity (Some arity) n = nat_eq n arity ≡ true

-- a fun of that arity that gives such a result for such arguments
abbrev pub is_fun : List Term → Term → List Def → Instance → Layer → Type 0
is_fun ss t d i (fun_layer n gives) = (nat_eq n (length ss) ≡ true) × gives ss t d i
is_fun ss t d i _ = ⊥

-- a fun, of that arity if one is given
abbrev pub is_any_fun : Option ℕ → Layer → Type 0
is_any_fun arity (fun_layer n gives) = of_arity arity n
is_any_fun arity _ = ⊥

-- the term of the field with this key
abbrev pub field_of : {m : _} → Key → Row_of-Field m → Option Term
field_of k end_of-Field = Nothing
field_of k (more_of-Field key required t fields) = cond (same_key k key) (Some t) (field_of k fields)

-- the term of a rest, where it is there
abbrev pub rest_term : Held-Term-Map-1 → Option Term
rest_term Term-Map-1-None' = Nothing
rest_term (Some' s (more_of-Term t end_of-Term)) = Some t

-- the rest for keys of this kind
abbrev pub rest_of : Key → Option Term → Option Term → Option Term
rest_of (IntKey n) rest_int rest_atom = rest_int
rest_of (AtomKey a) rest_int rest_atom = rest_atom

-- the first of two terms that is there
abbrev pub or_else : Option Term → Option Term → Option Term
or_else Nothing o = o
or_else (Some t) o = Some t

-- the term that a map term has for a key: the key's field, or else the rest of the key's kind
abbrev pub term_for : Key → List Field → Option Term → Option Term → Option Term
term_for k fields rest_int rest_atom = or_else (field_term k fields) (rest_of k rest_int rest_atom)

-- there is a term, and it is as asked
abbrev pub if_some : Option Term → (Term → Type 0) → Type 0
if_some Nothing p = ⊥
if_some (Some t) p = p t

-- each entry's value is in its key's field, or, where there is none, in the rest of its key's kind, which must be there
abbrev pub entries_in : {m : _} → Row_of-Field m → Option Term → Option Term → List Def → Instance → List {1} (Key × Reading) → Type 0
entries_in fields rest_int rest_atom d i [] = Unit {0}
entries_in fields rest_int rest_atom d i (e ∷ es) =
    if_some (or_else (field_of e.0 fields) (rest_of e.0 rest_int rest_atom)) (λ t. e.1 t d i) × entries_in fields rest_int rest_atom d i es

-- whether a key is there
abbrev pub has_key : Key → List {1} (Key × Reading) → Bool
has_key k [] = false
has_key k (e ∷ es) = same_key e.0 k || has_key k es

-- each required key is there
abbrev pub has_required : {m : _} → Row_of-Field m → List {1} (Key × Reading) → Type 0
has_required end_of-Field es = Unit {0}
has_required (more_of-Field key required t fields) es = (required ≡ true → has_key key es ≡ true) × has_required fields es

-- a map with such entries and with each required key
abbrev pub is_map : {m : _} → Row_of-Field m → Held-Term-Map-1 → Held-Term-Map-1 → List Def → Instance → Layer → Type 0
is_map fields rest_int rest_atom d i (map_layer es) = entries_in fields (rest_term rest_int) (rest_term rest_atom) d i es × has_required fields es
is_map fields rest_int rest_atom d i _ = ⊥

-- a term that is unfolded, read of a layer. `Or` is "not outside each part": without the law of excluded middle, which no proof here may use, this keeps a refutation of "outside" as good as a proof of "inside", and to a classical reader it is the same sentence as "in one of the parts"
module _ (layer : Layer) (defs : List Def) (inst : Instance) (variable : ℕ → Type 0) where
  abbrev mutual
    pub holds : Term → Type 0
    holds Any = Unit {0}
    holds None = ⊥
    holds (Ints low high) = is_integer low high layer
    holds (AtomLit name) = is_atom name layer
    holds AnyAtom = is_any_atom layer
    holds Nil = is_nil layer
    holds (Cons' s (more_of-Term head end_of-Term) t (more_of-Term tail end_of-Term)) = is_cons (λ r. r head defs inst) (λ r. r tail defs inst) layer
    holds (Tuple' s parts) = is_tuple (terms_of parts) defs inst layer
    holds AnyTuple = is_any_tuple layer
    holds (Map' s fields rest_int rest_atom) = is_map fields rest_int rest_atom defs inst layer
    holds (Fun' s parameters t (more_of-Term result end_of-Term)) = is_fun (terms_of parameters) result defs inst layer
    holds (AnyFun arity) = is_any_fun arity layer
    holds (Or' s parts) = some_holds parts
    holds (And' s parts) = all_hold parts
    holds (Not' s (more_of-Term negated end_of-Term)) = holds negated → ⊥
    holds (Var number) = variable number
    holds (Name' number s arguments) = ⊥

    pub some_holds : {m : _} → Row_of-Term m → Type 0
    some_holds end_of-Term = ⊥
    some_holds (more_of-Term t ts) = (holds t → ⊥) × (some_holds ts → ⊥) → ⊥

    pub all_hold : {m : _} → Row_of-Term m → Type 0
    all_hold end_of-Term = Unit {0}
    all_hold (more_of-Term t ts) = holds t × all_hold ts

-- a variable with an entry is read by the entry, and any other one by its tag
abbrev pub variable_in : Layer → (ℕ → Type 0) → Instance → ℕ → Type 0
variable_in l tag no_variables a = tag a
variable_in l tag (variable_and b t d inner rest) a = cond (nat_eq a b) (holds l d inner (variable_in l tag inner) (unfolded d t)) (variable_in l tag rest a)

-- a term is read by its unfolding
abbrev pub read : Layer → (ℕ → Type 0) → Reading
read l tag t d i = holds l d i (variable_in l tag i) (unfolded d t)
