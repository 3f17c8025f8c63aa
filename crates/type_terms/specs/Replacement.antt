-- Replacing the variables of a type term by terms.
use Rattle.std.specs.Prelude.{ℕ, List, [], ◌∷◌, get_or}
use Rattle.type_terms.specs.declared.term.Field.{Field}
use Rattle.type_terms.specs.declared.term.Term.{Term, Any, None, Ints, AtomLit, AnyAtom, Nil, Cons', Tuple', AnyTuple, Map', Fun', AnyFun, Or', And', Not', Var, Name', Row_of-Term, end_of-Term, more_of-Term, Row_of-Field, end_of-Field, more_of-Field, Held-Term-Map-1, Term-Map-1-None', Some'}

-- a term for each variable
abbrev pub Substitution : Type 0
Substitution = ℕ → Term

-- the terms of a row, which is a term's own form of a list
abbrev pub terms_of : {m : _} → Row_of-Term m → List Term
terms_of end_of-Term = []
terms_of (more_of-Term t ts) = t ∷ terms_of ts

-- a term with each of its variables, at any depth, replaced by what the substitution has for it
abbrev mutual
  pub replaced : Substitution → Term → Term
  replaced f Any = Any
  replaced f None = None
  replaced f (Ints low high) = Ints low high
  replaced f (AtomLit name) = AtomLit name
  replaced f AnyAtom = AnyAtom
  replaced f Nil = Nil
  replaced f (Cons' s head t tail) = Cons' s (replaced_row f head) t (replaced_row f tail)
  replaced f (Tuple' s parts) = Tuple' s (replaced_row f parts)
  replaced f AnyTuple = AnyTuple
  replaced f (Map' s fields rest_int rest_atom) = Map' s (replaced_fields f fields) (replaced_rest f rest_int) (replaced_rest f rest_atom)
  replaced f (Fun' s parameters t result) = Fun' s (replaced_row f parameters) t (replaced_row f result)
  replaced f (AnyFun arity) = AnyFun arity
  replaced f (Or' s parts) = Or' s (replaced_row f parts)
  replaced f (And' s parts) = And' s (replaced_row f parts)
  replaced f (Not' s negated) = Not' s (replaced_row f negated)
  replaced f (Var number) = f number
  replaced f (Name' number s arguments) = Name' number s (replaced_row f arguments)

  pub replaced_row : {m : _} → Substitution → Row_of-Term m → Row_of-Term m
  replaced_row f end_of-Term = end_of-Term
  replaced_row f (more_of-Term t ts) = more_of-Term (replaced f t) (replaced_row f ts)

  pub replaced_fields : {m : _} → Substitution → Row_of-Field m → Row_of-Field m
  replaced_fields f end_of-Field = end_of-Field
  replaced_fields f (more_of-Field key required t fields) = more_of-Field key required (replaced f t) (replaced_fields f fields)

  pub replaced_rest : Substitution → Held-Term-Map-1 → Held-Term-Map-1
  replaced_rest f Term-Map-1-None' = Term-Map-1-None'
  replaced_rest f (Some' s t) = Some' s (replaced_row f t)

-- the argument that stands for a variable. A definition's body has no variable without an argument; it would be `Any`
abbrev pub argument_of : List Term → Substitution
argument_of arguments i = get_or arguments i Any

-- a term with `Var(0)`, `Var(1)`, .. replaced by the terms of a list
abbrev pub replaced_by : List Term → Term → Term
replaced_by arguments t = replaced (argument_of arguments) t

-- a field with the variables of its term replaced
abbrev pub field_replaced : Substitution → Field → Field
field_replaced f field = record { key = field.key; required = field.required; term = replaced f field.term }
