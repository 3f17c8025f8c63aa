-- The unfolding of a type term: the names that stand under no constructor are replaced by their definitions' bodies.
use Rattle.std.specs.Prelude.{ℕ, zero, suc, List, length, slice_get, Option, Some, None as Nothing, nat_eq, if◌then◌else◌}
use Rattle.type_terms.specs.declared.term.Def.{Def}
use Rattle.type_terms.specs.declared.term.Term.{Term, Any, None, Ints, AtomLit, AnyAtom, Nil, Cons', Tuple', AnyTuple, Map', Fun', AnyFun, Or', And', Not', Var, Name', Row_of-Term, end_of-Term, more_of-Term}
use Rattle.type_terms.specs.Replacement.{Substitution, replaced_row, replaced_fields, replaced_rest, terms_of, argument_of}

-- what a name with its arguments unfolds to; of each argument it is given the term and the term's unfolding
abbrev pub NameUnfolding : Type 0
NameUnfolding = ℕ → List Term → List Term → Term

-- f replaces the variables under constructors, and g those that stand under none
abbrev mutual
  pub unfolded_in : NameUnfolding → Substitution → Substitution → Term → Term
  unfolded_in e f g Any = Any
  unfolded_in e f g None = None
  unfolded_in e f g (Ints low high) = Ints low high
  unfolded_in e f g (AtomLit name) = AtomLit name
  unfolded_in e f g AnyAtom = AnyAtom
  unfolded_in e f g Nil = Nil
  unfolded_in e f g (Cons' s head t tail) = Cons' s (replaced_row f head) t (replaced_row f tail)
  unfolded_in e f g (Tuple' s parts) = Tuple' s (replaced_row f parts)
  unfolded_in e f g AnyTuple = AnyTuple
  unfolded_in e f g (Map' s fields rest_int rest_atom) = Map' s (replaced_fields f fields) (replaced_rest f rest_int) (replaced_rest f rest_atom)
  unfolded_in e f g (Fun' s parameters t result) = Fun' s (replaced_row f parameters) t (replaced_row f result)
  unfolded_in e f g (AnyFun arity) = AnyFun arity
  unfolded_in e f g (Or' s parts) = Or' s (unfolded_row e f g parts)
  unfolded_in e f g (And' s parts) = And' s (unfolded_row e f g parts)
  unfolded_in e f g (Not' s negated) = Not' s (unfolded_row e f g negated)
  unfolded_in e f g (Var number) = g number
  unfolded_in e f g (Name' number s arguments) = e number (terms_of (replaced_row f arguments)) (terms_of (unfolded_row e f g arguments))

  pub unfolded_row : {m : _} → NameUnfolding → Substitution → Substitution → Row_of-Term m → Row_of-Term m
  unfolded_row e f g end_of-Term = end_of-Term
  unfolded_row e f g (more_of-Term t ts) = more_of-Term (unfolded_in e f g t) (unfolded_row e f g ts)

-- the body of a definition that has this number of parameters
abbrev pub body_of : Option Def → ℕ → Option Term
body_of Nothing n = Nothing
body_of (Some def) n = if nat_eq def.params n then Some def.body else Nothing

-- what is made of a body, and `None` where there is no body
abbrev pub or_none : Option Term → (Term → Term) → Term
or_none Nothing go = None
or_none (Some body) go = go body

-- a name's unfolding with at most this many definitions inside one another. A name that has no definition with that number of parameters is `None`
abbrev pub name_unfolded : List Def → ℕ → NameUnfolding
name_unfolded defs zero n arguments unfoldings = None
name_unfolded defs (suc k) n arguments unfoldings =
    or_none (body_of (slice_get defs n) (length arguments)) (unfolded_in (name_unfolded defs k) (argument_of arguments) (argument_of unfoldings))

-- a term's unfolding. Among contractive definitions no more than all of them stand inside one another under no constructor, so their number is enough
abbrev pub unfolded : List Def → Term → Term
unfolded defs t = unfolded_in (name_unfolded defs (length defs)) Var Var t
