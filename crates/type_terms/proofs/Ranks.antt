-- Definitions with ranks: each name that stands bare in a body ranks below the definition that the body is of.
use Rattle.std.specs.Prelude.{◌≡◌, ℕ, suc, ◌<◌, List, length, slice_get, Some}
use Rattle.type_terms.specs.declared.term.Term.{Term, Any, None, Ints, AtomLit, AnyAtom, Nil, Cons', Tuple', AnyTuple, Map', Fun', AnyFun, Or', And', Not', Var, Name', Row_of-Term, end_of-Term, more_of-Term}
use Rattle.type_terms.specs.declared.term.Def.{Def}

-- of what stands in a term under no constructor, the names fulfil P and the variables V; what stands in argument j of a name n there counts where `open_in n j`
abbrev mutual
  pub all_bare : (ℕ → Type 0) → (ℕ → Type 0) → (ℕ → ℕ → Type 0) → Term → Type 0
  all_bare P V o Any = Unit {0}
  all_bare P V o None = Unit {0}
  all_bare P V o (Ints a b) = Unit {0}
  all_bare P V o (AtomLit a) = Unit {0}
  all_bare P V o AnyAtom = Unit {0}
  all_bare P V o Nil = Unit {0}
  all_bare P V o (Cons' s a t b) = Unit {0}
  all_bare P V o (Tuple' s ts) = Unit {0}
  all_bare P V o AnyTuple = Unit {0}
  all_bare P V o (Map' s fs r q) = Unit {0}
  all_bare P V o (Fun' s ts t a) = Unit {0}
  all_bare P V o (AnyFun n) = Unit {0}
  all_bare P V o (Or' s ts) = all_bare_row P V o ts
  all_bare P V o (And' s ts) = all_bare_row P V o ts
  all_bare P V o (Not' s ts) = all_bare_row P V o ts
  all_bare P V o (Var n) = V n
  all_bare P V o (Name' n s ts) = P n × all_bare_args P V o n (λ j. j) ts

  pub all_bare_row : {m : _} → (ℕ → Type 0) → (ℕ → Type 0) → (ℕ → ℕ → Type 0) → Row_of-Term m → Type 0
  all_bare_row P V o end_of-Term = Unit {0}
  all_bare_row P V o (more_of-Term t ts) = all_bare P V o t × all_bare_row P V o ts

  -- `w j` is the place, among all arguments of n, of the j-th of these
  pub all_bare_args : {m : _} → (ℕ → Type 0) → (ℕ → Type 0) → (ℕ → ℕ → Type 0) → ℕ → (ℕ → ℕ) → Row_of-Term m → Type 0
  all_bare_args P V o n w end_of-Term = Unit {0}
  all_bare_args P V o n w (more_of-Term t ts) = (o n (w 0) → all_bare P V o t) × all_bare_args P V o n (λ j. w (suc j)) ts

-- each name that stands bare in the body of n ranks below n, each variable there is one that n is open in, and ranks are below the number of definitions
pub record Ranked (defs : List Def) (rank : ℕ → ℕ) (open_in : ℕ → ℕ → Type 0) : Type 0 where
  pub bodies : (n : ℕ) (d : Def) → slice_get defs n ≡ Some d → all_bare (λ m. rank m < rank n) (open_in n) open_in d.body
  pub bounded : (n : ℕ) → rank n < length defs
