-- Replacing nothing, and replacing twice.
use Rattle.std.proofs.Common.{◌≡◌, refl}
use Rattle.type_terms.specs.declared.term.Term.{Term, Any, None, Ints, AtomLit, AnyAtom, Nil, Cons', Tuple', AnyTuple, Map', Fun', AnyFun, Or', And', Not', Var, Name', Row_of-Term, end_of-Term, more_of-Term, Row_of-Field, end_of-Field, more_of-Field, Held-Term-Map-1, Term-Map-1-None', Some'}
use Rattle.type_terms.specs.Replacement.{Substitution, replaced, replaced_row, replaced_fields, replaced_rest}

mutual
  pub replaced-id : (t : Term) → replaced Var t ≡ t
  replaced-id Any = refl
  replaced-id None = refl
  replaced-id (Ints a b) = refl
  replaced-id (AtomLit a) = refl
  replaced-id AnyAtom = refl
  replaced-id Nil = refl
  replaced-id (Cons' s a t b) = λ i. Cons' s (replaced_row-id a i) t (replaced_row-id b i)
  replaced-id (Tuple' s ts) = λ i. Tuple' s (replaced_row-id ts i)
  replaced-id AnyTuple = refl
  replaced-id (Map' s fs r q) = λ i. Map' s (replaced_fields-id fs i) (replaced_rest-id r i) (replaced_rest-id q i)
  replaced-id (Fun' s ts t a) = λ i. Fun' s (replaced_row-id ts i) t (replaced_row-id a i)
  replaced-id (AnyFun n) = refl
  replaced-id (Or' s ts) = λ i. Or' s (replaced_row-id ts i)
  replaced-id (And' s ts) = λ i. And' s (replaced_row-id ts i)
  replaced-id (Not' s ts) = λ i. Not' s (replaced_row-id ts i)
  replaced-id (Var n) = refl
  replaced-id (Name' n s ts) = λ i. Name' n s (replaced_row-id ts i)

  pub replaced_row-id : {m : _} (ts : Row_of-Term m) → replaced_row Var ts ≡ ts
  replaced_row-id end_of-Term = refl
  replaced_row-id (more_of-Term t ts) = λ i. more_of-Term (replaced-id t i) (replaced_row-id ts i)

  pub replaced_fields-id : {m : _} (fs : Row_of-Field m) → replaced_fields Var fs ≡ fs
  replaced_fields-id end_of-Field = refl
  replaced_fields-id (more_of-Field k r t fs) = λ i. more_of-Field k r (replaced-id t i) (replaced_fields-id fs i)

  pub replaced_rest-id : (r : Held-Term-Map-1) → replaced_rest Var r ≡ r
  replaced_rest-id Term-Map-1-None' = refl
  replaced_rest-id (Some' s t) = λ i. Some' s (replaced_row-id t i)

mutual
  pub replaced-replaced : (f g : Substitution) (t : Term) → replaced f (replaced g t) ≡ replaced (λ i. replaced f (g i)) t
  replaced-replaced f g Any = refl
  replaced-replaced f g None = refl
  replaced-replaced f g (Ints a b) = refl
  replaced-replaced f g (AtomLit a) = refl
  replaced-replaced f g AnyAtom = refl
  replaced-replaced f g Nil = refl
  replaced-replaced f g (Cons' s a t b) = λ i. Cons' s (replaced_row-replaced f g a i) t (replaced_row-replaced f g b i)
  replaced-replaced f g (Tuple' s ts) = λ i. Tuple' s (replaced_row-replaced f g ts i)
  replaced-replaced f g AnyTuple = refl
  replaced-replaced f g (Map' s fs r q) = λ i. Map' s (replaced_fields-replaced f g fs i) (replaced_rest-replaced f g r i) (replaced_rest-replaced f g q i)
  replaced-replaced f g (Fun' s ts t a) = λ i. Fun' s (replaced_row-replaced f g ts i) t (replaced_row-replaced f g a i)
  replaced-replaced f g (AnyFun n) = refl
  replaced-replaced f g (Or' s ts) = λ i. Or' s (replaced_row-replaced f g ts i)
  replaced-replaced f g (And' s ts) = λ i. And' s (replaced_row-replaced f g ts i)
  replaced-replaced f g (Not' s ts) = λ i. Not' s (replaced_row-replaced f g ts i)
  replaced-replaced f g (Var n) = refl
  replaced-replaced f g (Name' n s ts) = λ i. Name' n s (replaced_row-replaced f g ts i)

  pub replaced_row-replaced : {m : _} (f g : Substitution) (ts : Row_of-Term m) → replaced_row f (replaced_row g ts) ≡ replaced_row (λ i. replaced f (g i)) ts
  replaced_row-replaced f g end_of-Term = refl
  replaced_row-replaced f g (more_of-Term t ts) = λ i. more_of-Term (replaced-replaced f g t i) (replaced_row-replaced f g ts i)

  pub replaced_fields-replaced : {m : _} (f g : Substitution) (fs : Row_of-Field m) → replaced_fields f (replaced_fields g fs) ≡ replaced_fields (λ i. replaced f (g i)) fs
  replaced_fields-replaced f g end_of-Field = refl
  replaced_fields-replaced f g (more_of-Field k r t fs) = λ i. more_of-Field k r (replaced-replaced f g t i) (replaced_fields-replaced f g fs i)

  pub replaced_rest-replaced : (f g : Substitution) (r : Held-Term-Map-1) → replaced_rest f (replaced_rest g r) ≡ replaced_rest (λ i. replaced f (g i)) r
  replaced_rest-replaced f g Term-Map-1-None' = refl
  replaced_rest-replaced f g (Some' s t) = λ i. Some' s (replaced_row-replaced f g t i)
