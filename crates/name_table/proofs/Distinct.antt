-- Lists without a repetition, one element longer.
use Rattle.std.proofs.Common.{List, [], ◌∷◌, ◌++◌, ◌⊎◌, inl, inr, sym}
use Rattle.erl_tree.specs.Lists.{Among, AreDistinct}

module _ {A : Type 0} where
  pub Among-append_left : (x : A) (xs ys : List A) → Among x xs → Among x (xs ++ ys)
  Among-append_left x [] ys h = absurd h
  Among-append_left x (y ∷ xs) ys h = elim h [ inl e ↦ inl e | inr there ↦ inr (Among-append_left x xs ys there) ]

  pub Among-append_right : (x : A) (xs ys : List A) → Among x ys → Among x (xs ++ ys)
  Among-append_right x [] ys h = h
  Among-append_right x (y ∷ xs) ys h = inr (Among-append_right x xs ys h)

  pub Among-append : (x : A) (xs ys : List A) → Among x (xs ++ ys) → Among x xs ⊎ Among x ys
  Among-append x [] ys h = inr h
  Among-append x (y ∷ xs) ys h = elim h [ inl e ↦ inl (inl e) | inr there ↦ elim (Among-append x xs ys there) [ inl a ↦ inl (inr a) | inr b ↦ inr b ] ]

  pub AreDistinct-push : (xs : List A) (y : A) → AreDistinct xs → (Among y xs → ⊥) → AreDistinct (xs ++ y ∷ [])
  AreDistinct-push [] y h new = ((λ e. e), tt)
  AreDistinct-push (x ∷ xs) y h new = (apart, AreDistinct-push xs y h.1 (λ there. new (inr there)))
    where
      apart : Among x (xs ++ y ∷ []) → ⊥
      apart there = elim (Among-append x xs (y ∷ []) there) [ inl before ↦ h.0 before | inr last ↦ elim last [ inl e ↦ new (inl (sym e)) | inr none ↦ none ] ]
