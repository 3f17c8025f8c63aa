-- What holds of every item of a list.
use Rattle.std.proofs.Common.{◌≡◌, List, [], ◌∷◌, ◌++◌, map, inl, inr, sym, subst}
use Rattle.erl_tree.specs.Lists.{Every, Among}

module _ {A : Type 0} where
  pub Every-among : (P : A → Type 0) (x : A) (xs : List A) → Every P xs → Among x xs → P x
  Every-among P x [] h there = absurd there
  Every-among P x (y ∷ ys) h there = elim there [ inl e ↦ subst P (sym e) h.0 | inr later ↦ Every-among P x ys h.1 later ]

  pub Every-append : (P : A → Type 0) (xs ys : List A) → Every P xs → Every P ys → Every P (xs ++ ys)
  Every-append P [] ys h g = g
  Every-append P (x ∷ xs) ys h g = (h.0, Every-append P xs ys h.1 g)

  pub Every-front : (P : A → Type 0) (xs ys : List A) → Every P (xs ++ ys) → Every P xs
  Every-front P [] ys h = tt
  Every-front P (x ∷ xs) ys h = (h.0, Every-front P xs ys h.1)

  pub Every-back : (P : A → Type 0) (xs ys : List A) → Every P (xs ++ ys) → Every P ys
  Every-back P [] ys h = h
  Every-back P (x ∷ xs) ys h = Every-back P xs ys h.1

  pub Every-as : (P Q : A → Type 0) → ((x : A) → P x → Q x) → (xs : List A) → Every P xs → Every Q xs
  Every-as P Q f [] h = tt
  Every-as P Q f (x ∷ xs) h = (f x h.0, Every-as P Q f xs h.1)

  pub Every-both : (P Q : A → Type 0) (xs : List A) → Every P xs → Every Q xs → Every (λ x. P x × Q x) xs
  Every-both P Q [] h g = tt
  Every-both P Q (x ∷ xs) h g = ((h.0, g.0), Every-both P Q xs h.1 g.1)

  module _ {B : Type 0} (f : A → B) (P : B → Type 0) where
    pub Every-map : (xs : List A) → Every (λ x. P (f x)) xs → Every P (map f xs)
    Every-map [] h = tt
    Every-map (x ∷ xs) h = (h.0, Every-map xs h.1)

    pub Every-unmap : (xs : List A) → Every P (map f xs) → Every (λ x. P (f x)) xs
    Every-unmap [] h = tt
    Every-unmap (x ∷ xs) h = (h.0, Every-unmap xs h.1)

-- a list that is made of a list for each item
module _ {A B : Type 0} (f : A → List B) (made : List A → List B) (P : B → Type 0) (none : made [] ≡ []) (more : (x : A) (xs : List A) → made (x ∷ xs) ≡ f x ++ made xs) where
  pub Every-made : (xs : List A) → Every (λ x. Every P (f x)) xs → Every P (made xs)
  Every-made [] h = subst (Every P) (sym none) tt
  Every-made (x ∷ xs) h = subst (Every P) (sym (more x xs)) (Every-append P (f x) (made xs) h.0 (Every-made xs h.1))

  pub Every-unmade : (xs : List A) → Every P (made xs) → Every (λ x. Every P (f x)) xs
  Every-unmade [] h = tt
  Every-unmade (x ∷ xs) h =
      let g = subst (Every P) (more x xs) h in
      (Every-front P (f x) (made xs) g, Every-unmade xs (Every-back P (f x) (made xs) g))
