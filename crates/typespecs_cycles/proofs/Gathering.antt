-- Loops that gather what each element of a list gives.
use Rattle.std.proofs.Common.{◌≡◌, refl, ap, ap₂, sym, ◌∙◌, ℕ, ◌+◌, ◌<◌, ◌≤◌, List, [], ◌∷◌, ◌++◌, length, take, get_or, map, append_assoc, append-nil}
use Rattle.std.proofs.lemmas.List.{take_more, take_all}
use Rattle.std.proofs.lemmas.List.Elements.{filter_map-append}
use Rattle.std.specs.Prelude.{Option, Some, None}
use Rattle.std.specs.List.{filter_map}
use Rattle.typespecs_rules.specs.RegularUse.{if_some}
use Rattle.typespecs_rules.specs.TypeParts.{from_each}
use Rattle.typespecs_rules.proofs.RightTypes.{from_each-append}

module _ {A B : Type 0} (h : A → List B) (xs : List A) (start : List B) where
  -- what stood there at the start, and what the elements before this one give
  abbrev pub IsGathered : ℕ → List B → Type 0
  IsGathered i list = list ≡ start ++ from_each h (take i xs)

  pub gathered-next : (i : ℕ) (x : A) (list new part : List B) → i < length xs → x ≡ get_or xs i x → part ≡ h x → new ≡ list ++ part → IsGathered i list → IsGathered (i + 1) new
  gathered-next i x list new part lt is gives more so_far =
      more ∙ (ap₂ ◌++◌ so_far gives
      ∙ (append_assoc start (from_each h (take i xs)) (h x)
      ∙ ap (λ ys. start ++ ys) (ap (λ ys. from_each h (take i xs) ++ ys) (sym (append-nil (h x))) ∙ (sym (from_each-append h (take i xs) (x ∷ []))
      ∙ ap (from_each h) (sym (take_more xs i x lt ∙ ap (λ y. take i xs ++ y ∷ []) (sym is)))))))

  pub gathered-same : (i : ℕ) (x : A) (list : List B) → i < length xs → x ≡ get_or xs i x → [] ≡ h x → IsGathered i list → IsGathered (i + 1) list
  gathered-same i x list lt is gives so_far = gathered-next i x list list [] lt is gives (sym (append-nil list)) so_far

  pub gathered-end : (i : ℕ) (list : List B) → length xs ≤ i → IsGathered i list → list ≡ start ++ from_each h xs
  gathered-end i list le so_far = so_far ∙ ap (λ ys. start ++ from_each h ys) (take_all i xs le)

-- an empty list at the start
pub gathered-start : {A B : Type 0} (h : A → List B) (xs : List A) (list start : List B) → list ≡ start → IsGathered h xs start 0 list
gathered-start h xs list start e = e ∙ sym (append-nil start)

-- ---- the same list in other words

pub each-map : {A B C : Type 0} (h : B → List C) (v : A → B) (xs : List A) → from_each (λ x. h (v x)) xs ≡ from_each h (map v xs)
each-map h v [] = refl
each-map h v (x ∷ xs) = ap (λ ys. h (v x) ++ ys) (each-map h v xs)

pub each-each : {A B C : Type 0} (h : B → List C) (g : A → List B) (xs : List A) → from_each (λ x. from_each h (g x)) xs ≡ from_each h (from_each g xs)
each-each h g [] = refl
each-each h g (x ∷ xs) = ap (λ ys. from_each h (g x) ++ ys) (each-each h g xs) ∙ sym (from_each-append h (g x) (from_each g xs))

pub each-one : {A B : Type 0} (f : A → B) (xs : List A) → from_each (λ x. f x ∷ []) xs ≡ map f xs
each-one f [] = refl
each-one f (x ∷ xs) = ap (λ ys. f x ∷ ys) (each-one f xs)

pub each-filter : {A B C : Type 0} (f : B → Option C) (g : A → List B) (xs : List A) → from_each (λ x. filter_map f (g x)) xs ≡ filter_map f (from_each g xs)
each-filter f g [] = refl
each-filter f g (x ∷ xs) = ap (λ ys. filter_map f (g x) ++ ys) (each-filter f g xs) ∙ sym (filter_map-append f (g x) (from_each g xs))

pub map-twice : {A B C : Type 0} (f : B → C) (g : A → B) (xs : List A) → map (λ x. f (g x)) xs ≡ map f (map g xs)
map-twice f g [] = refl
map-twice f g (x ∷ xs) = ap (λ ys. f (g x) ∷ ys) (map-twice f g xs)

pub map-append : {A B : Type 0} (f : A → B) (xs ys : List A) → map f (xs ++ ys) ≡ map f xs ++ map f ys
map-append f [] ys = refl
map-append f (x ∷ xs) ys = ap (λ zs. f x ∷ zs) (map-append f xs ys)

pub one-some : (o : Option ℕ) (n : ℕ) → o ≡ Some n → n ∷ [] ≡ if_some o
one-some o n e = sym (ap if_some e)

pub one-none : (o : Option ℕ) → o ≡ None → [] ≡ if_some o
one-none o e = sym (ap if_some e)

pub one-absent : (o : Option ℕ) → ((n : ℕ) → o ≡ Some n → ⊥) → [] ≡ if_some o
one-absent None f = refl
one-absent (Some n) f = absurd (f n refl)
