-- Loops that note the faults of each part of a row.
use Rattle.std.proofs.Common.{◌≡◌, ℕ, ◌+◌, ◌<◌, ◌≤◌, List, [], ◌∷◌, ◌++◌, length, drop, get_or, refl, sym, ap, ap₂, ◌∙◌, Option, append_assoc}
use Rattle.std.specs.Prelude.{Result, Ok, Err, OnOk, IfOk}
use Rattle.std.proofs.lemmas.List.{drop_more, drop_all}
use Rattle.typespecs_rules.specs.declared.fault.PlacedFault.{PlacedFault}
use Rattle.typespecs_rules.specs.TypeParts.{from_each}
use Rattle.typespecs_rules.specs.Earliest.{earliest}
use Rattle.typespecs_faults.proofs.EarliestLaws.{earliest-append}

-- what is left of a row at a part
pub rest_at : {A : Type 0} (xs : List A) (i : ℕ) (x : A) → i < length xs → x ≡ get_or xs i x → drop i xs ≡ x ∷ drop (i + 1) xs
rest_at xs i x lt is = drop_more xs i x lt ∙ ap (λ y. y ∷ drop (i + 1) xs) (sym is)

module _ {A : Type 0} (of : A → List PlacedFault) (xs : List A) (start : Option PlacedFault) where
  -- the faults from here on are all that is left to note
  abbrev pub IsNotedTo : ℕ → Option PlacedFault → Type 0
  IsNotedTo i first = earliest first (from_each of (drop i xs)) ≡ earliest start (from_each of xs)

  pub noted_next : (i : ℕ) (x : A) (first new : Option PlacedFault) → i < length xs → x ≡ get_or xs i x → new ≡ earliest first (of x) → IsNotedTo i first → IsNotedTo (i + 1) new
  noted_next i x first new lt is e so_far =
      ap (λ f. earliest f (from_each of (drop (i + 1) xs))) e
      ∙ (sym (earliest-append first (of x) (from_each of (drop (i + 1) xs))) ∙ (ap (λ ys. earliest first (from_each of ys)) (sym (rest_at xs i x lt is)) ∙ so_far))

  pub noted_last : (i : ℕ) (first : Option PlacedFault) → length xs ≤ i → IsNotedTo i first → first ≡ earliest start (from_each of xs)
  noted_last i first end so_far = ap (λ ys. earliest first (from_each of ys)) (sym (drop_all i xs end)) ∙ so_far

-- ---- steps

-- the same faults
pub noted_same : (old new : Option PlacedFault) (fs gs : List PlacedFault) → fs ≡ gs → new ≡ earliest old fs → new ≡ earliest old gs
noted_same old new fs gs e h = h ∙ ap (earliest old) e

-- some, and then others
pub noted_two : (old mid new : Option PlacedFault) (fs gs : List PlacedFault) → mid ≡ earliest old fs → new ≡ earliest mid gs → new ≡ earliest old (fs ++ gs)
noted_two old mid new fs gs h k = k ∙ (ap (λ f. earliest f gs) h ∙ sym (earliest-append old fs gs))

pub on_ok : {A E : Type 0} (r : Result A E) (P Q : Type 0) → (P → Q) → OnOk r P → OnOk r Q
on_ok (Ok a) P Q f h = f h
on_ok (Err e) P Q f h = tt

pub if_ok : {A E : Type 0} (r : Result A E) (P Q : A → Type 0) → ((a : A) → P a → Q a) → IfOk r P → IfOk r Q
if_ok (Ok a) P Q f h = f a h
if_ok (Err e) P Q f h = tt

pub from_each-append : {A : Type 0} (of : A → List PlacedFault) (xs ys : List A) → from_each of (xs ++ ys) ≡ from_each of xs ++ from_each of ys
from_each-append of [] ys = refl
from_each-append of (x ∷ xs) ys = ap (λ fs. of x ++ fs) (from_each-append of xs ys) ∙ sym (append_assoc (of x) (from_each of xs) (from_each of ys))

pub each-alike : {A : Type 0} (f g : A → List PlacedFault) → ((x : A) → f x ≡ g x) → (xs : List A) → from_each f xs ≡ from_each g xs
each-alike f g h [] = refl
each-alike f g h (x ∷ xs) = ap₂ ◌++◌ (h x) (each-alike f g h xs)
