-- The items of a loop over a list, and the list so far.
use Rattle.std.proofs.Common.{◌≡◌, refl, sym, ◌∙◌, ap, subst, ℕ, zero, suc, ◌+◌, ◌<◌, List, [], ◌∷◌, ◌++◌, length, take, get_or, arith, add-one}
use Rattle.std.specs.Prelude.{Option, Some, map, nat_eq, slice_get}
use Rattle.std.proofs.lemmas.Bool.{eqb-true}
use Rattle.std.specs.Prelude.{Bool, true, false}
use Rattle.std.proofs.lemmas.Option.{slice_get_read}
use Rattle.erl_tree.specs.Lists.{Every}
use Rattle.erl_runs.specs.Specs.{and_then, all_present}
use Rattle.cert_checker.proofs.Lists.{none-some, some-inj, then-some}

-- the item of a loop
pub item-found : {A : Type 0} (items xs : List A) (i : ℕ) (x : A) → items ≡ xs → i < length items → x ≡ get_or items i x → slice_get xs i ≡ Some x
item-found items xs i x e l h = subst (λ z. slice_get z i ≡ Some x) e (slice_get_read items (length items) i x refl l h)

taken-suc : {A : Type 0} (xs : List A) (i : ℕ) (x : A) → slice_get xs i ≡ Some x → take (suc i) xs ≡ take i xs ++ x ∷ []
taken-suc [] i x e = none-some x e
taken-suc (y ∷ xs) zero x e = ap (λ z. z ∷ []) (some-inj y x e)
taken-suc (y ∷ xs) (suc i) x e = ap (λ z. y ∷ z) (taken-suc xs i x e)

-- the items so far, and one more
pub take-more : {A : Type 0} (xs : List A) (i : ℕ) (x : A) → slice_get xs i ≡ Some x → take (i + 1) xs ≡ take i xs ++ x ∷ []
take-more xs i x e = ap (λ k. take k xs) (add-one i) ∙ taken-suc xs i x e

pub take-all : {A : Type 0} (xs : List A) (i : ℕ) → i ≡ length xs → take i xs ≡ xs
take-all xs i e = ap (λ k. take k xs) e ∙ go xs
  where
    go : {A : Type 0} (xs : List A) → take (length xs) xs ≡ xs
    go [] = refl
    go (x ∷ xs) = ap (λ z. x ∷ z) (go xs)

-- the list around an item
pub split-at : {A : Type 0} (xs : List A) (i : ℕ) (x : A) → slice_get xs i ≡ Some x → (after : List A) × (xs ≡ take i xs ++ x ∷ after)
split-at [] i x e = none-some x e
split-at (y ∷ xs) zero x e = (xs, ap (λ z. z ∷ xs) (some-inj y x e))
split-at (y ∷ xs) (suc i) x e = let r : (after : List _) × (xs ≡ take i xs ++ x ∷ after) = split-at xs i x e in (r.0, ap (λ z. y ∷ z) r.1)

pub every-get : {A : Type 0} (P : A → Type 0) (xs : List A) (i : ℕ) (x : A) → Every P xs → slice_get xs i ≡ Some x → P x
every-get P [] i x h e = none-some x e
every-get P (y ∷ xs) zero x h e = subst P (some-inj y x e) h.0
every-get P (y ∷ xs) (suc i) x h e = every-get P xs i x h.1 e

pub get-before : {A : Type 0} (xs ys : List A) (i : ℕ) (x : A) → slice_get xs i ≡ Some x → slice_get (xs ++ ys) i ≡ Some x
get-before [] ys i x e = none-some x e
get-before (y ∷ xs) ys zero x e = e
get-before (y ∷ xs) ys (suc i) x e = get-before xs ys i x e

pub get-last : {A : Type 0} (xs : List A) (i : ℕ) (x : A) → length xs ≡ i → slice_get (xs ++ x ∷ []) i ≡ Some x
get-last xs i x e = subst (λ k. slice_get (xs ++ x ∷ []) k ≡ Some x) e (go xs)
  where
    go : (ys : List _) → slice_get (ys ++ x ∷ []) (length ys) ≡ Some x
    go [] = refl
    go (y ∷ ys) = go ys

below : (k i : ℕ) → k < i + 1 → nat_eq k i ≡ false → k < i
below k i l s = grind (arith)

-- an index up to a place is below it or there
pub below-or-there : {P : Type 0} (k i : ℕ) → k < i + 1 → (k < i → P) → (k ≡ i → P) → P
below-or-there {P = P} k i l before there = go (nat_eq k i) refl
  where
    go : (b : Bool) → nat_eq k i ≡ b → P
    go true e = there (eqb-true k i e)
    go false e = before (below k i l e)

-- ---- optional values

pub present-more : {A B : Type 0} (f : A → Option B) (xs : List A) (x : A) (ys : List B) → all_present (map f (xs ++ x ∷ [])) ≡ Some ys → (zs : List B) × (y : B) × (all_present (map f xs) ≡ Some zs) × (f x ≡ Some y) × (ys ≡ zs ++ y ∷ [])
present-more f [] x ys e =
    let p : (y : _) × (f x ≡ Some y) × (Some (y ∷ []) ≡ Some ys) = then-some (f x) _ ys e in
    ([], p.0, refl, p.1, sym (some-inj _ ys p.2))
present-more f (w ∷ xs) x ys e =
    let p : (v : _) × (f w ≡ Some v) × (and_then (all_present (map f (xs ++ x ∷ []))) (λ more. Some (v ∷ more)) ≡ Some ys) = then-some (f w) _ ys e in
    let q : (more : List _) × (all_present (map f (xs ++ x ∷ [])) ≡ Some more) × (Some (p.0 ∷ more) ≡ Some ys) = then-some (all_present (map f (xs ++ x ∷ []))) _ ys p.2 in
    let r : (zs : List _) × (y : _) × (all_present (map f xs) ≡ Some zs) × (f x ≡ Some y) × (q.0 ≡ zs ++ y ∷ []) = present-more f xs x q.0 q.1 in (
      p.0 ∷ r.0,
      r.1,
      ap (λ z. and_then z (λ v. and_then (all_present (map f xs)) (λ more. Some (v ∷ more)))) p.1 ∙ ap (λ z. and_then z (λ more. Some (p.0 ∷ more))) r.2,
      r.3,
      sym (some-inj _ ys q.2) ∙ ap (λ z. p.0 ∷ z) r.4,
    )
