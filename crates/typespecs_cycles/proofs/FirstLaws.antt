-- The first of more and more faults.
use Rattle.std.proofs.Common.{◌≡◌, refl, ap, sym, ◌∙◌, subst, ℕ, ◌+◌, ◌<◌, ◌≤◌, ◌⊎◌, inl, inr, List, [], ◌∷◌, ◌++◌, length, take, get_or, true, false, true≢false}
use Rattle.std.specs.Prelude.{Option, Some, None}
use Rattle.std.proofs.lemmas.List.{take_more, take_all}
use Rattle.erl_tree.specs.Lists.{Among}
use Rattle.typespecs_rules.specs.declared.fault.PlacedFault.{PlacedFault}
use Rattle.typespecs_rules.specs.TypeFaults.{is_earlier}
use Rattle.typespecs_rules.specs.TypeParts.{from_each}
use Rattle.typespecs_cycles.specs.FirstFaults.{IsFirstWith, OfSome, would_be_first}
use Rattle.typespecs_cycles.proofs.FaultOrder.{not-itself, not-back, not-onward}

abbrev pub First : Type 0
First = Option PlacedFault

abbrev pub Faults : Type 1
Faults = PlacedFault → Type 0

some-same : {A : Type 0} (x y : A) → Some x ≡ Some y → x ≡ y
some-same x y e = cc

none-some : {A B : Type 0} (x : A) → None ≡ Some x → B
none-some x e = absurd (cc)

itself-by : (f g : PlacedFault) → f ≡ g → is_earlier g f ≡ false
itself-by f g e = subst (λ h. is_earlier h f ≡ false) e (not-itself f)

-- ---- one more

-- where nothing comes
pub none-more : (P : Faults) (old : First) → ((f : PlacedFault) → P f → ⊥) → IsFirstWith old P old
none-more P None never = λ f. by f
  where
    by : (f : PlacedFault) → (None ≡ Some f) ⊎ P f → ⊥
    by f (inl e) = none-some f e
    by f (inr p) = never f p
none-more P (Some x) never = (inl refl, λ g. by g)
  where
    by : (g : PlacedFault) → (Some x ≡ Some g) ⊎ P g → is_earlier g x ≡ false
    by g (inl e) = itself-by x g (some-same x g e)
    by g (inr p) = absurd (never g p)

-- where what comes isn't earlier
pub not-first : (P : Faults) (old : First) (new : PlacedFault) → ((f : PlacedFault) → P f → f ≡ new) → would_be_first old new ≡ false → IsFirstWith old P old
not-first P None new is h = absurd (true≢false h)
not-first P (Some x) new is h = (inl refl, λ g. by g)
  where
    by : (g : PlacedFault) → (Some x ≡ Some g) ⊎ P g → is_earlier g x ≡ false
    by g (inl e) = itself-by x g (some-same x g e)
    by g (inr p) = subst (λ f. is_earlier f x ≡ false) (sym (is g p)) h

-- where it is
pub new-first : (P : Faults) (old : First) (new : PlacedFault) → P new → ((f : PlacedFault) → P f → f ≡ new) → would_be_first old new ≡ true → IsFirstWith old P (Some new)
new-first P old new here is h = (inr here, λ g. by old g h)
  where
    by : (o : First) (g : PlacedFault) → would_be_first o new ≡ true → (o ≡ Some g) ⊎ P g → is_earlier g new ≡ false
    by None g h' (inl e) = none-some g e
    by (Some x) g h' (inl e) = subst (λ f. is_earlier f new ≡ false) (some-same x g e) (not-back new x h')
    by o g h' (inr p) = itself-by new g (sym (is g p))

-- ---- in turn

pub alike : (P Q : Faults) (old new : First) → ((f : PlacedFault) → P f → Q f) → ((f : PlacedFault) → Q f → P f) → IsFirstWith old P new → IsFirstWith old Q new
alike P Q old None to from h = λ f. by f
  where
    by : (f : PlacedFault) → (old ≡ Some f) ⊎ Q f → ⊥
    by f (inl e) = h f (inl e)
    by f (inr q) = h f (inr (from f q))
alike P Q old (Some x) to from h = (there h.0, λ g. by g)
  where
    there : (old ≡ Some x) ⊎ P x → (old ≡ Some x) ⊎ Q x
    there (inl e) = inl e
    there (inr p) = inr (to x p)

    by : (g : PlacedFault) → (old ≡ Some g) ⊎ Q g → is_earlier g x ≡ false
    by g (inl e) = h.1 g (inl e)
    by g (inr q) = h.1 g (inr (from g q))

module _ (P Q : Faults) (old : First) where
  pub in-turn : (mid new : First) → IsFirstWith old P mid → IsFirstWith mid Q new → IsFirstWith old (λ f. P f ⊎ Q f) new
  in-turn None None h k = λ f. by f
    where
      by : (f : PlacedFault) → (old ≡ Some f) ⊎ (P f ⊎ Q f) → ⊥
      by f (inl e) = h f (inl e)
      by f (inr (inl p)) = h f (inr p)
      by f (inr (inr q)) = k f (inr q)
  in-turn (Some x) None h k = absurd (k x (inl refl))
  in-turn None (Some z) h k = (there k.0, λ g. by g)
    where
      there : (None ≡ Some z) ⊎ Q z → (old ≡ Some z) ⊎ (P z ⊎ Q z)
      there (inl e) = none-some z e
      there (inr q) = inr (inr q)

      by : (g : PlacedFault) → (old ≡ Some g) ⊎ (P g ⊎ Q g) → is_earlier g z ≡ false
      by g (inl e) = absurd (h g (inl e))
      by g (inr (inl p)) = absurd (h g (inr p))
      by g (inr (inr q)) = k.1 g (inr q)
  in-turn (Some x) (Some z) h k = (there k.0, λ g. by g)
    where
      here : (old ≡ Some x) ⊎ P x → (old ≡ Some x) ⊎ (P x ⊎ Q x)
      here (inl e) = inl e
      here (inr p) = inr (inl p)

      there : (Some x ≡ Some z) ⊎ Q z → (old ≡ Some z) ⊎ (P z ⊎ Q z)
      there (inl e) = subst (λ f. (old ≡ Some f) ⊎ (P f ⊎ Q f)) (some-same x z e) (here h.0)
      there (inr q) = inr (inr q)

      by : (g : PlacedFault) → (old ≡ Some g) ⊎ (P g ⊎ Q g) → is_earlier g z ≡ false
      by g (inl e) = not-onward g x z (h.1 g (inl e)) (k.1 x (inl refl))
      by g (inr (inl p)) = not-onward g x z (h.1 g (inr p)) (k.1 x (inl refl))
      by g (inr (inr q)) = k.1 g (inr q)

-- ---- lists

among-append : {A : Type 0} (x : A) (xs ys : List A) → Among x (xs ++ ys) → Among x xs ⊎ Among x ys
among-append x [] ys a = inr a
among-append x (z ∷ xs) ys (inl e) = inl (inl e)
among-append x (z ∷ xs) ys (inr a) = more (among-append x xs ys a)
  where
    more : Among x xs ⊎ Among x ys → Among x (z ∷ xs) ⊎ Among x ys
    more (inl b) = inl (inr b)
    more (inr b) = inr b

pub among-left : {A : Type 0} (x : A) (xs ys : List A) → Among x xs → Among x (xs ++ ys)
among-left x [] ys a = absurd a
among-left x (z ∷ xs) ys (inl e) = inl e
among-left x (z ∷ xs) ys (inr a) = inr (among-left x xs ys a)

pub among-right : {A : Type 0} (x : A) (xs ys : List A) → Among x ys → Among x (xs ++ ys)
among-right x [] ys a = a
among-right x (z ∷ xs) ys a = inr (among-right x xs ys a)

module _ {A : Type 0} (P : A → Faults) (xs : List A) (start : First) where
  -- the first of what stood at the start and of the faults of the elements before this one
  abbrev pub IsFirstTo : ℕ → First → Type 0
  IsFirstTo i first = IsFirstWith start (OfSome P (take i xs)) first

  pub first-start : IsFirstTo 0 start
  first-start = none-more (OfSome P []) start (λ f o. o.1)

  pub first-next : (i : ℕ) (x : A) (first new : First) → i < length xs → x ≡ get_or xs i x → IsFirstWith first (P x) new → IsFirstTo i first → IsFirstTo (i + 1) new
  first-next i x first new lt is step so_far =
      subst (λ ys. IsFirstWith start (OfSome P ys) new) (sym (take_more xs i x lt ∙ ap (λ y. take i xs ++ y ∷ []) (sym is)))
      (alike (λ f. OfSome P (take i xs) f ⊎ P x f) (OfSome P (take i xs ++ x ∷ [])) start new (λ f. into f) (λ f. from f) (in-turn (OfSome P (take i xs)) (P x) start first new so_far step))
    where
      into : (f : PlacedFault) → OfSome P (take i xs) f ⊎ P x f → OfSome P (take i xs ++ x ∷ []) f
      into f (inl o) = (o.0, among-left o.0 (take i xs) (x ∷ []) o.1, o.2)
      into f (inr p) = (x, among-right x (take i xs) (x ∷ []) (inl refl), p)

      either : (f : PlacedFault) (y : A) → P y f → Among y (take i xs) ⊎ Among y (x ∷ []) → OfSome P (take i xs) f ⊎ P x f
      either f y p (inl a) = inl (y, a, p)
      either f y p (inr (inl e)) = inr (subst (λ z. P z f) e p)
      either f y p (inr (inr a)) = absurd a

      from : (f : PlacedFault) → OfSome P (take i xs ++ x ∷ []) f → OfSome P (take i xs) f ⊎ P x f
      from f o = either f o.0 o.2 (among-append o.0 (take i xs) (x ∷ []) o.1)

  pub first-end : (i : ℕ) (first : First) → length xs ≤ i → IsFirstTo i first → IsFirstWith start (OfSome P xs) first
  first-end i first le so_far = subst (λ ys. IsFirstWith start (OfSome P ys) first) (take_all i xs le) so_far

-- ---- lists of lists

module _ {A B : Type 0} (P : B → Faults) (g : A → List B) where
  pub each-into : (xs : List A) (f : PlacedFault) → OfSome (λ x. OfSome P (g x)) xs f → OfSome P (from_each g xs) f
  each-into [] f o = absurd o.1
  each-into (y ∷ xs) f o = by o.0 o.1 o.2 (each-into xs f)
    where
      by : (x : A) → Among x (y ∷ xs) → OfSome P (g x) f → (OfSome (λ z. OfSome P (g z)) xs f → OfSome P (from_each g xs) f) → OfSome P (g y ++ from_each g xs) f
      by x (inl e) q later = let r : OfSome P (g y) f = subst (λ z. OfSome P (g z) f) e q in (r.0, among-left r.0 (g y) (from_each g xs) r.1, r.2)
      by x (inr a) q later = let r : OfSome P (from_each g xs) f = later (x, a, q) in (r.0, among-right r.0 (g y) (from_each g xs) r.1, r.2)

  pub each-from : (xs : List A) (f : PlacedFault) → OfSome P (from_each g xs) f → OfSome (λ x. OfSome P (g x)) xs f
  each-from [] f o = absurd o.1
  each-from (y ∷ xs) f o = by (among-append o.0 (g y) (from_each g xs) o.1) (each-from xs f)
    where
      by : Among o.0 (g y) ⊎ Among o.0 (from_each g xs) → (OfSome P (from_each g xs) f → OfSome (λ x. OfSome P (g x)) xs f) → OfSome (λ x. OfSome P (g x)) (y ∷ xs) f
      by (inl a) later = (y, inl refl, (o.0, a, o.2))
      by (inr a) later = let r : OfSome (λ x. OfSome P (g x)) xs f = later (o.0, a, o.2) in (r.0, inr r.1, r.2)
