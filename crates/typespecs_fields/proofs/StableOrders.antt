-- A list in order whose elements that tie stand in a given order is determined by both.
use Rattle.std.proofs.Common.{◌≡◌, refl, sym, ◌∙◌, ap, subst, ℕ, suc, ◌+◌, Bool, true, false, cond, not, ◌&&◌, List, [], ◌∷◌, ◌++◌, get_or, arith, true≢false, reverse}
use mathlib.Core.List.{reverse-cons}
use Rattle.std.specs.List.{filter}
use Rattle.std.specs.List.Sorted.{ties, IsSortedBy, IsStableBy}
use Rattle.std.specs.Cmp.{IsStrictWeakOrder}
use Rattle.std.proofs.lemmas.List.Elements.{filter-append}

module _ {X : Type 0} (lt : X → X → Bool) (o : IsStrictWeakOrder lt) where
  -- nothing in a list is less than an element
  abbrev pub IsBelow : X → List X → Type 0
  IsBelow x [] = Unit {0}
  IsBelow x (y ∷ ys) = (lt y x ≡ false) × IsBelow x ys

  -- nothing is less than what stands before it
  abbrev pub IsRising : List X → Type 0
  IsRising [] = Unit {0}
  IsRising (x ∷ xs) = IsBelow x xs × IsRising xs

  pub IsBelow-chain : (x y : X) (ys : List X) → lt y x ≡ false → IsBelow y ys → IsBelow x ys
  IsBelow-chain x y [] e b = tt
  IsBelow-chain x y (z ∷ ys) e b = (o.chain z y x b.0 e, IsBelow-chain x y ys e b.1)

  pub IsRising-from_sorted : (xs : List X) → IsSortedBy lt xs → IsRising xs
  IsRising-from_sorted [] s = tt
  IsRising-from_sorted (x ∷ []) s = (tt, tt)
  IsRising-from_sorted (x ∷ y ∷ ys) s =
      let more : IsRising (y ∷ ys) = IsRising-from_sorted (y ∷ ys) (λ k d a b. later k d (s (suc k) d (omega arith) (omega arith))) in
      let first : lt y x ≡ false = s 0 x (omega arith) (omega arith) in
      ((first, IsBelow-chain x y ys first more.0), more)
    where
      later : (k : ℕ) (d : X) → lt (get_or (x ∷ y ∷ ys) (suc k + 1) d) (get_or (x ∷ y ∷ ys) (suc k) d) ≡ false → lt (get_or (y ∷ ys) (k + 1) d) (get_or (y ∷ ys) k d) ≡ false
      later k d h = let e : suc k + 1 ≡ suc (k + 1) = omega arith in subst (λ n. lt (get_or (x ∷ y ∷ ys) n d) (get_or (y ∷ ys) k d) ≡ false) e h

  -- what an element is placed among
  abbrev pub placed_by : X → List X → List X
  placed_by x [] = x ∷ []
  placed_by x (y ∷ ys) = cond (lt x y) (x ∷ y ∷ ys) (y ∷ placed_by x ys)

  pub irreflexive : (x : X) → lt x x ≡ false
  irreflexive x = go (lt x x) refl
    where
      go : (b : Bool) → lt x x ≡ b → lt x x ≡ false
      go true e = o.one_way x x e
      go false e = e

  pub IsBelow-placed : (x y : X) (ys : List X) → lt y x ≡ false → IsBelow x ys → IsBelow x (placed_by y ys)
  IsBelow-placed x y [] e b = (e, tt)
  IsBelow-placed x y (z ∷ ys) e b = go (lt y z) (IsBelow-placed x y ys e b.1)
    where
      go : (c : Bool) → IsBelow x (placed_by y ys) → IsBelow x (cond c (y ∷ z ∷ ys) (z ∷ placed_by y ys))
      go true later = (e, b)
      go false later = (b.0, later)

  pub IsRising-placed : (x : X) (ys : List X) → IsRising ys → IsRising (placed_by x ys)
  IsRising-placed x [] r = (tt, tt)
  IsRising-placed x (y ∷ ys) r = go (lt x y) refl (IsRising-placed x ys r.1)
    where
      go : (c : Bool) → lt x y ≡ c → IsRising (placed_by x ys) → IsRising (cond c (x ∷ y ∷ ys) (y ∷ placed_by x ys))
      go true e later = ((o.one_way x y e, IsBelow-chain x y ys (o.one_way x y e) r.0), r)
      go false e later = (IsBelow-placed y x ys e r.0, later)

  -- whether two elements tie, by each test
  pub ties-from : (x y : X) → lt x y ≡ false → lt y x ≡ false → ties lt x y ≡ true
  ties-from x y a b = λ i. not (a i) && not (b i)

  pub ties-left : (x y : X) → ties lt x y ≡ true → lt x y ≡ false
  ties-left x y t = go (lt x y) (lt y x) t
    where
      go : (a b : Bool) → (not a && not b) ≡ true → a ≡ false
      go true b t = absurd (true≢false (sym t))
      go false b t = refl

  pub ties-right : (x y : X) → ties lt x y ≡ true → lt y x ≡ false
  ties-right x y t = go (lt x y) (lt y x) t
    where
      go : (a b : Bool) → (not a && not b) ≡ true → b ≡ false
      go true b t = absurd (true≢false (sym t))
      go false true t = absurd (true≢false (sym t))
      go false false t = refl

  -- what is above an element ties with nothing that the element ties with
  pub no_tie : (x y : X) (ys : List X) → lt x y ≡ true → IsBelow y ys → (w : X) → ties lt w x ≡ true → filter (ties lt w) (y ∷ ys) ≡ []
  no_tie x y ys e b w t = go (ties lt w y) refl (rest ys b)
    where
      apart : (z : X) → lt z y ≡ false → ties lt w z ≡ true → lt x y ≡ false
      apart z above u = o.chain x w y (ties-right w x t) (o.chain w z y (ties-left w z u) above)

      go : (c : Bool) → ties lt w y ≡ c → filter (ties lt w) ys ≡ [] → cond c (y ∷ filter (ties lt w) ys) (filter (ties lt w) ys) ≡ []
      go true u none = absurd (true≢false (sym e ∙ apart y (irreflexive y) u))
      go false u none = none

      step : (z : X) (zs : List X) (c : Bool) → lt z y ≡ false → ties lt w z ≡ c → filter (ties lt w) zs ≡ [] → cond c (z ∷ filter (ties lt w) zs) (filter (ties lt w) zs) ≡ []
      step z zs true above u none = absurd (true≢false (sym e ∙ apart z above u))
      step z zs false above u none = none

      rest : (zs : List X) → IsBelow y zs → filter (ties lt w) zs ≡ []
      rest [] below = refl
      rest (z ∷ zs) below = step z zs (ties lt w z) below.0 refl (rest zs below.1)

  append_none : (l : List X) → l ++ [] ≡ l
  append_none [] = refl
  append_none (x ∷ l) = ap (λ m. x ∷ m) (append_none l)

  -- an element that is placed comes behind those that tie with it
  pub filter-placed : (w x : X) (ys : List X) → IsRising ys → filter (ties lt w) (placed_by x ys) ≡ filter (ties lt w) ys ++ filter (ties lt w) (x ∷ [])
  filter-placed w x [] r = refl
  filter-placed w x (y ∷ ys) r = go (lt x y) refl (filter-placed w x ys r.1)
    where
      split : (c : Bool) (a b s : List X) → a ≡ b ++ s → cond c (y ∷ a) a ≡ cond c (y ∷ b) b ++ s
      split true a b s p = ap (λ l. y ∷ l) p
      split false a b s p = p

      front : (t : Bool) → lt x y ≡ true → ties lt w x ≡ t → cond t (x ∷ filter (ties lt w) (y ∷ ys)) (filter (ties lt w) (y ∷ ys)) ≡ filter (ties lt w) (y ∷ ys) ++ cond t (x ∷ []) []
      front true e t = let none : filter (ties lt w) (y ∷ ys) ≡ [] = no_tie x y ys e r.0 w t in ap (λ l. x ∷ l) none ∙ sym (ap (λ l. l ++ x ∷ []) none)
      front false e t = sym (append_none (filter (ties lt w) (y ∷ ys)))

      go : (c : Bool) → lt x y ≡ c → filter (ties lt w) (placed_by x ys) ≡ filter (ties lt w) ys ++ filter (ties lt w) (x ∷ []) → filter (ties lt w) (cond c (x ∷ y ∷ ys) (y ∷ placed_by x ys)) ≡ filter (ties lt w) (y ∷ ys) ++ filter (ties lt w) (x ∷ [])
      go true e later = front (ties lt w x) e refl
      go false e later = split (ties lt w y) _ _ _ later

  -- what each element is placed in, from the last to the first
  abbrev pub ordered_by : List X → List X
  ordered_by [] = []
  ordered_by (x ∷ xs) = placed_by x (ordered_by xs)

  pub IsRising-ordered : (xs : List X) → IsRising (ordered_by xs)
  IsRising-ordered [] = tt
  IsRising-ordered (x ∷ xs) = IsRising-placed x (ordered_by xs) (IsRising-ordered xs)

  pub filter-ordered : (w : X) (xs : List X) → filter (ties lt w) (ordered_by xs) ≡ filter (ties lt w) (reverse xs)
  filter-ordered w [] = refl
  filter-ordered w (x ∷ xs) =
      filter-placed w x (ordered_by xs) (IsRising-ordered xs) ∙ ap (λ l. l ++ filter (ties lt w) (x ∷ [])) (filter-ordered w xs)
      ∙ sym (filter-append (ties lt w) (reverse xs) (x ∷ [])) ∙ ap (filter (ties lt w)) (sym (reverse-cons x xs))

  -- a list in order that holds something that ties with w has nothing less than w in front
  first_below : (w z : X) (zs : List X) → IsBelow z zs → (filter (ties lt w) (z ∷ zs) ≡ [] → ⊥) → lt w z ≡ false
  first_below w z zs below some = go (ties lt w z) refl some
    where
      later : (ys : List X) → IsBelow z ys → (filter (ties lt w) ys ≡ [] → ⊥) → lt w z ≡ false
      later [] b there = absurd (there refl)
      later (y ∷ ys) b there = found (ties lt w y) refl there (later ys b.1)
        where
          found : (c : Bool) → ties lt w y ≡ c → (cond c (y ∷ filter (ties lt w) ys) (filter (ties lt w) ys) ≡ [] → ⊥) → ((filter (ties lt w) ys ≡ [] → ⊥) → lt w z ≡ false) → lt w z ≡ false
          found true t h more = o.chain w y z (ties-left w y t) b.0
          found false t h more = more h

      go : (c : Bool) → ties lt w z ≡ c → (cond c (z ∷ filter (ties lt w) zs) (filter (ties lt w) zs) ≡ [] → ⊥) → lt w z ≡ false
      go true t h = ties-left w z t
      go false t h = later zs below h

  -- something that ties with itself is found
  own_tie : (x : X) → ties lt x x ≡ true
  own_tie x = ties-from x x (irreflexive x) (irreflexive x)

  is_found : (x : X) (xs : List X) → filter (ties lt x) (x ∷ xs) ≡ x ∷ filter (ties lt x) xs
  is_found x xs = ap (λ c. cond c (x ∷ filter (ties lt x) xs) (filter (ties lt x) xs)) (own_tie x)

  abbrev IsEmpty : List X → Type 0
  IsEmpty [] = Unit {0}
  IsEmpty (x ∷ xs) = ⊥

  some_not_none : (x : X) (xs : List X) → x ∷ xs ≡ [] → ⊥
  some_not_none x xs e = subst IsEmpty (sym e) tt

  abbrev head_or : X → List X → X
  head_or d [] = d
  head_or d (x ∷ xs) = x

  abbrev tail_of : List X → List X
  tail_of [] = []
  tail_of (x ∷ xs) = xs

  -- two lists in order with the same ties in the same order are the same
  pub same_order : (xs ys : List X) → IsRising xs → IsRising ys → ((w : X) → filter (ties lt w) xs ≡ filter (ties lt w) ys) → xs ≡ ys
  same_order [] [] r s same = refl
  same_order [] (y ∷ ys) r s same = absurd (some_not_none _ _ (sym (is_found y ys) ∙ sym (same y)))
  same_order (x ∷ xs) [] r s same = absurd (some_not_none _ _ (sym (is_found x xs) ∙ same x))
  same_order (x ∷ xs) (y ∷ ys) r s same = joined first (λ e. same_order xs ys r.1 s.1 (rest e))
    where
      x_low : lt x y ≡ false
      x_low = first_below x y ys s.0 (λ none. some_not_none _ _ (sym (is_found x xs) ∙ same x ∙ none))

      y_low : lt y x ≡ false
      y_low = first_below y x xs r.0 (λ none. some_not_none _ _ (sym (is_found y ys) ∙ sym (same y) ∙ none))

      first : x ≡ y
      first = ap (head_or x) (sym (is_found x xs) ∙ same x ∙ ap (λ c. cond c (y ∷ filter (ties lt x) ys) (filter (ties lt x) ys)) (ties-from x y x_low y_low))

      drop_first : (c : Bool) (us vs : List X) → cond c (y ∷ us) us ≡ cond c (y ∷ vs) vs → us ≡ vs
      drop_first true us vs e = ap tail_of e
      drop_first false us vs e = e

      rest : x ≡ y → (w : X) → filter (ties lt w) xs ≡ filter (ties lt w) ys
      rest e w = drop_first (ties lt w y) _ _ (subst (λ z. filter (ties lt w) (z ∷ xs) ≡ filter (ties lt w) (y ∷ ys)) e (same w))

      joined : x ≡ y → (x ≡ y → xs ≡ ys) → x ∷ xs ≡ y ∷ ys
      joined e more = ap (λ z. z ∷ xs) e ∙ ap (λ zs. y ∷ zs) (more e)

  -- what a stable sort makes of a list that is turned round
  pub sorted_is : (xs turned ys : List X) → turned ≡ reverse xs → IsSortedBy lt ys → IsStableBy lt turned ys → ys ≡ ordered_by xs
  sorted_is xs turned ys e sorted stable =
      same_order ys (ordered_by xs) (IsRising-from_sorted ys sorted) (IsRising-ordered xs) (λ w. stable w ∙ ap (filter (ties lt w)) e ∙ sym (filter-ordered w xs))
