-- A walk over the ranges of two sides.
use Rattle.std.proofs.Common.{◌≡◌, refl, sym, ◌∙◌, subst, ℕ, ℤ, pos, ◌+◌, ◌<◌, ◌≤◌, ◌<ℤ◌, ◌≤ℤ◌, ◌⊎◌, inl, inr, List, Bool, true, false, length, arith, zero, suc, ◌-◌, get_or, add-zero, is_lt, int_cmp}
use Rattle.std.specs.Int.{int_max}
use Rattle.std.specs.List.{Any}
use Rattle.std.specs.Ordering.{ordering_then}
use Rattle.std.specs.declared.cmp.Ordering.{Ordering}
use Rattle.std.proofs.lemmas.Bool.{and_parts, and_from, true≢false}
use Rattle.std.proofs.lemmas.Int.{ints, clamps, by_lt_z}
use Rattle.std.proofs.lemmas.List.{get_or_default}
use Rattle.std.proofs.lemmas.List.Folds.{list_any_at, Any-from_list_any}
use Rattle.type_terms.proofs.IntegerOrder.{le_int-is, less_int-is}
use Rattle.key_sets.specs.declared.range.Range.{Range}
use Rattle.key_sets.specs.Ranges.{spans, spanned, range_at, first_integer, IsAscending, IsPassed, IsCovered}

no_range : Range
no_range = record { after = pos 0; upto = pos 0 }

-- an integer is in the range at some place
pub record IsIn (rs : List Range) (n : ℤ) : Type 0 where
  pub place : ℕ
  pub within : place < length rs
  pub above : (range_at rs place).after <ℤ n
  pub upto : n ≤ℤ (range_at rs place).upto

pub spanned-at : (rs : List Range) (k : ℕ) (n : ℤ) → k < length rs → (range_at rs k).after <ℤ n → n ≤ℤ (range_at rs k).upto → spanned rs n ≡ true
spanned-at rs k n l a b = list_any_at (λ r. spans r n) rs k (record { after = pos 0; upto = pos 0 }) l (and_from _ _ ((less_int-is _ n).1 a) ((le_int-is n _).1 b))

spans-ends : (r : Range) (n : ℤ) → spans r n ≡ true → (r.after <ℤ n) × (n ≤ℤ r.upto)
spans-ends r n e = let p : (_ ≡ true) × (_ ≡ true) = and_parts _ _ e in ((less_int-is r.after n).0 p.0, (le_int-is n r.upto).0 p.1)

pub spanned-in : (rs : List Range) (n : ℤ) → spanned rs n ≡ true → IsIn rs n
spanned-in rs n e = by (Any-from_list_any (λ r. spans r n) rs e)
  where
    by : Any (λ r. spans r n ≡ true) rs → IsIn rs n
    by (k, x, l, is, p) =
        let q : (x.after <ℤ n) × (n ≤ℤ x.upto) = spans-ends x n p in
        let f : x ≡ range_at rs k = sym is ∙ get_or_default rs k x (record { after = pos 0; upto = pos 0 }) l in
        record { place = k; within = l; above = subst (λ (r : Range). r.after <ℤ n) f q.0; upto = subst (λ (r : Range). n ≤ℤ r.upto) f q.1 }

pub spanned-not : (rs : List Range) (n : ℤ) → (IsIn rs n → ⊥) → spanned rs n ≡ false
spanned-not rs n h = by (spanned rs n) refl
  where
    by : (b : Bool) → spanned rs n ≡ b → b ≡ false
    by true e = absurd (h (spanned-in rs n e))
    by false e = refl

pub ascends : (rs : List Range) → IsAscending rs → (i j : ℕ) → i ≤ j → j < length rs → (range_at rs i).after ≤ℤ (range_at rs j).after
ascends rs up i j l h = (le_int-is _ _).0 (up i j l h)

-- one more range is passed
pub passed_more : (rs : List Range) (from at : ℕ) (seen next : ℤ) → IsPassed rs from at seen → seen ≤ℤ next → (range_at rs at).upto ≤ℤ next → IsPassed rs from (at + 1) next
passed_more rs from at seen next passed up here k f l = by (at_or_below k at l)
  where
    at_or_below : (k at : ℕ) → k < at + 1 → (k < at) ⊎ (k ≡ at)
    at_or_below k at l = grind arith

    by : (k < at) ⊎ (k ≡ at) → (range_at rs k).upto ≤ℤ next
    by (inl below) = let p : (range_at rs k).upto ≤ℤ seen = passed k f below in omega (arith, ints)
    by (inr e) = subst (λ (j : ℕ). (range_at rs j).upto ≤ℤ next) (sym e) here

-- and then more
pub passed_join : (rs : List Range) (at to : ℕ) (seen next : ℤ) → IsPassed rs 0 at seen → seen ≤ℤ next → IsPassed rs at to next → IsPassed rs 0 to next
passed_join rs at to seen next before up more k f l = by (below_or_from k at)
  where
    below_or_from : (k at : ℕ) → (k < at) ⊎ (at ≤ k)
    below_or_from k at = grind arith

    by : (k < at) ⊎ (at ≤ k) → (range_at rs k).upto ≤ℤ next
    by (inl below) = let p : (range_at rs k).upto ≤ℤ seen = before k f below in omega (arith, ints)
    by (inr from) = more k from l

-- a range that begins at or before what is seen covers up to its end
pub covered_more : (rs : List Range) (at : ℕ) (first seen next : ℤ) → IsCovered rs first seen → at < length rs → (range_at rs at).after ≤ℤ seen → next ≡ int_max seen (range_at rs at).upto → IsCovered rs first next
covered_more rs at first seen next covered l begins is n a b =
    by_lt_z seen n
    (λ further. spanned-at rs at n l (omega (arith, ints)) (omega (arith, ints, clamps)))
    (λ before. covered n a before)

module _ (left right : List Range) (left_up : IsAscending left) (right_up : IsAscending right) where
  abbrev pub IsJudged : ℤ → Type 0
  IsJudged seen = (n : ℤ) → first_integer ≤ℤ n → n ≤ℤ seen → spanned left n ≡ true → spanned right n ≡ true

  -- between what is seen and the next range's lower end the left side has nothing
  nothing_between : (i : ℕ) (seen n : ℤ) → IsPassed left 0 i seen → seen <ℤ n → n ≤ℤ (range_at left i).after → IsIn left n → ⊥
  nothing_between i seen n done above below there = by (below_or_from there.place i)
    where
      below_or_from : (k at : ℕ) → (k < at) ⊎ (at ≤ k)
      below_or_from k at = grind arith

      by : (there.place < i) ⊎ (i ≤ there.place) → ⊥
      by (inl before) = let p : (range_at left there.place).upto ≤ℤ seen = done there.place (omega arith) before in omega (arith, ints)
      by (inr from) = let p : (range_at left i).after ≤ℤ (range_at left there.place).after = ascends left left_up i there.place from there.within in omega (arith, ints)

  pub judged_more : (i : ℕ) (seen from next : ℤ) → IsPassed left 0 i seen → from ≡ int_max seen (range_at left i).after → IsCovered right from next → IsJudged seen → IsJudged next
  judged_more i seen from next done is covered judged n big l there =
      by_lt_z seen n
      (λ further. by_lt_z from n
      (λ beyond. covered n beyond l)
      (λ between. absurd (nothing_between i seen n done further (omega (arith, ints, clamps)) (spanned-in left n there))))
      (λ before. judged n big before there)

  -- where the walk over the right side stops before the end of a range of the left side, the integers of the gap are outside
  pub gap-in : (i : ℕ) (seen from next n : ℤ) → i < length left → from ≡ int_max seen (range_at left i).after → from ≤ℤ next → next <ℤ n → n ≤ℤ (range_at left i).upto → spanned left n ≡ true
  gap-in i seen from next n l is up above below = spanned-at left i n l (omega (arith, ints, clamps)) below

  pub gap-not_in : (at : ℕ) (next n : ℤ) → IsPassed right 0 at next → next <ℤ n → (at < length right → n ≤ℤ (range_at right at).after) → spanned right n ≡ false
  gap-not_in at next n passed above before = spanned-not right n (λ there. by there (below_or_from there.place at))
    where
      below_or_from : (k at : ℕ) → (k < at) ⊎ (at ≤ k)
      below_or_from k at = grind arith

      by : (there : IsIn right n) → (there.place < at) ⊎ (at ≤ there.place) → ⊥
      by there (inl passed_by) = let p : (range_at right there.place).upto ≤ℤ next = passed there.place (omega arith) passed_by in omega (arith, ints)
      by there (inr from) =
          let l : there.place < length right = there.within in
          let g : n ≤ℤ (range_at right at).after = before (omega arith) in
          let p : (range_at right at).after ≤ℤ (range_at right there.place).after = ascends right right_up at there.place from there.within in
          omega (arith, ints)

  pub judged_all : (i : ℕ) (seen : ℤ) → length left ≤ i → IsPassed left 0 i seen → IsJudged seen → (n : ℤ) → first_integer ≤ℤ n → spanned left n ≡ true → spanned right n ≡ true
  judged_all i seen all done judged n big there = by (spanned-in left n there)
    where
      by : IsIn left n → spanned right n ≡ true
      by is =
          let l : is.place < length left = is.within in
          let p : (range_at left is.place).upto ≤ℤ seen = done is.place (omega arith) (omega arith) in
          judged n big (omega (arith, ints)) there

-- ---- what a sort gives

int_after : (x y : ℤ) (o : Ordering) → is_lt (ordering_then (int_cmp x y) o) ≡ false → y ≤ℤ x
int_after x y o e = by_lt_z x y (λ less. absurd (true≢false (sym (less_first less) ∙ e))) (λ l. l)
  where
    less_first : x <ℤ y → is_lt (ordering_then (int_cmp x y) o) ≡ true
    less_first l = grind (arith, ints)

module _ (rs : List Range) (next : (k : ℕ) → k + 1 < length rs → (range_at rs k).after ≤ℤ (range_at rs (k + 1)).after) where
  ascends-further : (i d : ℕ) → i + d < length rs → (range_at rs i).after ≤ℤ (range_at rs (i + d)).after
  ascends-further i zero l = rw add-zero (le-same (range_at rs i).after)
    where
      le-same : (z : ℤ) → z ≤ℤ z
      le-same z = omega (arith, ints)
  ascends-further i (suc d) l =
      let e : i + suc d ≡ (i + d) + 1 = omega arith in
      rw e (through _ _ _ (ascends-further i d (omega arith)) (next (i + d) (omega arith)))
    where
      through : (x y z : ℤ) → x ≤ℤ y → y ≤ℤ z → x ≤ℤ z
      through x y z a b = omega (arith, ints)

  ascends-from_next : IsAscending rs
  ascends-from_next i j l h = (le_int-is _ _).1 (subst (λ (k : ℕ). (range_at rs i).after ≤ℤ (range_at rs k).after) (i_and_rest i j l) (ascends-further i (j - i) (omega arith)))
    where
      i_and_rest : (i j : ℕ) → i ≤ j → i + (j - i) ≡ j
      i_and_rest i j l = omega arith

pub ascends-sorted : (rs : List Range) → ((k : ℕ) (d : Range) → 0 ≤ k → k + 1 < length rs → is_lt (ordering_then (int_cmp (get_or rs (k + 1) d).after (get_or rs k d).after) (int_cmp (get_or rs (k + 1) d).upto (get_or rs k d).upto)) ≡ false) → IsAscending rs
ascends-sorted rs h = ascends-from_next rs (λ k l. int_after _ _ _ (h k (record { after = pos 0; upto = pos 0 }) (omega arith) l))
