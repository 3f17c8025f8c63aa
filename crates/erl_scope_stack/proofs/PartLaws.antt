-- Parts of a list that has the latest first.
use Rattle.std.proofs.Common.{◌≡◌, ℕ, ◌+◌, ◌-◌, ◌≤◌, List, [], ◌++◌, length, take, drop, sym, ap, ◌∙◌, arith}
use Rattle.std.proofs.lemmas.List.{take-append-drop, drop-take, take-take, drop-drop, length-drop}
use Rattle.erl_scope_stack.specs.State.{above}
use Rattle.erl_scope_stack.specs.Between.{between}

module _ {A : Type 0} where
  -- the beginning of a list, in two parts
  pub take-add : (m n : ℕ) (xs : List A) → take (m + n) xs ≡ take m xs ++ take n (drop m xs)
  take-add m n xs =
      sym (take-append-drop m (take (m + n) xs)) ∙ ap (λ ys. ys ++ drop m (take (m + n) xs)) (take-take m (m + n) xs (omega arith)) ∙ ap (λ ys. take m xs ++ ys) (drop-take m n xs)

  pub between-none : (n : ℕ) (xs : List A) → between n n xs ≡ []
  unfolding between
  between-none n xs = let none : length (drop (length xs - n) xs) - n ≡ 0 = omega (arith, length-drop (length xs - n) xs) in ap (λ (k : ℕ). take k (drop (length xs - n) xs)) none

  pub between-all : (low : ℕ) (xs : List A) → between low (length xs) xs ≡ above low xs
  unfolding between
  between-all low xs = let none : length xs - length xs ≡ 0 = omega arith in ap (λ (k : ℕ). above low (drop k xs)) none

  pub between-more : (low mid high : ℕ) (xs : List A) → low ≤ mid → mid ≤ high → high ≤ length xs → between low high xs ≡ between mid high xs ++ between low mid xs
  unfolding between
  between-more low mid high xs h j k =
      let ys = drop (length xs - high) xs in
      let long : length ys ≡ high = omega (arith, length-drop (length xs - high) xs) in
      let sum : length ys - low ≡ (length ys - mid) + (mid - low) = omega arith in
      let all : (length xs - high) + (length ys - mid) ≡ length xs - mid = omega arith in
      let rest : drop (length ys - mid) ys ≡ drop (length xs - mid) xs = drop-drop (length ys - mid) (length xs - high) xs ∙ ap (λ (n : ℕ). drop n xs) all in
      let size : mid - low ≡ length (drop (length xs - mid) xs) - low = omega (arith, length-drop (length xs - mid) xs) in
      ap (λ (n : ℕ). take n ys) sum ∙ take-add (length ys - mid) (mid - low) ys ∙ ap (λ zs. take (length ys - mid) ys ++ take (mid - low) zs) rest ∙ ap (λ (n : ℕ). take (length ys - mid) ys ++ take n (drop (length xs - mid) xs)) size
