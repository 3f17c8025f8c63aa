-- Lists that are stored with the latest last.
use Rattle.std.proofs.Common.{◌≡◌, ℕ, ◌+◌, ◌-◌, ◌<◌, List, [], ◌∷◌, ◌++◌, length, take, drop, get_or, refl, sym, ap, ◌∙◌, arith}
use Rattle.std.proofs.lemmas.List.{append-nil, append_assoc, take-append-drop, take_at, drop_at, length-append, length-take-le, length-drop, take_more}
use Rattle.erl_scope_stack.specs.State.{above, below}
use Rattle.erl_scope_stack.specs.Between.{between}
use Rattle.erl_scope_stack.specs.Stored.{latest_first}

module _ {A B : Type 0} (of : A → B) where
  pub latest_first-append : (xs ys : List A) → latest_first of (xs ++ ys) ≡ latest_first of ys ++ latest_first of xs
  latest_first-append [] ys = sym (append-nil (latest_first of ys))
  latest_first-append (x ∷ xs) ys = ap (λ zs. zs ++ of x ∷ []) (latest_first-append xs ys) ∙ append_assoc (latest_first of ys) (latest_first of xs) (of x ∷ [])

  pub latest_first-push : (xs : List A) (x : A) → latest_first of (xs ++ x ∷ []) ≡ of x ∷ latest_first of xs
  latest_first-push xs x = latest_first-append xs (x ∷ [])

  pub length-latest_first : (xs : List A) → length (latest_first of xs) ≡ length xs
  length-latest_first [] = refl
  length-latest_first (x ∷ xs) = omega (arith, length-append (latest_first of xs) (of x ∷ []), length-latest_first xs)

  parts : (n : ℕ) (xs : List A) → latest_first of xs ≡ latest_first of (drop n xs) ++ latest_first of (take n xs)
  parts n xs = ap (latest_first of) (sym (take-append-drop n xs)) ∙ latest_first-append (take n xs) (drop n xs)

  top : (n : ℕ) (xs : List A) → length (latest_first of (drop n xs)) ≡ length (latest_first of xs) - n
  top n xs = omega (arith, length-latest_first (drop n xs), length-latest_first xs, length-drop n xs)

  pub below-latest_first : (n : ℕ) (xs : List A) → below n (latest_first of xs) ≡ latest_first of (take n xs)
  below-latest_first n xs =
      ap (drop (length (latest_first of xs) - n)) (parts n xs) ∙ drop_at (latest_first of (drop n xs)) (latest_first of (take n xs)) (length (latest_first of xs) - n) (top n xs)

  pub above-latest_first : (n : ℕ) (xs : List A) → above n (latest_first of xs) ≡ latest_first of (drop n xs)
  above-latest_first n xs =
      ap (take (length (latest_first of xs) - n)) (parts n xs) ∙ take_at (latest_first of (drop n xs)) (latest_first of (take n xs)) (length (latest_first of xs) - n) (top n xs)

  -- one that is read
  pub between-read : (n : ℕ) (xs : List A) (x : A) → n < length xs → x ≡ get_or xs n x → between n (n + 1) (latest_first of xs) ≡ of x ∷ []
  unfolding between
  between-read n xs x h read =
      ap (above n) (below-latest_first (n + 1) xs ∙ ap (latest_first of) (take_more xs n x h ∙ ap (λ y. take n xs ++ y ∷ []) (sym read)))
      ∙ above-latest_first n (take n xs ++ x ∷ [])
      ∙ ap (latest_first of) (drop_at (take n xs) (x ∷ []) n (length-take-le n xs (omega arith)))

  -- one more that a walk from the bottom comes to
  pub latest_first-more : (n : ℕ) (xs : List A) (x : A) → n < length xs → x ≡ get_or xs n x → latest_first of (take (n + 1) xs) ≡ of x ∷ latest_first of (take n xs)
  latest_first-more n xs x h read = ap (latest_first of) (take_more xs n x h ∙ ap (λ y. take n xs ++ y ∷ []) (sym read)) ∙ latest_first-push (take n xs) x
