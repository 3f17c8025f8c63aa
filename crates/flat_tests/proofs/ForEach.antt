-- Loops that test each item of a list.
use Rattle.std.proofs.Common.{◌≡◌, ℕ, zero, suc, ◌+◌, ◌<◌, ◌≤◌, ◌↔◌, Bool, true, false, IsTrue, List, [], ◌∷◌, length, drop, get_or, refl, sym, ap, ◌∙◌, subst, true≢false}
use Rattle.std.proofs.lemmas.List.{drop_more, drop_all}
use Rattle.erl_tree.specs.Lists.{Every}

module _ {A : Type 0} where
  -- what is left of a list at an item
  pub rest_at : (xs : List A) (i : ℕ) (x : A) → i < length xs → x ≡ get_or xs i x → drop i xs ≡ x ∷ drop (i + 1) xs
  rest_at xs i x lt is = drop_more xs i x lt ∙ ap (λ y. y ∷ drop (i + 1) xs) (sym is)

  module _ (P : A → Type 0) where
    -- the items from here on are all that is left to show
    abbrev pub IsLeft : List A → ℕ → Type 0
    IsLeft xs i = Every P (drop i xs) → Every P xs

    pub left_first : (xs : List A) → IsLeft xs 0
    left_first xs h = h

    pub left_next : (xs : List A) (i : ℕ) (x : A) → i < length xs → x ≡ get_or xs i x → P x → IsLeft xs i → IsLeft xs (i + 1)
    left_next xs i x lt is here left rest = left (subst (Every P) (sym (rest_at xs i x lt is)) (here, rest))

    pub left_last : (xs : List A) (i : ℕ) → length xs ≤ i → IsLeft xs i → Every P xs
    left_last xs i end left = left (subst (Every P) (sym (drop_all i xs end)) tt)

    Every-drop : (n : ℕ) (xs : List A) → Every P xs → Every P (drop n xs)
    Every-drop zero xs h = h
    Every-drop (suc n) [] h = h
    Every-drop (suc n) (x ∷ xs) h = Every-drop n xs h.1

    pub Every-at : (xs : List A) (i : ℕ) (x : A) → i < length xs → x ≡ get_or xs i x → Every P xs → P x
    Every-at xs i x lt is h = (subst (Every P) (rest_at xs i x lt is) (Every-drop i xs h)).0

    -- the answer at an item that fails the test
    pub unmet : (xs : List A) (i : ℕ) (x : A) (b : Bool) → i < length xs → x ≡ get_or xs i x → (IsTrue b ↔ P x) → b ≡ false → IsTrue false ↔ Every P xs
    unmet xs i x b lt is says fails = (λ e. absurd (true≢false (sym e)), λ h. absurd (true≢false (sym (says.1 (Every-at xs i x lt is h)) ∙ fails)))

    -- and at the end
    pub met : (xs : List A) (i : ℕ) → length xs ≤ i → IsLeft xs i → IsTrue true ↔ Every P xs
    met xs i end left = (λ _. left_last xs i end left, λ _. refl)
