-- A module without a first fault has no fault in its text, by induction on the lines, then the columns, then the ranks.
use Rattle.std.proofs.Common.{◌≡◌, ◌⊎◌, ⊎_elim, refl, subst, ◌∙◌, inl, inr, ℕ, zero, suc, ◌<◌, Bool, false, not, ◌&&◌, ◌||◌, nat_eq, nat_lt, arith}
use Rattle.std.proofs.lemmas.Bool.{cases_order}
use Rattle.std.proofs.lemmas.Bool.Decides.{nat_tests}
use Rattle.erl_tree.specs.declared.form.Module.{Module}
use Rattle.typespecs_rules.specs.declared.fault.PlacedFault.{PlacedFault}
use Rattle.typespecs_rules.specs.TypeFaults.{IsTextFault, IsFirstFault, of_the_text, is_earlier, rank}

-- what holds of a number wherever it holds of all below it holds of each
pub each_number : (P : ℕ → Type 0) → ((n : ℕ) → ((k : ℕ) → k < n → P k) → P n) → (n : ℕ) → P n
each_number P step n = below (suc n) n (omega arith)
  where
    below : (bound k : ℕ) → k < bound → P k
    below zero k l = absurd (omega arith)
    below (suc bound) k l = step k (λ j lower. below bound j (omega arith))

-- ---- the order of faults, on the lines, the columns and the ranks

abbrev first_of_three : (l c r m d s : ℕ) → Bool
first_of_three l c r m d s = (nat_lt l m || (nat_eq l m && nat_lt c d)) || (not (nat_lt m l || (nat_eq m l && nat_lt d c)) && nat_lt r s)

later_line : (l c r m d s : ℕ) → m < l → first_of_three l c r m d s ≡ false
later_line l c r m d s h = grind (arith, nat_tests)

later_column : (l c r m d s : ℕ) → l ≡ m → d < c → first_of_three l c r m d s ≡ false
later_column l c r m d s h k = grind (arith, nat_tests)

later_rank : (l c r m d s : ℕ) → l ≡ m → c ≡ d → nat_lt r s ≡ false → first_of_three l c r m d s ≡ false
later_rank l c r m d s h k j = grind (arith, nat_tests)

-- one that is neither on a lower line, nor in a lower column of the same line, nor of a lower rank there, isn't earlier
none_lower : (l c r m d s : ℕ) → (l < m → ⊥) → (l ≡ m → c < d → ⊥) → (l ≡ m → c ≡ d → r < s → ⊥) → first_of_three l c r m d s ≡ false
none_lower l c r m d s line column kind = ⊎_elim on_line (⊎_elim (λ h. absurd (line h)) (later_line l c r m d s)) (cases_order l m)
  where
    in_column : l ≡ m → c ≡ d → first_of_three l c r m d s ≡ false
    in_column h k = later_rank l c r m d s h k (of_rank (cases_order r s))
      where
        of_rank : (r ≡ s) ⊎ ((r < s) ⊎ (s < r)) → nat_lt r s ≡ false
        of_rank (inl e) = grind (arith, nat_tests)
        of_rank (inr (inl lower)) = absurd (kind h k lower)
        of_rank (inr (inr higher)) = grind (arith, nat_tests)

    on_line : l ≡ m → first_of_three l c r m d s ≡ false
    on_line h = ⊎_elim (in_column h) (⊎_elim (λ k. absurd (column h k)) (later_column l c r m d s h)) (cases_order c d)

-- ---- no fault

module _ (m : Module) (none : (f : PlacedFault) → IsFirstFault m f → ⊥) where
  -- no fault is on this line
  abbrev ClearLine : ℕ → Type 0
  ClearLine line = (f : PlacedFault) → IsTextFault m f → f.place.line ≡ line → ⊥

  -- none in this column of it
  abbrev ClearColumn : ℕ → ℕ → Type 0
  ClearColumn line column = (f : PlacedFault) → IsTextFault m f → f.place.line ≡ line → f.place.column ≡ column → ⊥

  -- none of this rank there
  abbrev ClearRank : ℕ → ℕ → ℕ → Type 0
  ClearRank line column kind = (f : PlacedFault) → IsTextFault m f → f.place.line ≡ line → f.place.column ≡ column → rank f.fault ≡ kind → ⊥

  clear_rank : (line column kind : ℕ) → ((k : ℕ) → k < line → ClearLine k) → ((k : ℕ) → k < column → ClearColumn line k) → ((k : ℕ) → k < kind → ClearRank line column k) → ClearRank line column kind
  clear_rank line column kind lines columns ranks f fault on_line in_column of_rank = none f (of_the_text fault not_earlier)
    where
      not_earlier : (g : PlacedFault) → IsTextFault m g → is_earlier g f ≡ false
      not_earlier g other =
          none_lower g.place.line g.place.column (rank g.fault) f.place.line f.place.column (rank f.fault)
          (λ lower. lines g.place.line (subst (λ n. g.place.line < n) on_line lower) g other refl)
          (λ same lower. columns g.place.column (subst (λ n. g.place.column < n) in_column lower) g other (same ∙ on_line) refl)
          (λ same there lower. ranks (rank g.fault) (subst (λ n. rank g.fault < n) of_rank lower) g other (same ∙ on_line) (there ∙ in_column) refl)

  clear_column : (line column : ℕ) → ((k : ℕ) → k < line → ClearLine k) → ((k : ℕ) → k < column → ClearColumn line k) → ClearColumn line column
  clear_column line column lines columns f fault on_line in_column =
      each_number (ClearRank line column) (λ kind. clear_rank line column kind lines columns) (rank f.fault) f fault on_line in_column refl

  clear_line : (line : ℕ) → ((k : ℕ) → k < line → ClearLine k) → ClearLine line
  clear_line line lines f fault on_line = each_number (ClearColumn line) (λ column. clear_column line column lines) f.place.column f fault on_line refl

  pub no_text_fault : (f : PlacedFault) → IsTextFault m f → ⊥
  no_text_fault f fault = each_number ClearLine clear_line f.place.line f fault refl
