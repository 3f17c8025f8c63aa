-- Loops that note the faults of each part of a row.
use Rattle.std.proofs.Common.{◌≡◌, ℕ, ◌+◌, ◌<◌, ◌≤◌, List, ◌∷◌, length, drop, get_or, sym, ap, ◌∙◌, Option}
use Rattle.std.proofs.lemmas.List.{drop_more, drop_all}
use Rattle.erl_scope_rules.specs.declared.fault.PlacedFault.{PlacedFault}
use Rattle.erl_scope_rules.specs.ScopeFaults.{faults_of_each}
use Rattle.erl_scope_rules.specs.Earliest.{earliest}
use Rattle.erl_scope_rules.proofs.EarliestLaws.{earliest-append}

-- what is left of a row at a part
pub rest_at : {A : Type 0} (xs : List A) (i : ℕ) (x : A) → i < length xs → x ≡ get_or xs i x → drop i xs ≡ x ∷ drop (i + 1) xs
rest_at xs i x lt is = drop_more xs i x lt ∙ ap (λ y. y ∷ drop (i + 1) xs) (sym is)

module _ {A : Type 0} (of : A → List PlacedFault) (xs : List A) (start : Option PlacedFault) where
  -- the faults from here on are all that is left to note
  abbrev pub IsNotedTo : ℕ → Option PlacedFault → Type 0
  IsNotedTo i first = earliest first (faults_of_each of (drop i xs)) ≡ earliest start (faults_of_each of xs)

  pub noted_next : (i : ℕ) (x : A) (first new : Option PlacedFault) → i < length xs → x ≡ get_or xs i x → new ≡ earliest first (of x) → IsNotedTo i first → IsNotedTo (i + 1) new
  noted_next i x first new lt is e so_far =
      ap (λ f. earliest f (faults_of_each of (drop (i + 1) xs))) e
      ∙ (sym (earliest-append first (of x) (faults_of_each of (drop (i + 1) xs))) ∙ (ap (λ ys. earliest first (faults_of_each of ys)) (sym (rest_at xs i x lt is)) ∙ so_far))

  pub noted_last : (i : ℕ) (first : Option PlacedFault) → length xs ≤ i → IsNotedTo i first → first ≡ earliest start (faults_of_each of xs)
  noted_last i first end so_far = ap (λ ys. earliest first (faults_of_each of ys)) (sym (drop_all i xs end)) ∙ so_far
