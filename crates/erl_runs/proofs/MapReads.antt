-- A map has a key in its layer exactly where looking it up finds a value.
use Rattle.std.proofs.Common.{◌≡◌, refl, sym, ◌∙◌, ap, ap₂, subst, ℕ, Bool, true, false, ◌||◌, is_some}
use Rattle.type_terms.specs.declared.term.Key.{Key}
use Rattle.type_terms.specs.Keys.{Bound, key_lt}
use Rattle.erl_runs.specs.Value.{Row, no_entries, entry_and}
use Rattle.erl_runs.specs.FiniteMaps.{pick, get}
use Rattle.type_terms.specs.Keys.{same_key}
use Rattle.type_terms.specs.Reading.{has_key}
use Rattle.erl_runs.specs.Membership
use Rattle.type_terms.proofs.KeyLaws.{key-same, key-asym, key-refl, apart, less-apart}
use Rattle.erl_runs.proofs.FiniteMapLaws.{get-below}

module _ (p : Membership.Program) (table : Membership.Levels) (n : ℕ) where
  pub has_key-get : {b : Bound} (r : Row b) (c : Key) → has_key c (Membership.entry_layers p table n r) ≡ is_some (get r c)
  has_key-get no_entries c = refl
  has_key-get (entry_and j e v r) c = go (key_lt c j) (key_lt j c) refl refl (has_key-get r c)
    where
      go : (x y : Bool) → key_lt c j ≡ x → key_lt j c ≡ y → has_key c (Membership.entry_layers p table n r) ≡ is_some (get r c) → (same_key j c || has_key c (Membership.entry_layers p table n r)) ≡ is_some (pick x y v (get r c))
      go true y s t ih = ap₂ ◌||◌ (apart j c (λ q. less-apart c j s (sym q))) (ih ∙ ap is_some (get-below j r c (key-asym c j s)))
      go false true s t ih = ap₂ ◌||◌ (apart j c (less-apart j c t)) ih
      go false false s t ih = ap (λ z. z || has_key c (Membership.entry_layers p table n r)) (subst (λ z. same_key j z ≡ true) (key-same j c t s) (key-refl j))
