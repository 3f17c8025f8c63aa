-- A name that the table lacks stands nowhere.
use Rattle.std.proofs.Common.{◌≡◌, ℕ, zero, suc, ◌<◌, Bool, true, false, ◌||◌, cond, List, [], ◌∷◌, take, map, None, refl, ap, ◌∙◌}
use Rattle.erl_tree.specs.Lists.{Every}
use Rattle.type_terms.specs.Keys.{Name, same_name}
use Rattle.type_terms.proofs.KeyLaws.{name-is}
use Rattle.erl_scope_rules.specs.Bindings.{innermost, bound_by_role}
use Rattle.erl_scope_rules.specs.Occurrences.{is_named_among}
use Rattle.erl_scope_rules.specs.ScopeFaults.{stands_among}
use Rattle.erl_scope_stack.specs.declared.entries.Seen.{Seen}
use Rattle.erl_scope_stack.specs.Named.{name_at, HasNumber}
use Rattle.erl_scope_stack.specs.Stored.{mark_of}
use Rattle.std.proofs.Common.{sym, length}

module _ (ns : List Name) (x : Name) (absent : (n : ℕ) → HasNumber ns x n → ⊥) where
  differs : (n : ℕ) → n < length ns → same_name (name_at ns n) x ≡ false
  differs n h = by (same_name (name_at ns n) x) refl
    where
      by : (b : Bool) → same_name (name_at ns n) x ≡ b → same_name (name_at ns n) x ≡ false
      by true p = absurd (absent n (h, name-is (name_at ns n) x p))
      by false p = p

  differs_too : (n : ℕ) → n < length ns → same_name x (name_at ns n) ≡ false
  differs_too n h = by (same_name x (name_at ns n)) refl
    where
      by : (b : Bool) → same_name x (name_at ns n) ≡ b → same_name x (name_at ns n) ≡ false
      by true p = absurd (absent n (h, sym (name-is x (name_at ns n) p)))
      by false p = p

  abbrev Named : Seen → Type 0
  Named e = e.name < length ns

  pub innermost-absent : (es : List Seen) → Every Named es → innermost x (map (mark_of ns) es) ≡ None
  innermost-absent [] all = refl
  innermost-absent (e ∷ es) all =
      ap (λ b. cond b (bound_by_role e.role (mark_of ns e) (innermost x (map (mark_of ns) es))) (innermost x (map (mark_of ns) es))) (differs e.name all.0) ∙ innermost-absent es all.1

  pub stands-absent : (ms : List ℕ) → Every (λ (m : ℕ). m < length ns) ms → stands_among x (map (name_at ns) ms) ≡ false
  stands-absent [] all = refl
  stands-absent (m ∷ ms) all = ap (λ b. b || stands_among x (map (name_at ns) ms)) (differs_too m all.0) ∙ stands-absent ms all.1

  pub named-absent : (k : ℕ) (es : List Seen) → Every Named es → is_named_among x (take k (map (mark_of ns) es)) ≡ false
  named-absent zero es all = refl
  named-absent (suc k) [] all = refl
  named-absent (suc k) (e ∷ es) all = ap (λ b. b || is_named_among x (take k (map (mark_of ns) es))) (differs e.name all.0) ∙ named-absent k es all.1
