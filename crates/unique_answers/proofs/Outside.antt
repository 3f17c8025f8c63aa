-- Whether a key is outside of a set.
use Rattle.std.proofs.Common.{◌≡◌, refl, sym, ◌∙◌, true, false}
use Rattle.std.specs.Prelude.{MatchOption, Option, Some, None, is_some}
use Rattle.type_terms.specs.declared.term.Key.{Key}
use Rattle.key_sets.specs.KeySets.{IsOutside, IsSubset}
use Rattle.key_sets.specs.declared.key_set.KeySet.{KeySet}

never-both : (left right : KeySet) (key : Key) → IsSubset left right → IsOutside left right key → ⊥
never-both left right key h k = let e : true ≡ false = sym (h key k.0) ∙ k.1 in absurd cc

pub one-kind : (left right : KeySet) (a b : Option Key) → MatchOption a (IsSubset left right) (IsOutside left right) → MatchOption b (IsSubset left right) (IsOutside left right) → is_some a ≡ is_some b
one-kind left right None None h k = refl
one-kind left right None (Some b) h k = absurd (never-both left right b h k)
one-kind left right (Some a) None h k = absurd (never-both left right a k h)
one-kind left right (Some a) (Some b) h k = refl
