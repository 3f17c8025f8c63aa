-- Fields that are placed by their keys.
use denote.Param.Members.{Mut}
use Rattle.std.proofs.Common.{◌≡◌, refl, ap, ◌∙◌, Bool, cond, List, [], ◌∷◌, reverse, Ordering, is_lt, Bor}
use Rattle.std.specs.Cmp.{IsStrictWeakOrder}
use Rattle.std.specs.Fn.{Called, ComparesAs}
use Rattle.std.specs.List.Sorted.{IsSortedBy, IsStableBy}
use Rattle.std.proofs.lemmas.Fn.{always_returns_same}
use Rattle.type_terms.specs.declared.term.Field.{Field}
use Rattle.type_terms.specs.Keys.{key_lt}
use Rattle.typespecs_fields.specs.FieldOrder.{placed, in_order}
use Rattle.typespecs_fields.proofs.KeysCompared.{field_lt, field_lt-ranks}
use Rattle.typespecs_fields.proofs.StableOrders.{placed_by, ordered_by, sorted_is}

placed-same : (f : Field) (fs : List Field) → placed_by field_lt field_lt-ranks f fs ≡ placed f fs
placed-same f [] = refl
placed-same f (g ∷ fs) = ap (λ more. cond (key_lt f.key g.key) (f ∷ g ∷ fs) (g ∷ more)) (placed-same f fs)

pub ordered-same : (fs : List Field) → ordered_by field_lt field_lt-ranks fs ≡ in_order fs
ordered-same [] = refl
ordered-same (f ∷ fs) = placed-same f (ordered_by field_lt field_lt-ranks fs) ∙ ap (placed f) (ordered-same fs)

-- what a stable sort by a closure that compares keys makes of fields that are turned round
pub sorted_fields : {F : Type 0} {g : Mut F (Bor Field × (Bor Field × Unit {0})) Ordering} {f : F} (fields turned sorted : List Field) → turned ≡ reverse fields → ((lt : Field → Field → Bool) → IsStrictWeakOrder lt → ComparesAs g lt f → IsSortedBy lt sorted) → ((lt : Field → Field → Bool) → IsStrictWeakOrder lt → ComparesAs g lt f → IsStableBy lt turned sorted) → ((a : Bor Field × (Bor Field × Unit {0})) (r : Ordering) (f' : F) → Called g f a r f' → (is_lt r ≡ field_lt a.0.now a.1.0.now) × (f' ≡ f)) → sorted ≡ in_order fields
sorted_fields {F} {g} {f} fields turned sorted e up stable compares =
    sorted_is field_lt field_lt-ranks fields turned sorted e (up field_lt field_lt-ranks answers) (stable field_lt field_lt-ranks answers) ∙ ordered-same fields
  where
    answers : ComparesAs g field_lt f
    answers = always_returns_same g (λ a r. is_lt r ≡ field_lt a.0.now a.1.0.now) f compares
