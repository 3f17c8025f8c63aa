-- What is marked is open.
use Rattle.std.proofs.Common.{◌≡◌, sym, subst, ℕ, List, Bool, true, ◌⊎◌, ⊎_elim}
use Rattle.std.specs.Prelude.{Some, slice_get}
use Rattle.std.specs.List.{Contains}
use Rattle.type_terms.specs.declared.term.Def.{Def}
use Rattle.type_terms.specs.declared.openness.Wanted.TheVariants.{Variables}
use Rattle.type_terms.specs.Definitions.{IsOpenIn, open_in}
use Rattle.type_terms.specs.BareNumbers.{bare_in, open_by}
use Rattle.type_terms.specs.Openness.{OpenWhereSaid}
use Rattle.type_terms.proofs.OpennessLaws.{bare-sound}

pub marked-sound : (defs : List Def) (old new : List (List Bool)) (number : ℕ) (def : Def) (found : List ℕ) → OpenWhereSaid defs old → slice_get defs number ≡ Some def → found ≡ bare_in Variables (open_by old) def.body → ((n i : ℕ) → open_by new n i ≡ true → (open_by old n i ≡ true) ⊎ ((n ≡ number) × Contains found i)) → OpenWhereSaid defs new
marked-sound defs old new number def found sound g e h n i q =
    ⊎_elim (λ (p : open_by old n i ≡ true). sound n i p)
    (λ (p : (n ≡ number) × Contains found i). subst (λ m. IsOpenIn defs m i) (sym p.0) (open_in number i def g (bare-sound defs (open_by old) sound Variables i def.body (subst (λ (l : List ℕ). Contains l i) e p.1))))
    (h n i q)
