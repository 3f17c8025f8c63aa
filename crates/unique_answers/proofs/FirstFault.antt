-- Two faults of types of which neither is named before the other are one.
use Rattle.std.proofs.Common.{◌≡◌, refl, sym, ap, ◌∙◌, ℕ, List, [], ◌∷◌, Bool, false, not, ◌&&◌, ◌||◌, nat_eq, nat_lt, arith}
use Rattle.std.specs.Prelude.{MatchOption, Option, Some, None, slice_get}
use Rattle.std.proofs.lemmas.Bool.Decides.{nat_tests}
use Rattle.erl_tree.specs.declared.form.Module.{Module}
use Rattle.typespecs_rules.specs.declared.fault.Outside.TheVariants.{RecordDefault, MapKey, UnusableType, NonRegularType, CyclicBound}
use Rattle.typespecs_rules.specs.declared.fault.TypeFault.{TypeFault}
use Rattle.typespecs_rules.specs.declared.fault.TypeFault.TheVariants.{NoSuchType, Repeated, NotContractive, NegatedFun, OutOfProfile, ArityDiffers, BadRange}
use Rattle.typespecs_rules.specs.declared.fault.PlacedFault.{PlacedFault}
use Rattle.typespecs_rules.specs.TypeFaults.{rank, is_earlier}
use Rattle.typespecs_cycles.specs.GraphFaults.{IsGraphFault}
use Rattle.unique_answers.proofs.Small.{some-same}

abbrev first_of_three : (l c r m d s : ℕ) → Bool
first_of_three l c r m d s = (nat_lt l m || (nat_eq l m && nat_lt c d)) || (not (nat_lt m l || (nat_eq m l && nat_lt d c)) && nat_lt r s)

module _ (l c r m d s : ℕ) (h : first_of_three l c r m d s ≡ false) (k : first_of_three m d s l c r ≡ false) where
  same-line : l ≡ m
  same-line = grind (arith, nat_tests)

  same-column : c ≡ d
  same-column = grind (arith, nat_tests)

  same-rank : r ≡ s
  same-rank = grind (arith, nat_tests)

-- the kind with a rank
kinds : List TypeFault
kinds = NoSuchType ∷ Repeated ∷ NotContractive ∷ NegatedFun ∷ OutOfProfile RecordDefault ∷ OutOfProfile MapKey ∷ OutOfProfile UnusableType ∷ OutOfProfile NonRegularType ∷ OutOfProfile CyclicBound ∷ ArityDiffers ∷ BadRange ∷ []

kind-at-rank : (fault : TypeFault) → slice_get kinds (rank fault) ≡ Some fault
unfolding kinds
kind-at-rank NoSuchType = refl
kind-at-rank Repeated = refl
kind-at-rank NotContractive = refl
kind-at-rank NegatedFun = refl
kind-at-rank (OutOfProfile RecordDefault) = refl
kind-at-rank (OutOfProfile MapKey) = refl
kind-at-rank (OutOfProfile UnusableType) = refl
kind-at-rank (OutOfProfile NonRegularType) = refl
kind-at-rank (OutOfProfile CyclicBound) = refl
kind-at-rank ArityDiffers = refl
kind-at-rank BadRange = refl

same-kind : (j k : TypeFault) → rank j ≡ rank k → j ≡ k
same-kind j k e = some-same j k (sym (kind-at-rank j) ∙ (ap (slice_get kinds) e ∙ kind-at-rank k))

pub neither-earlier : (f g : PlacedFault) → is_earlier f g ≡ false → is_earlier g f ≡ false → f ≡ g
neither-earlier f g h k =
    let line : f.place.line ≡ g.place.line = same-line f.place.line f.place.column (rank f.fault) g.place.line g.place.column (rank g.fault) h k in
    let column : f.place.column ≡ g.place.column = same-column f.place.line f.place.column (rank f.fault) g.place.line g.place.column (rank g.fault) h k in
    let kind : f.fault ≡ g.fault = same-kind f.fault g.fault (same-rank f.place.line f.place.column (rank f.fault) g.place.line g.place.column (rank g.fault) h k) in
    λ i. record { place = record { line = line i; column = column i }; fault = kind i }

abbrev IsFirstOf : Module → Option PlacedFault → Type 0
IsFirstOf m a = MatchOption a ((f : PlacedFault) → IsGraphFault m f → ⊥) (λ f. IsGraphFault m f × ((g : PlacedFault) → IsGraphFault m g → is_earlier g f ≡ false))

pub one-graph-fault : (m : Module) (a b : Option PlacedFault) → IsFirstOf m a → IsFirstOf m b → a ≡ b
one-graph-fault m None None h k = refl
one-graph-fault m None (Some g) h k = absurd (h g k.0)
one-graph-fault m (Some f) None h k = absurd (k f h.0)
one-graph-fault m (Some f) (Some g) h k = ap Some (neither-earlier f g (k.1 f h.0) (h.1 g k.0))
