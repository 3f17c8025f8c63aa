-- A module has at most one first fault, and none where it has specs.
use Rattle.std.proofs.Common.{◌≡◌, refl, sym, ap, subst, ◌∙◌, ℕ, zero, suc, ◌<◌, ◌+◌, List, [], ◌∷◌, Bool, false, not, ◌&&◌, ◌||◌, nat_eq, nat_lt, arith}
use Rattle.std.specs.Prelude.{Some, slice_get}
use Rattle.std.proofs.lemmas.Bool.Decides.{nat_tests}
use Rattle.type_terms.specs.Definitions.{IsContractive}
use Rattle.erl_tree.specs.Lists.{Every}
use Rattle.erl_tree.specs.declared.form.Module.{Module}
use Rattle.erl_tree.specs.declared.token.Node.{Node}
use Rattle.erl_tree.specs.declared.form.SpecClauseKind.{SpecClauseKind}
use Rattle.typespecs_rules.specs.declared.fault.Outside.TheVariants.{RecordDefault, MapKey, UnusableType, NonRegularType, CyclicBound}
use Rattle.typespecs_rules.specs.declared.fault.TypeFault.{TypeFault}
use Rattle.typespecs_rules.specs.declared.fault.TypeFault.TheVariants.{NoSuchType, Repeated, NotContractive, NegatedFun, OutOfProfile, ArityDiffers, BadRange}
use Rattle.typespecs_rules.specs.declared.fault.PlacedFault.{PlacedFault}
use Rattle.typespecs_rules.specs.declared.specs.Specs.{Specs}
use Rattle.typespecs_rules.specs.TypeFaults.{fault_at, rank, is_earlier, IsFirstFault, of_the_text, of_definitions, of_specs, HasTerms, HasSpecs, ReachesItself, IsNotSigned, IsWellSignedArrow, arrows_of}

-- ---- the order of faults

abbrev first_of_three : (l c r m d s : ℕ) → Bool
first_of_three l c r m d s = (nat_lt l m || (nat_eq l m && nat_lt c d)) || (not (nat_lt m l || (nat_eq m l && nat_lt d c)) && nat_lt r s)

module _ (l c r m d s : ℕ) (h : first_of_three l c r m d s ≡ false) (k : first_of_three m d s l c r ≡ false) where
  same_line : l ≡ m
  same_line = grind (arith, nat_tests)

  same_column : c ≡ d
  same_column = grind (arith, nat_tests)

  same_rank : r ≡ s
  same_rank = grind (arith, nat_tests)

-- the kind with a rank
kinds : List TypeFault
kinds = NoSuchType ∷ Repeated ∷ NotContractive ∷ NegatedFun ∷ OutOfProfile RecordDefault ∷ OutOfProfile MapKey ∷ OutOfProfile UnusableType ∷ OutOfProfile NonRegularType ∷ OutOfProfile CyclicBound ∷ ArityDiffers ∷ BadRange ∷ []

kind_at-rank : (fault : TypeFault) → slice_get kinds (rank fault) ≡ Some fault
unfolding kinds
kind_at-rank NoSuchType = refl
kind_at-rank Repeated = refl
kind_at-rank NotContractive = refl
kind_at-rank NegatedFun = refl
kind_at-rank (OutOfProfile RecordDefault) = refl
kind_at-rank (OutOfProfile MapKey) = refl
kind_at-rank (OutOfProfile UnusableType) = refl
kind_at-rank (OutOfProfile NonRegularType) = refl
kind_at-rank (OutOfProfile CyclicBound) = refl
kind_at-rank ArityDiffers = refl
kind_at-rank BadRange = refl

pub some-inj : {A : Type 0} (a b : A) → Some a ≡ Some b → a ≡ b
some-inj a b e = cc

same_kind : (j k : TypeFault) → rank j ≡ rank k → j ≡ k
same_kind j k e = some-inj j k (sym (kind_at-rank j) ∙ (ap (slice_get kinds) e ∙ kind_at-rank k))

-- two faults of which neither is earlier are one
neither_earlier : (f g : PlacedFault) → is_earlier f g ≡ false → is_earlier g f ≡ false → f ≡ g
neither_earlier f g h k =
    let line : f.place.line ≡ g.place.line = same_line f.place.line f.place.column (rank f.fault) g.place.line g.place.column (rank g.fault) h k in
    let column : f.place.column ≡ g.place.column = same_column f.place.line f.place.column (rank f.fault) g.place.line g.place.column (rank g.fault) h k in
    let kind : f.fault ≡ g.fault = same_kind f.fault g.fault (same_rank f.place.line f.place.column (rank f.fault) g.place.line g.place.column (rank g.fault) h k) in
    λ i. record { place = record { line = line i; column = column i }; fault = kind i }

-- ---- faults of terms

-- neither of two numbers is below the other
neither-below : (a b : ℕ) → (a < b → ⊥) → (b < a → ⊥) → a ≡ b
neither-below zero zero h k = refl
neither-below zero (suc b) h k = absurd (h (omega arith))
neither-below (suc a) zero h k = absurd (k (omega arith))
neither-below (suc a) (suc b) h k = ap suc (neither-below a b (λ l. h (omega arith)) (λ l. k (omega arith)))

same-specs : (m : Module) (s t : Specs) → HasTerms m s → HasTerms m t → s ≡ t
same-specs m s t h k = some-inj s t (sym h.terms ∙ k.terms)

one-reaches : (m : Module) (s : Specs) (f g : PlacedFault) → ReachesItself m s f → ReachesItself m s g → f ≡ g
one-reaches m s f g a b =
    let index : a.index ≡ b.index = neither-below a.index b.index (λ l. b.first (2 + a.index) (omega arith) a.reaches) (λ l. a.first (2 + b.index) (omega arith) b.reaches) in
    let place : a.place ≡ b.place = some-inj a.place b.place (sym a.named ∙ (ap (slice_get _) index ∙ b.named)) in
    a.fault ∙ (ap (fault_at NotContractive) place ∙ sym b.fault)

one-signed : (m : Module) (s : Specs) (f g : PlacedFault) → IsNotSigned m s f → IsNotSigned m s g → f ≡ g
one-signed m s f g a b =
    let number : a.number ≡ b.number = neither-below a.number b.number (λ l. a.not_signed (b.first a.number a.arrow l a.meant)) (λ l. b.not_signed (a.first b.number b.arrow l b.meant)) in
    let clause : a.clause ≡ b.clause = some-inj a.clause b.clause (sym a.written ∙ (ap (slice_get _) number ∙ b.written)) in
    a.fault ∙ (ap (λ (c : Node SpecClauseKind). fault_at NegatedFun c.place) clause ∙ sym b.fault)

pub one-first : (m : Module) (f g : PlacedFault) → IsFirstFault m f → IsFirstFault m g → f ≡ g
one-first m f g (of_the_text a first) (of_the_text b last) = neither_earlier f g (last f a) (first g b)
one-first m f g (of_the_text a first) (of_definitions t k r) = absurd (k.no_fault f a)
one-first m f g (of_the_text a first) (of_specs t k c r) = absurd (k.no_fault f a)
one-first m f g (of_definitions s h r) (of_the_text b last) = absurd (h.no_fault g b)
one-first m f g (of_definitions s h r) (of_definitions t k q) = one-reaches m s f g r (subst (λ x. ReachesItself m x g) (same-specs m t s k h) q)
one-first m f g (of_definitions s h r) (of_specs t k c q) = absurd (subst (λ (x : Specs). IsContractive x.defs) (same-specs m t s k h) c (2 + r.index) r.reaches)
one-first m f g (of_specs s h c r) (of_the_text b last) = absurd (h.no_fault g b)
one-first m f g (of_specs s h c r) (of_definitions t k q) = absurd (subst (λ (x : Specs). IsContractive x.defs) (same-specs m s t h k) c (2 + q.index) q.reaches)
one-first m f g (of_specs s h c r) (of_specs t k d q) = one-signed m s f g r (subst (λ x. IsNotSigned m x g) (same-specs m t s k h) q)

-- ---- where there are specs

-- what holds of each element holds of the one at an index
pub at-index : {A : Type 0} (P : A → Type 0) (xs : List A) → Every P xs → (i : ℕ) (x : A) → slice_get xs i ≡ Some x → P x
at-index P [] h i x e = absurd (cc)
at-index P (y ∷ ys) h zero x e = subst P (some-inj y x e) h.0
at-index P (y ∷ ys) h (suc i) x e = at-index P ys h.1 i x e

pub no-first : (m : Module) (s : Specs) (f : PlacedFault) → HasSpecs m s → IsFirstFault m f → ⊥
no-first m s f h (of_the_text a first) = h.terms.no_fault f a
no-first m s f h (of_definitions t k r) =
    let q : ReachesItself m s f = subst (λ x. ReachesItself m x f) (same-specs m t s k h.terms) r in
    h.contractive (2 + q.index) q.reaches
no-first m s f h (of_specs t k c r) =
    let q : IsNotSigned m s f = subst (λ x. IsNotSigned m x f) (same-specs m t s k h.terms) r in
    q.not_signed (at-index (IsWellSignedArrow s.defs) (arrows_of s) h.well_signed q.number q.arrow q.meant)
