-- An answer about types is told by the fault and its place.
use Rattle.std.proofs.Common.{◌≡◌, refl, sym, ap, subst, ◌∙◌, false, []}
use Rattle.std.specs.Prelude.{◌≢◌, IfSome, Some}
use Rattle.erl_tree.specs.declared.form.Module.{Module}
use Rattle.erl_tree.specs.declared.token.Node.{Node}
use Rattle.erl_tree.specs.declared.token.Place.{Place}
use Rattle.erl_tree.specs.declared.type_expr.TypeKind.{TypeKind}
use Rattle.erl_tree.specs.Lists.{Among}
use Rattle.erl_grammar.proofs.Layers.{each}
use Rattle.typespecs_rules.specs.Declarations.{Declarations}
use Rattle.typespecs_rules.specs.declared.fault.TypeFault.{TypeFault}
use Rattle.typespecs_rules.specs.declared.fault.TypeFault.TheVariants as T
use Rattle.typespecs_rules.specs.declared.fault.PlacedFault.{PlacedFault}
use Rattle.typespecs_rules.specs.declared.specs.Specs.{Specs}
use Rattle.typespecs_rules.specs.TypeFaults.{HasSpecs, IsFirstFault, IsFirstTypeFault, any_variable, is_earlier, type_faults}
use Rattle.typespecs.specs.FaultPlaces.{placed_fault}
use Rattle.typespecs.specs.declared.fault.SpecFault.{SpecFault}
use Rattle.typespecs.specs.declared.fault.SpecFault.TheVariants.{NoMemory, NoSuchType, Repeated, NotContractive, NegatedFun, OutOfProfile, ArityDiffers, BadRange}
use Rattle.typespecs_lemmas.proofs.FirstFault.{one-first, no-first}
use Rattle.unique_answers.proofs.Small.{some-same, none-some}
use Rattle.unique_answers.proofs.FirstFault.{neither-earlier}

-- the answer for a fault at a place
abbrev answer : TypeFault → Place → SpecFault
answer T.NoSuchType p = NoSuchType p
answer T.Repeated p = Repeated p
answer T.NotContractive p = NotContractive p
answer T.NegatedFun p = NegatedFun p
answer T.ArityDiffers p = ArityDiffers p
answer T.BadRange p = BadRange p
answer (T.OutOfProfile what) p = OutOfProfile p what

abbrev answer_for : PlacedFault → SpecFault
answer_for x = answer x.fault x.place

-- what a fault answers, other than that memory ran out
record IsTold (f : SpecFault) : Type 0 where
  found : PlacedFault
  tells : placed_fault f ≡ Some found
  is : f ≡ answer_for found

told : (f : SpecFault) → f ≢ NoMemory → IsTold f
told NoMemory n = absurd (n refl)
told (NoSuchType p) n = record { found = record { place = p; fault = T.NoSuchType }; tells = refl; is = refl }
told (Repeated p) n = record { found = record { place = p; fault = T.Repeated }; tells = refl; is = refl }
told (NotContractive p) n = record { found = record { place = p; fault = T.NotContractive }; tells = refl; is = refl }
told (NegatedFun p) n = record { found = record { place = p; fault = T.NegatedFun }; tells = refl; is = refl }
told (ArityDiffers p) n = record { found = record { place = p; fault = T.ArityDiffers }; tells = refl; is = refl }
told (BadRange p) n = record { found = record { place = p; fault = T.BadRange }; tells = refl; is = refl }
told (OutOfProfile p what) n = record { found = record { place = p; fault = T.OutOfProfile what }; tells = refl; is = refl }

-- where one fault at most is such, one answer is
module _ (IsFirst : PlacedFault → Type 0) where
  first : (f : SpecFault) (t : IsTold f) → IfSome (placed_fault f) IsFirst → IsFirst t.found
  first f t h = subst (λ o. IfSome o IsFirst) t.tells h

  one-told : ((x y : PlacedFault) → IsFirst x → IsFirst y → x ≡ y) → (f g : SpecFault) → IfSome (placed_fault f) IsFirst → IfSome (placed_fault g) IsFirst → f ≢ NoMemory → g ≢ NoMemory → f ≡ g
  one-told one f g h k n l =
      let s = told f n in
      let t = told g l in
      s.is ∙ (ap answer_for (one s.found t.found (first f s h) (first g t k)) ∙ sym t.is)

  -- where no fault is such, memory ran out
  none-told : ((x : PlacedFault) → IsFirst x → ⊥) → (f : SpecFault) → IfSome (placed_fault f) IsFirst → f ≡ NoMemory
  none-told none NoMemory h = refl
  none-told none (NoSuchType p) h = absurd (none _ h)
  none-told none (Repeated p) h = absurd (none _ h)
  none-told none (NotContractive p) h = absurd (none _ h)
  none-told none (NegatedFun p) h = absurd (none _ h)
  none-told none (ArityDiffers p) h = absurd (none _ h)
  none-told none (BadRange p) h = absurd (none _ h)
  none-told none (OutOfProfile p what) h = absurd (none _ h)

-- ---- modules

pub one-meaning : (m : Module) (s t : Specs) → HasSpecs m s → HasSpecs m t → s ≡ t
one-meaning m s t h k = some-same s t (sym h.terms.terms ∙ k.terms.terms)

pub one-fault : (m : Module) (f g : SpecFault) → IfSome (placed_fault f) (IsFirstFault m) → IfSome (placed_fault g) (IsFirstFault m) → f ≢ NoMemory → g ≢ NoMemory → f ≡ g
one-fault m = one-told (IsFirstFault m) (one-first m)

pub specs-or-fault : (m : Module) (s : Specs) (f : SpecFault) → HasSpecs m s → IfSome (placed_fault f) (IsFirstFault m) → f ≡ NoMemory
specs-or-fault m s f h = none-told (IsFirstFault m) (λ x. no-first m s x h) f

-- ---- types that stand alone

one-first-alone : (d : Declarations) (t : Node TypeKind) (x y : PlacedFault) → IsFirstTypeFault d t x → IsFirstTypeFault d t y → x ≡ y
one-first-alone d t x y h k =
    neither-earlier x y (each (λ z. is_earlier z y ≡ false) (type_faults d any_variable t) k.first x h.stands) (each (λ z. is_earlier z x ≡ false) (type_faults d any_variable t) h.first y k.stands)

pub one-fault-alone : (d : Declarations) (t : Node TypeKind) (f g : SpecFault) → IfSome (placed_fault f) (IsFirstTypeFault d t) → IfSome (placed_fault g) (IsFirstTypeFault d t) → f ≢ NoMemory → g ≢ NoMemory → f ≡ g
one-fault-alone d t = one-told (IsFirstTypeFault d t) (one-first-alone d t)

pub right-or-fault : (d : Declarations) (t : Node TypeKind) (f : SpecFault) → type_faults d any_variable t ≡ [] → IfSome (placed_fault f) (IsFirstTypeFault d t) → f ≡ NoMemory
right-or-fault d t f right = none-told (IsFirstTypeFault d t) (λ x h. subst (Among x) right h.stands) f

-- ---- one answer

tells-something : (found : PlacedFault) (f : SpecFault) → placed_fault f ≡ Some found → f ≢ NoMemory
tells-something found f e n = none-some found (sym (ap placed_fault n) ∙ e)

is-answer : (found : PlacedFault) (f : SpecFault) → placed_fault f ≡ Some found → f ≡ answer_for found
is-answer found f e = let t = told f (tells-something found f e) in t.is ∙ ap answer_for (some-same t.found found (sym t.tells ∙ e))

pub one-answer : (found : PlacedFault) (f g : SpecFault) → placed_fault f ≡ Some found → placed_fault g ≡ Some found → f ≡ g
one-answer found f g h k = is-answer found f h ∙ sym (is-answer found g k)
