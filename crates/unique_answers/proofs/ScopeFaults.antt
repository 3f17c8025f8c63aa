-- An answer about names is told by the fault and its place.
use Rattle.std.proofs.Common.{◌≡◌, refl, sym, ap, subst, ◌∙◌}
use Rattle.std.specs.Prelude.{◌≢◌, IfSome, Some}
use Rattle.erl_tree.specs.declared.form.Module.{Module}
use Rattle.erl_tree.specs.declared.token.Place.{Place}
use Rattle.erl_scope_rules.specs.declared.fault.NameFault.{NameFault}
use Rattle.erl_scope_rules.specs.declared.fault.NameFault.TheVariants as kinds
use Rattle.erl_scope_rules.specs.declared.fault.PlacedFault.{PlacedFault}
use Rattle.erl_scope_rules.specs.ScopeFaults.{HasRightNames, IsFirstFault}
use Rattle.erl_tree.specs.Lists.{Among}
use Rattle.erl_scope.specs.FaultPlaces.{placed_fault}
use Rattle.erl_scope.specs.declared.fault.ScopeFault.{ScopeFault}
use Rattle.erl_scope.specs.declared.fault.ScopeFault.TheVariants.{NoMemory, Unbound, Unsafe, NoSuchFunction, TwoFunctions, NoSpec, NoSuchRecord, NoSuchField, Repeated, ArityDiffers}
use Rattle.erl_scope.proofs.OneFirst.{IsFirstFault-same}

-- the answer for a fault at a place
abbrev answer : NameFault → Place → ScopeFault
answer kinds.Unbound p = Unbound p
answer kinds.Unsafe p = Unsafe p
answer kinds.NoSuchFunction p = NoSuchFunction p
answer kinds.TwoFunctions p = TwoFunctions p
answer kinds.NoSpec p = NoSpec p
answer kinds.NoSuchRecord p = NoSuchRecord p
answer kinds.NoSuchField p = NoSuchField p
answer kinds.Repeated p = Repeated p
answer kinds.ArityDiffers p = ArityDiffers p

abbrev answer_for : PlacedFault → ScopeFault
answer_for x = answer x.fault x.place

-- what a fault answers, other than that memory ran out
record IsTold (f : ScopeFault) : Type 0 where
  found : PlacedFault
  tells : placed_fault f ≡ Some found
  is : f ≡ answer_for found

told : (f : ScopeFault) → f ≢ NoMemory → IsTold f
told NoMemory n = absurd (n refl)
told (Unbound p) n = record { found = record { place = p; fault = kinds.Unbound }; tells = refl; is = refl }
told (Unsafe p) n = record { found = record { place = p; fault = kinds.Unsafe }; tells = refl; is = refl }
told (NoSuchFunction p) n = record { found = record { place = p; fault = kinds.NoSuchFunction }; tells = refl; is = refl }
told (TwoFunctions p) n = record { found = record { place = p; fault = kinds.TwoFunctions }; tells = refl; is = refl }
told (NoSpec p) n = record { found = record { place = p; fault = kinds.NoSpec }; tells = refl; is = refl }
told (NoSuchRecord p) n = record { found = record { place = p; fault = kinds.NoSuchRecord }; tells = refl; is = refl }
told (NoSuchField p) n = record { found = record { place = p; fault = kinds.NoSuchField }; tells = refl; is = refl }
told (Repeated p) n = record { found = record { place = p; fault = kinds.Repeated }; tells = refl; is = refl }
told (ArityDiffers p) n = record { found = record { place = p; fault = kinds.ArityDiffers }; tells = refl; is = refl }

first : (m : Module) (f : ScopeFault) (t : IsTold f) → IfSome (placed_fault f) (IsFirstFault m) → IsFirstFault m t.found
first m f t h = subst (λ o. IfSome o (IsFirstFault m)) t.tells h

pub one-fault : (m : Module) (f g : ScopeFault) → IfSome (placed_fault f) (IsFirstFault m) → IfSome (placed_fault g) (IsFirstFault m) → f ≢ NoMemory → g ≢ NoMemory → f ≡ g
one-fault m f g h k n l =
    let s = told f n in
    let t = told g l in
    s.is ∙ (ap answer_for (IsFirstFault-same m s.found t.found (first m f s h) (first m g t k)) ∙ sym t.is)

none-first : (m : Module) (x : PlacedFault) → HasRightNames m → IsFirstFault m x → ⊥
none-first m x right h = subst (Among x) right h.stands

pub right-or-fault : (m : Module) (f : ScopeFault) → HasRightNames m → IfSome (placed_fault f) (IsFirstFault m) → f ≡ NoMemory
right-or-fault m NoMemory right h = refl
right-or-fault m (Unbound p) right h = absurd (none-first m _ right h)
right-or-fault m (Unsafe p) right h = absurd (none-first m _ right h)
right-or-fault m (NoSuchFunction p) right h = absurd (none-first m _ right h)
right-or-fault m (TwoFunctions p) right h = absurd (none-first m _ right h)
right-or-fault m (NoSpec p) right h = absurd (none-first m _ right h)
right-or-fault m (NoSuchRecord p) right h = absurd (none-first m _ right h)
right-or-fault m (NoSuchField p) right h = absurd (none-first m _ right h)
right-or-fault m (Repeated p) right h = absurd (none-first m _ right h)
right-or-fault m (ArityDiffers p) right h = absurd (none-first m _ right h)
