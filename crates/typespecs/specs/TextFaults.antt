-- The first fault that is told by a module's text.
use Rattle.std.specs.Prelude.{◌≡◌, Option, Some, None, false}
use Rattle.erl_tree.specs.declared.form.Module.{Module}
use Rattle.typespecs_rules.specs.declared.fault.PlacedFault.{PlacedFault}
use Rattle.typespecs_rules.specs.TypeFaults.{IsTextFault, is_earlier}

-- there is none
abbrev pub HasNoTextFault : Module → Type 0
HasNoTextFault m = (f : PlacedFault) → IsTextFault m f → ⊥

-- it is one, and none is named before it
pub record IsFirstTextFault (m : Module) (f : PlacedFault) : Type 0 where
  pub stands : IsTextFault m f
  pub first : (g : PlacedFault) → IsTextFault m g → is_earlier g f ≡ false

-- this is the first, if there is one
abbrev pub IsFirstOfText : Module → Option PlacedFault → Type 0
IsFirstOfText m None = HasNoTextFault m
IsFirstOfText m (Some f) = IsFirstTextFault m f
