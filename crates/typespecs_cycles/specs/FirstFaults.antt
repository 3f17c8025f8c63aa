-- The first of some faults, which are told by a property.
use Rattle.std.specs.Prelude.{◌≡◌, ◌⊎◌, List, Option, Some, None, MatchOption, Bool, true, false}
use Rattle.erl_tree.specs.Lists.{Among}
use Rattle.typespecs_rules.specs.declared.fault.PlacedFault.{PlacedFault}
use Rattle.typespecs_rules.specs.TypeFaults.{is_earlier}

-- there is no such fault, or this is one and none of them is earlier
abbrev pub IsFirstOf : (PlacedFault → Type 0) → Option PlacedFault → Type 0
IsFirstOf P first = MatchOption first ((f : PlacedFault) → P f → ⊥) (λ f. P f × ((g : PlacedFault) → P g → is_earlier g f ≡ false))

-- the first of the one that stands and of more faults
abbrev pub IsFirstWith : (old : Option PlacedFault) → (PlacedFault → Type 0) → (new : Option PlacedFault) → Type 0
IsFirstWith old P new = IsFirstOf (λ f. (old ≡ Some f) ⊎ P f) new

-- the faults of some element of a list
abbrev pub OfSome : {A : Type 0} → (A → PlacedFault → Type 0) → List A → PlacedFault → Type 0
OfSome {A} P xs f = (x : A) × Among x xs × P x f

-- whether a fault would be the first one beside the one that stands
abbrev pub would_be_first : Option PlacedFault → PlacedFault → Bool
would_be_first None new = true
would_be_first (Some f) new = is_earlier new f
