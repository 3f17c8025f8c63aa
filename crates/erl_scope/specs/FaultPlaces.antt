-- The fault of a module's names that an answer tells, with its place.
use Rattle.std.specs.Prelude.{Option, Some, None}
use Rattle.erl_tree.specs.declared.token.Place.{Place}
use Rattle.erl_scope_rules.specs.declared.fault.NameFault.{NameFault}
use Rattle.erl_scope_rules.specs.declared.fault.NameFault.TheVariants as kinds
use Rattle.erl_scope_rules.specs.declared.fault.PlacedFault.{PlacedFault}
use Rattle.erl_scope.specs.declared.fault.ScopeFault.{ScopeFault}
use Rattle.erl_scope.specs.declared.fault.ScopeFault.TheVariants.{NoMemory, Unbound, Unsafe, NoSuchFunction, TwoFunctions, NoSpec, NoSuchRecord, NoSuchField, Repeated, ArityDiffers}

abbrev pub told : NameFault → Place → Option PlacedFault
told fault place = Some (record { place = place; fault = fault })

-- want of memory tells of no fault
abbrev pub placed_fault : ScopeFault → Option PlacedFault
placed_fault NoMemory = None
placed_fault (Unbound place) = told kinds.Unbound place
placed_fault (Unsafe place) = told kinds.Unsafe place
placed_fault (NoSuchFunction place) = told kinds.NoSuchFunction place
placed_fault (TwoFunctions place) = told kinds.TwoFunctions place
placed_fault (NoSpec place) = told kinds.NoSpec place
placed_fault (NoSuchRecord place) = told kinds.NoSuchRecord place
placed_fault (NoSuchField place) = told kinds.NoSuchField place
placed_fault (Repeated place) = told kinds.Repeated place
placed_fault (ArityDiffers place) = told kinds.ArityDiffers place
