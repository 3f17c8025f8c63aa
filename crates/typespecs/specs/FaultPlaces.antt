-- What an answer tells: the fault and its place. Want of memory tells none.
use Rattle.std.specs.Prelude.{Option, Some, None}
use Rattle.typespecs_rules.specs.declared.fault.PlacedFault.{PlacedFault}
use Rattle.typespecs_rules.specs.declared.fault.TypeFault.TheVariants as T
use Rattle.typespecs_rules.specs.TypeFaults.{fault_at}
use Rattle.typespecs.specs.declared.fault.SpecFault.{SpecFault}
use Rattle.typespecs.specs.declared.fault.SpecFault.TheVariants as S

abbrev pub placed_fault : SpecFault → Option PlacedFault
placed_fault S.NoMemory = None
placed_fault (S.NoSuchType p) = Some (fault_at T.NoSuchType p)
placed_fault (S.Repeated p) = Some (fault_at T.Repeated p)
placed_fault (S.NotContractive p) = Some (fault_at T.NotContractive p)
placed_fault (S.NegatedFun p) = Some (fault_at T.NegatedFun p)
placed_fault (S.OutOfProfile p what) = Some (fault_at (T.OutOfProfile what) p)
placed_fault (S.ArityDiffers p) = Some (fault_at T.ArityDiffers p)
placed_fault (S.BadRange p) = Some (fault_at T.BadRange p)
