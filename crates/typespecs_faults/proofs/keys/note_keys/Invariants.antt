use Rattle.std.proofs.Common.{[]}
use Rattle.typespecs_rules.specs.TypeFaults.{keys_faults}
use Rattle.typespecs_rules.specs.Earliest.{earliest}
use Rattle.typespecs_faults.proofs.MapKeyLaws.{IsKeyedTo}
use Rattle.typespecs_faults.proofs.keys.note_keys.Given as goal

abbrev pub invariant-loop-part : goal.invariant-loop-part
invariant-loop-part l = IsKeyedTo l.parts (earliest l.initial.first (keys_faults [] l.parts)) l.part-index l.seen l.first
