use Rattle.std.proofs.Common.{take}
use Rattle.typespecs_rules.specs.Declarations.{Declarations}
use Rattle.typespecs_records.specs.Settled.{AreSettled, Knows}
use Rattle.typespecs_records.specs.Records.{records_seen}
use Rattle.typespecs_records.proofs.settling.are_all_settled.Given as goal

abbrev pub invariant-records : goal.invariant-records
invariant-records l = (d : Declarations) → Knows l.source d → AreSettled d l.marks (records_seen (take l.record-index l.source.records.now))
