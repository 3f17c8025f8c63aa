use Rattle.std.proofs.Common.{drop, map}
use Rattle.typespecs_faults.specs.Tables.{table_records, of_spec}
use Rattle.typespecs_faults.proofs.DeclaredRecords.{IsFilledTo}
use Rattle.typespecs_faults.proofs.scope.specified_records.Given as goal

abbrev pub invariant-loop-record : goal.invariant-loop-record
invariant-loop-record l = IsFilledTo (map of_spec l.records) (map of_spec (drop l.record-index l.records)) (table_records l.table)
