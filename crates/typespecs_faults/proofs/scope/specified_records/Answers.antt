use Rattle.std.proofs.Common.{map, refl, ap, arith}
use Rattle.std.proofs.lemmas.List.{drop_all}
use Rattle.typespecs_faults.specs.Tables.{table_records, of_spec}
use Rattle.typespecs_faults.proofs.DeclaredRecords.{filled_init, filled_next, filled_last}
use Rattle.typespecs_faults.proofs.Rows.{rest_at}
use Rattle.typespecs_faults.proofs.scope.specified_records.Goals as goal

pub loop-record-init : goal.loop-record-init
loop-record-init c = filled_init (map of_spec c.args.records.now) _ (table_records c.new-table.result) c.new-table.ensures refl

pub loop-record-preserved : goal.loop-record-preserved
loop-record-preserved c =
    filled_next (map of_spec c.args.records.now) _ _ (table_records c.loop-record.table) (table_records c.insert_spec.new.self) (of_spec c.record-item.result)
    (ap (map of_spec) (rest_at c.args.records.now c.loop-record.record-index c.record-item.result c.loop-record-test.true c.record-item.is)) c.in_ok-insert_spec.ensures c.loop-record.invariant

pub returns : goal.returns
returns c = filled_last (map of_spec c.args.records.now) _ (table_records c.loop-record.table) (ap (map of_spec) (drop_all c.loop-record.record-index c.args.records.now (omega arith))) c.loop-record.invariant
