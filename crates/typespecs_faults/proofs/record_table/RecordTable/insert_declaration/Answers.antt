use Rattle.std.proofs.Common.{◌∙◌}
use Rattle.erl_runs.specs.Records.{fields_of, has_field}
use Rattle.typespecs_faults.specs.NameSets.{has_name}
use Rattle.typespecs_faults.specs.Tables.{table_records}
use Rattle.typespecs_faults.proofs.DeclaredRecords.{fields-alike}
use Rattle.typespecs_faults.proofs.Rows.{on_ok}
use Rattle.typespecs_faults.proofs.record_table.RecordTable.insert_declaration.Goals as goal

pub returns : goal.returns
returns c =
    on_ok c.insert.result _ _
    (λ h n. h n ∙ fields-alike (table_records c.args.self.now) c.args.declaration.now.name (has_name c.in_ok-fields.fields) (has_field (fields_of c.args.declaration.now)) c.in_ok-fields.ensures n)
    c.insert.ensures
