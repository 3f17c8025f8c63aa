use Rattle.std.proofs.Common.{◌∙◌, ap, List}
use Rattle.type_terms.specs.Keys.{Name}
use Rattle.typespecs_rules.specs.TypeFaults.{stands_among}
use Rattle.typespecs_faults.specs.NameSets.{has_name}
use Rattle.typespecs_faults.specs.Tables.{table_records}
use Rattle.typespecs_faults.proofs.DeclaredRecords.{fields-alike}
use Rattle.typespecs_faults.proofs.Rows.{on_ok}
use Rattle.typespecs_faults.proofs.record_table.RecordTable.insert_spec.Goals as goal

pub returns : goal.returns
returns c =
    on_ok c.insert.result _ _
    (λ h n. h n ∙ fields-alike (table_records c.args.self.now) c.args.spec.now.name (has_name c.in_ok-fields.fields) (λ x. stands_among x c.args.spec.now.fields) (λ x. c.in_ok-fields.ensures x ∙ ap (λ (ns : List Name). stands_among x ns) c.as_slice.ensures) n)
    c.insert.ensures
