use Rattle.std.proofs.Common.{drop, map}
use Rattle.erl_runs.specs.Records.{records_in}
use Rattle.typespecs_faults.specs.Tables.{table_records, of_declaration}
use Rattle.typespecs_faults.proofs.DeclaredRecords.{IsFilledTo}
use Rattle.typespecs_faults.proofs.scope.declared_records.Given as goal

abbrev pub invariant-loop-form : goal.invariant-loop-form
invariant-loop-form l = IsFilledTo (map of_declaration (records_in l.forms)) (map of_declaration (records_in (drop l.form-index l.forms))) (table_records l.table)
