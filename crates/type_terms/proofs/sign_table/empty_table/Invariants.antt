use Rattle.std.proofs.Common.{◌≡◌, replicate}
use Rattle.type_terms.specs.SignTables.{empty_row}
use Rattle.type_terms.proofs.sign_table.empty_table.Given as goal

abbrev pub invariant-rows : goal.invariant-rows
invariant-rows l = l.table ≡ replicate l.counter empty_row
