use Rattle.type_terms.specs.SignTables.{IsTableOf}
use Rattle.type_terms.proofs.sign_table.sign_table.Given as goal

abbrev pub invariant-rounds : goal.invariant-rounds
invariant-rounds l = IsTableOf l.defs l.table
