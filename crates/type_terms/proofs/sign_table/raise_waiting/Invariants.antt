use Rattle.type_terms.specs.SignTables.{IsTableOf}
use Rattle.type_terms.proofs.sign_table.raise_waiting.Given as goal

abbrev pub invariant-steps : goal.invariant-steps
invariant-steps l = IsTableOf l.defs l.table
