use Rattle.cert_checker.specs.SpecTables.{HoldsSpecs}
use Rattle.cert_checker.proofs.spec_table.spec_places.Given as goal

abbrev pub invariant-loop-at : goal.invariant-loop-at
invariant-loop-at l = HoldsSpecs l.forms l.at l.table
