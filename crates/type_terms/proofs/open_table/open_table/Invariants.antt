use Rattle.type_terms.specs.Openness.{OpenWhereSaid}
use Rattle.type_terms.proofs.open_table.open_table.Given as goal

abbrev pub invariant-loop-step : goal.invariant-loop-step
invariant-loop-step l = OpenWhereSaid l.defs l.table.items
