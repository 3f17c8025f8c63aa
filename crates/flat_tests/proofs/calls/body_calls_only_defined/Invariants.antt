use Rattle.name_table.specs.Table.{ids}
use Rattle.flat_tests.specs.Names.{ItemCallsOnly}
use Rattle.flat_tests.proofs.ForEach.{IsLeft}
use Rattle.flat_tests.proofs.calls.body_calls_only_defined.Given as goal

abbrev pub invariant-loop-item : goal.invariant-loop-item
invariant-loop-item l = IsLeft (ItemCallsOnly (ids l.table)) l.body l.item-index
