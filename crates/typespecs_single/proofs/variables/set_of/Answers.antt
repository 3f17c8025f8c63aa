use Rattle.typespecs_single.proofs.SeenNames.{name-next}
use Rattle.typespecs_single.proofs.variables.set_of.Goals as goal

pub names-preserved : goal.names-preserved
names-preserved c = name-next c.args.names.now c.names.name-index c.name-item.result c.as_slice.result c.names.set.keys c.insert.new.self.keys c.names-test.true c.name-item.is c.as_slice.ensures c.in_ok-insert.ensures.keys c.names.invariant
