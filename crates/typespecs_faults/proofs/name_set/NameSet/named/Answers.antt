use Rattle.std.proofs.Common.{arith, refl}
use Rattle.std.proofs.lemmas.List.{drop_all}
use Rattle.typespecs_faults.proofs.NameSetLaws.{named_init, named_next, named_last}
use Rattle.typespecs_faults.proofs.Rows.{rest_at}
use Rattle.typespecs_faults.proofs.name_set.NameSet.named.Goals as goal

pub loop-name-init : goal.loop-name-init
loop-name-init c = named_init c.args.names.now _ c.new-set.result.keys c.new-set.ensures.empty refl

pub loop-name-preserved : goal.loop-name-preserved
loop-name-preserved c =
    named_next c.args.names.now _ _ c.name-item.result c.loop-name.set.keys c.insert.new.self.keys c.as_slice.result (rest_at c.args.names.now c.loop-name.name-index c.name-item.result c.loop-name-test.true c.name-item.is)
    c.as_slice.ensures c.in_ok-insert.ensures.keys c.loop-name.invariant

pub returns : goal.returns
returns c = named_last c.args.names.now _ c.loop-name.set.keys (drop_all c.loop-name.name-index c.args.names.now (omega arith)) c.loop-name.invariant
