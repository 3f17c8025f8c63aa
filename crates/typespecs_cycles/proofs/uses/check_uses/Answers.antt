use Rattle.std.proofs.Common.{arith}
use Rattle.typespecs_names.specs.Seen.{seen}
use Rattle.typespecs_cycles.specs.FirstFaults.{OfSome}
use Rattle.typespecs_cycles.specs.GraphFaults.{IsIrregularUse}
use Rattle.typespecs_cycles.proofs.FirstLaws.{alike, first-start, first-next, first-end}
use Rattle.typespecs_cycles.proofs.UseLaws.{map-into, map-from}
use Rattle.typespecs_cycles.proofs.uses.check_uses.Goals as goal

pub loop-t-init : goal.loop-t-init
loop-t-init c = λ d u. first-start (λ t. IsIrregularUse d c.args.number c.args.params.now t.now) c.args.types.now c.args.first.now

pub loop-t-preserved : goal.loop-t-preserved
loop-t-preserved c = λ d u.
    first-next (λ t. IsIrregularUse d c.args.number c.args.params.now t.now) c.args.types.now c.args.first.now c.loop-t.t-index c.t-item.result c.loop-t.first c.check_use.new.first c.loop-t-test.true c.t-item.is (c.in_ok-check_use.ensures d u) (c.loop-t.invariant d u)

pub returns : goal.returns
returns c = λ d u.
    alike (OfSome (λ t. IsIrregularUse d c.args.number c.args.params.now t.now) c.args.types.now) (OfSome (IsIrregularUse d c.args.number c.args.params.now) (seen c.args.types.now)) c.args.first.now c.loop-t.first
    (map-into (IsIrregularUse d c.args.number c.args.params.now) (λ t. t.now) c.args.types.now) (map-from (IsIrregularUse d c.args.number c.args.params.now) (λ t. t.now) c.args.types.now)
    (first-end (λ t. IsIrregularUse d c.args.number c.args.params.now t.now) c.args.types.now c.args.first.now c.loop-t.t-index c.loop-t.first (omega arith) (c.loop-t.invariant d u))
