use Rattle.typespecs_records.proofs.LoopLaws.{settled-step}
use Rattle.typespecs_records.proofs.settling.are_all_settled.Goals as goal

pub records-preserved : goal.records-preserved
records-preserved c = λ d k.
    settled-step d c.args.marks.now c.args.source.now.records.now c.records.record-index c.record-item.result c.records-test.true c.record-item.is (c.records.invariant d k)
    (c.in_ok-is_settled.ensures c.if-not-branch.false d k.numbers)
