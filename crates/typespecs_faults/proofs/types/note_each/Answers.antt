use Rattle.std.proofs.Common.{◌∙◌, ap, arith}
use Rattle.typespecs_rules.specs.TypeFaults.{own_faults}
use Rattle.typespecs_rules.specs.Earliest.{earliest}
use Rattle.typespecs_faults.specs.NameSets.{has_name}
use Rattle.typespecs_faults.proofs.Rows.{noted_next, noted_last}
use Rattle.typespecs_faults.proofs.TypeLaws.{each-seen}
use Rattle.typespecs_faults.proofs.types.note_each.Goals as goal

pub loop-one-preserved : goal.loop-one-preserved
loop-one-preserved c = λ d k.
    noted_next (λ b. own_faults d (has_name c.args.allowed.now) b.now) c.args.types.now c.args.first.now c.loop-one.one-index c.one-item.result c.loop-one.first c.note_own.new.first c.loop-one-test.true c.one-item.is (c.in_ok-note_own.ensures d k) (c.loop-one.invariant d k)

pub returns : goal.returns
returns c = λ d k.
    noted_last (λ b. own_faults d (has_name c.args.allowed.now) b.now) c.args.types.now c.args.first.now c.loop-one.one-index c.loop-one.first (omega arith) (c.loop-one.invariant d k)
    ∙ ap (earliest c.args.first.now) (each-seen (own_faults d (has_name c.args.allowed.now)) c.args.types.now)
