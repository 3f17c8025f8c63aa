use Rattle.std.proofs.Common.{◌≤ℤ◌, arith, to_z, of_z}
use mir.Syntax.{w128}
use Rattle.std.proofs.lemmas.Int.{ints, clamps}
use Rattle.key_sets.specs.Ranges.{range_at}
use Rattle.key_sets.proofs.Sweeps.{passed_more, passed_join, judged_more, judged_all, gap-in, gap-not_in}
use Rattle.key_sets.proofs.sweep.integer_outside.Goals as goal

at_most_next : (c : goal.After-clamp) → c.gap_end-last.result ≤ℤ (range_at c.args.right.now c.walked-reached.result.at).after → to_z w128 (of_z w128 c.clamp.result) ≤ℤ (range_at c.args.right.now c.walked-reached.result.at).after
at_most_next c l = omega (arith, ints)

pub returns-then-reached-range : goal.returns-then-reached-range
returns-then-reached-range c = (
  omega (arith, ints, clamps),
  gap-in c.args.left.now c.args.right.now c.requires.left_ascends c.requires.right_ascends
      c.loop-range.range-index c.loop-range.reached.seen c.max.result c.walked-reached.result.seen _
      (omega arith) (omega (arith, ints, clamps)) (omega (arith, ints)) (omega (arith, ints)) (omega (arith, ints)),
  gap-not_in c.args.left.now c.args.right.now c.requires.left_ascends c.requires.right_ascends
      c.walked-reached.result.at c.walked-reached.result.seen _
      (passed_join c.args.right.now c.loop-range.reached.at c.walked-reached.result.at c.loop-range.reached.seen c.walked-reached.result.seen c.loop-range.invariant.passed (omega (arith, ints)) c.walked-reached.ensures.passed)
      (omega (arith, ints)) (λ l. at_most_next c (c.gap_end-last.ensures.before_next l)),
)

pub loop-range-preserved : goal.loop-range-preserved
loop-range-preserved c = record {
  within = omega arith;
  passed = passed_join c.args.right.now c.loop-range.reached.at c.walked-reached.result.at c.loop-range.reached.seen c.walked-reached.result.seen c.loop-range.invariant.passed (omega (arith, ints)) c.walked-reached.ensures.passed;
  done = passed_more c.args.left.now 0 c.loop-range.range-index c.loop-range.reached.seen c.walked-reached.result.seen c.loop-range.invariant.done (omega (arith, ints)) (omega (arith, ints));
  judged = judged_more c.args.left.now c.args.right.now c.requires.left_ascends c.requires.right_ascends c.loop-range.range-index c.loop-range.reached.seen _ c.walked-reached.result.seen c.loop-range.invariant.done (omega (arith, ints, clamps)) c.walked-reached.ensures.covered c.loop-range.invariant.judged;
}

pub returns : goal.returns
returns c =
    judged_all c.args.left.now c.args.right.now c.requires.left_ascends c.requires.right_ascends
    c.loop-range.range-index _ (omega arith) c.loop-range.invariant.done c.loop-range.invariant.judged
