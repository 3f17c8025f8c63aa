use Rattle.std.proofs.Common.{arith}
use Rattle.std.proofs.lemmas.Int.{ints, clamps}
use Rattle.key_sets.proofs.Sweeps.{passed_more, covered_more}
use Rattle.key_sets.proofs.sweep.walked.Goals as goal

pub loop-at-preserved : goal.loop-at-preserved
loop-at-preserved c = record {
  further = omega arith;
  within = omega arith;
  up = omega (arith, ints);
  passed = passed_more c.args.ranges.now c.args.from.at c.loop-at.at _ _ c.loop-at.invariant.passed (omega (arith, ints)) (omega (arith, ints));
  covered = covered_more c.args.ranges.now c.loop-at.at c.args.from.seen _ _ c.loop-at.invariant.covered (omega arith) (omega (arith, ints)) (omega (arith, ints, clamps));
}
