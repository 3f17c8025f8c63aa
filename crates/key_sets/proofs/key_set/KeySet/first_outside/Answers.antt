use Rattle.std.proofs.Common.{◌≡◌, arith, true, false, to_z, of_z}
use mir.Syntax.{w128}
use Rattle.std.proofs.lemmas.Int.{ints}
use Rattle.key_sets.specs.KeySets.{has}
use Rattle.key_sets.proofs.KeySetLemmas.{within-both, integer-has}
use Rattle.key_sets.proofs.key_set.KeySet.first_outside.Goals as goal

pub returns-in-Some : goal.returns-in-Some
unfolding has
returns-in-Some c =
    let e : to_z w128 (of_z w128 c.in-Some.number) ≡ c.in-Some.number = omega (arith, ints) in (
      integer-has c.args.self.now.contents c.as_slice-left.result.now c.in-Some.number _ true c.as_slice-left.ensures.value e c.in-Some.ensures.0 c.in-Some.ensures.1,
      integer-has c.args.other.now.contents c.as_slice-right.result.now c.in-Some.number _ false c.as_slice-right.ensures.value e c.in-Some.ensures.0 c.in-Some.ensures.2,
    )

pub returns-in-Some-2 : goal.returns-in-Some-2
unfolding has
returns-in-Some-2 c = rw c.in-Some-2.is at c.in_ok-name.ensures

pub returns-in-None : goal.returns-in-None
unfolding has
returns-in-None c =
    within-both c.args.self.now.contents c.args.other.now.contents c.as_slice-left.result.now c.as_slice-right.result.now
    c.as_slice-left.ensures.value c.as_slice-right.ensures.value c.in_default.ensures (rw c.in-None.is at c.in_ok-name.ensures)
