use Rattle.std.proofs.Common.{◌∙◌, ap}
use Rattle.key_sets.specs.KeySets.{has}
use Rattle.key_sets.specs.Parts.{parts_have}
use Rattle.key_sets.proofs.Sweeps.{ascends-sorted}
use Rattle.key_sets.proofs.KeySetLemmas.{is_among-reordered}
use Rattle.key_sets.proofs.key_set.KeySet.from_parts.Goals as goal

pub invariant_of-result : goal.invariant_of-result
invariant_of-result c = record { ascending = ascends-sorted c.sort.new.self.items c.in_ok-sort.ensures.sorted }

pub returns : goal.returns
unfolding has
returns c key =
    is_among-reordered c.in_ok-contents.contents.ranges.items c.sort.new.self.items _ _ c.in_ok-sort.ensures.permutation key
    ∙ c.in_ok-contents.ensures key ∙ ap (λ ps. parts_have ps key) c.as_slice.ensures
