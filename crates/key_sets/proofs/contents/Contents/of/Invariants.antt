use Rattle.std.proofs.Common.{◌≡◌, take}
use Rattle.type_terms.specs.declared.term.Key.{Key}
use Rattle.key_sets.specs.Parts.{parts_have}
use Rattle.key_sets.specs.Contents.{contents_have}
use Rattle.key_sets.proofs.contents.Contents.of.Given as goal

abbrev pub invariant-loop-part : goal.invariant-loop-part
invariant-loop-part l = (key : Key) → contents_have l.contents key ≡ parts_have (take l.part-index l.parts) key
