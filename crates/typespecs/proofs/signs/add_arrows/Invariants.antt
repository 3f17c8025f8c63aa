use Rattle.std.proofs.Common.{◌≡◌, ◌++◌, take}
use Rattle.typespecs.specs.Names.{arrows_seen}
use Rattle.typespecs.proofs.signs.add_arrows.Given as goal

abbrev pub invariant-loop-arrow : goal.invariant-loop-arrow
invariant-loop-arrow l = arrows_seen l.list.items ≡ arrows_seen l.initial.list.items ++ take l.arrow-index l.arrows
