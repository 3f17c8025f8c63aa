use Rattle.std.proofs.Common.{◌≡◌, take}
use Rattle.type_terms.specs.Openness.{names_by}
use Rattle.type_terms.proofs.defs.named_in.Given as goal

abbrev pub invariant-bodies : goal.invariant-bodies
invariant-bodies l = l.names.items ≡ names_by l.table (take l.def-index l.defs)
