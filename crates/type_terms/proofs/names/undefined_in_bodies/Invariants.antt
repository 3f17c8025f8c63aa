use Rattle.std.proofs.Common.{◌≡◌, take}
use Rattle.type_terms.specs.Undefined.{undefined_in_bodies}
use Rattle.type_terms.proofs.names.undefined_in_bodies.Given as goal

abbrev pub invariant-loop-def : goal.invariant-loop-def
invariant-loop-def l = l.found ≡ undefined_in_bodies l.defs (take l.def-index l.defs)
