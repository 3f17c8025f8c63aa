use Rattle.std.proofs.Common.{◌≡◌, true, take}
use Rattle.std.specs.List.{list_all}
use Rattle.flat_modules.specs.Flat.{is_flat_pattern}
use Rattle.flat_modules.proofs.functions.are_flat_patterns.Given as goal

abbrev pub invariant-loop-pattern : goal.invariant-loop-pattern
invariant-loop-pattern l = list_all is_flat_pattern (take l.pattern-index l.patterns) ≡ true
