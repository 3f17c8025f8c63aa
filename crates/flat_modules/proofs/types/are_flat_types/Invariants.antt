use Rattle.std.proofs.Common.{◌≡◌, true, take}
use Rattle.std.specs.List.{list_all}
use Rattle.flat_modules.specs.Flat.{is_flat_type}
use Rattle.flat_modules.proofs.types.are_flat_types.Given as goal

abbrev pub invariant-loop-ty : goal.invariant-loop-ty
invariant-loop-ty l = list_all is_flat_type (take l.ty-index l.types) ≡ true
