use Rattle.std.specs.Prelude.{IsSome}
use Rattle.flat_modules.specs.FlatSpecs.{type_term}
use Rattle.flat_tests.proofs.ForEach.{IsLeft}
use Rattle.flat_tests.proofs.known_types.are_known_types.Given as goal

abbrev pub invariant-loop-ty : goal.invariant-loop-ty
invariant-loop-ty l = IsLeft (λ ty. IsSome (type_term ty)) l.types l.ty-index
