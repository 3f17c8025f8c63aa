use Rattle.std.proofs.Common.{arith}
use Rattle.std.specs.Prelude.{IsSome}
use Rattle.flat_modules.specs.FlatSpecs.{type_term}
use Rattle.flat_tests.proofs.ForEach.{left_first, left_next, unmet, met}
use Rattle.flat_tests.proofs.known_types.are_known_types.Goals as goal

pub loop-ty-init : goal.loop-ty-init
loop-ty-init c = left_first (λ ty. IsSome (type_term ty)) c.args.types.now

pub returns-then-not-is_known_type : goal.returns-then-not-is_known_type
returns-then-not-is_known_type c = unmet (λ ty. IsSome (type_term ty)) c.args.types.now _ _ c.is_known_type.result c.loop-ty-test.true c.ty-item.is c.is_known_type.ensures c.if-not-is_known_type.true

pub loop-ty-preserved : goal.loop-ty-preserved
loop-ty-preserved c = left_next (λ ty. IsSome (type_term ty)) c.args.types.now _ _ c.loop-ty-test.true c.ty-item.is (c.is_known_type.ensures.0 c.if-not-is_known_type.false) c.loop-ty.invariant

pub returns : goal.returns
returns c = met (λ ty. IsSome (type_term ty)) c.args.types.now c.loop-ty.ty-index (omega arith) c.loop-ty.invariant
