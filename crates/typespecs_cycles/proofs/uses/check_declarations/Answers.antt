use Rattle.std.proofs.Common.{subst, arith}
use Rattle.typespecs_names.specs.Seen.{seen}
use Rattle.typespecs_cycles.specs.DeclarationParts.{inner_of}
use Rattle.typespecs_cycles.specs.FirstFaults.{IsFirstWith, OfSome}
use Rattle.typespecs_cycles.specs.GraphFaults.{IsIrregularUse}
use Rattle.typespecs_cycles.proofs.UseLaws.{irregular-start, irregular-next, irregular-end}
use Rattle.typespecs_cycles.proofs.uses.check_declarations.Goals as goal

pub loop-number-init : goal.loop-number-init
loop-number-init c = λ d u. irregular-start d c.args.first.now inner_of c.args.parts.now

pub loop-number-preserved : goal.loop-number-preserved
loop-number-preserved c = λ d u.
    irregular-next d c.args.first.now inner_of c.args.parts.now c.loop-number.number c.index-parts-number.result c.loop-number.first c.check_uses.new.first (omega arith) c.index-parts-number.is
    (subst (λ ts. IsFirstWith c.loop-number.first (OfSome (IsIrregularUse d c.loop-number.number c.index-parts-number.result.params.now) (seen ts)) c.check_uses.new.first) c.as_slice.ensures.value (c.in_ok-check_uses.ensures d u))
    (c.loop-number.invariant d u)

pub returns : goal.returns
returns c = λ d u. irregular-end d c.args.first.now inner_of c.args.parts.now c.loop-number.number c.loop-number.first (omega arith) (c.loop-number.invariant d u)
