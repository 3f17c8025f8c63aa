use Rattle.std.proofs.Common.{refl}
use Rattle.typespecs_rules.specs.TypeFaults.{IsWellSignedArrow}
use Rattle.typespecs.specs.Names.{arrows_seen}
use Rattle.typespecs.proofs.Inversion.{false-true}
use Rattle.typespecs.proofs.Arrows.{seen_is, every_next}
use Rattle.typespecs.proofs.signs.first_unsigned.Goals as goal

pub returns-then-not-is_signed : goal.returns-then-not-is_signed
returns-then-not-is_signed c = (
  (c.index-arrows-number.result).now,
  seen_is c.args.arrows.now c.loop-number.number c.index-arrows-number.result c.loop-number-test.true c.index-arrows-number.is,
  λ signed. false-true (c.if-not-is_signed.ensures.1 signed),
  c.loop-number.invariant,
)

pub loop-number-preserved : goal.loop-number-preserved
loop-number-preserved c =
    every_next (IsWellSignedArrow c.args.defs.now) (arrows_seen c.args.arrows.now) c.loop-number.number (c.index-arrows-number.result).now
    (seen_is c.args.arrows.now c.loop-number.number c.index-arrows-number.result c.loop-number-test.true c.index-arrows-number.is)
    c.loop-number.invariant (c.if-not-is_signed.ensures.0 refl)
