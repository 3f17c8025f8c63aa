use Rattle.std.proofs.Common.{[], refl, arith}
use Rattle.erl_tree.specs.declared.type_expr.MapPart.{out-MapPart}
use Rattle.typespecs_rules.specs.TypeFaults.{keys_faults}
use Rattle.typespecs_rules.specs.Earliest.{earliest}
use Rattle.typespecs_faults.specs.SeenKeys.{meant}
use Rattle.typespecs_faults.proofs.MapKeyLaws.{keyed_next, keyed_last}
use Rattle.typespecs_faults.proofs.keys.note_keys.Goals as goal

pub loop-part-init : goal.loop-part-init
loop-part-init c = ([], c.new-seen.ensures, refl)

pub loop-part-preserved : goal.loop-part-preserved
loop-part-preserved c =
    keyed_next c.args.parts.now (earliest c.args.first.now (keys_faults [] c.args.parts.now)) c.loop-part.part-index c.part-item.result c.get-kind.result.now (meant c.in_ok-key.key) (out-MapPart c.get-kind.result.now).key.place c.loop-part.seen c.note_key.new.seen c.loop-part.first c.note_key.new.first
    c.loop-part-test.true c.part-item.is c.get-kind.ensures c.in_ok-key.ensures refl c.in_ok-note_key.ensures.noted c.in_ok-note_key.ensures.added c.loop-part.invariant

pub returns : goal.returns
returns c = keyed_last c.args.parts.now (earliest c.args.first.now (keys_faults [] c.args.parts.now)) c.loop-part.part-index c.loop-part.seen c.loop-part.first (omega arith) c.loop-part.invariant
