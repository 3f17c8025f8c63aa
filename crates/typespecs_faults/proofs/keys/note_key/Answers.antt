use Rattle.std.proofs.Common.{◌∙◌, ap, not}
use Rattle.std.specs.List.{list_any}
use Rattle.typespecs_rules.specs.declared.fault.Outside.TheVariants.{MapKey as MapKeyOutside}
use Rattle.typespecs_rules.specs.declared.fault.TypeFault.TheVariants.{Repeated, OutOfProfile}
use Rattle.typespecs_rules.specs.TypeFaults.{unless, is_key, same_map_key}
use Rattle.typespecs_rules.specs.Earliest.{earliest}
use Rattle.typespecs_faults.specs.SeenKeys.{meant}
use Rattle.typespecs_faults.proofs.Rows.{noted_two}
use Rattle.typespecs_faults.proofs.keys.note_key.Goals as goal

pub returns-clause-noted : goal.returns-clause-noted
returns-clause-noted c = λ before h.
    noted_two c.args.first.now c.note_unless.new.first c.note_unless-2.new.first (unless (is_key (meant c.args.key)) (OutOfProfile MapKeyOutside) c.args.place) (unless (not (list_any (same_map_key (meant c.args.key)) before)) Repeated c.args.place)
    (c.note_unless.ensures ∙ ap (λ b. earliest c.args.first.now (unless b (OutOfProfile MapKeyOutside) c.args.place)) c.is_key-is_key.ensures)
    (c.note_unless-2.ensures ∙ ap (λ b. earliest c.note_unless.new.first (unless b Repeated c.args.place)) (c.in_ok-is_new.ensures.is_new before h))

pub returns-clause-added : goal.returns-clause-added
returns-clause-added c = c.in_ok-is_new.ensures.added
