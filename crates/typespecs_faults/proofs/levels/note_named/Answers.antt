use Rattle.std.proofs.Common.{◌∙◌, ap, sym, Option}
use Rattle.type_terms.specs.Keys.{Name}
use Rattle.typespecs_rules.specs.declared.fault.TypeFault.TheVariants.{NoSuchType}
use Rattle.typespecs_rules.specs.TypeFaults.{unless}
use Rattle.typespecs_rules.specs.Earliest.{earliest}
use Rattle.typespecs_faults.specs.Levels.{named_faults}
use Rattle.typespecs_faults.proofs.Rows.{on_ok}
use Rattle.typespecs_faults.proofs.levels.note_named.Goals as goal

pub returns-in-None : goal.returns-in-None
returns-in-None c = on_ok c.note_use.result _ _ (λ h d k. h d k ∙ ap (λ (p : Option Name). earliest c.args.first.now (named_faults d p c.args.name.now c.args.count c.args.place)) (sym c.in-None.is)) c.note_use.ensures

pub returns-in-Some : goal.returns-in-Some
returns-in-Some c = λ d k. c.note_unless.ensures ∙ (ap (λ b. earliest c.args.first.now (unless b NoSuchType c.args.place)) c.is_prefixed_type-is_there.ensures ∙ ap (λ (p : Option Name). earliest c.args.first.now (named_faults d p c.args.name.now c.args.count c.args.place)) (sym c.in-Some.is))
