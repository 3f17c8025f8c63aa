use Rattle.std.proofs.Common.{◌∙◌, ap, sym, append-nil}
use Rattle.typespecs_rules.specs.TypeFaults.{no_variable, type_faults}
use Rattle.typespecs_rules.specs.Earliest.{earliest}
use Rattle.typespecs_faults.specs.NameSets.{has_name}
use Rattle.typespecs_faults.specs.Behind.{field_type_faults}
use Rattle.typespecs_faults.proofs.Rows.{on_ok}
use Rattle.typespecs_faults.proofs.TypeLaws.{allowed-alike}
use Rattle.typespecs_faults.proofs.forms.check_field_type.Goals as goal

pub returns-in-None : goal.returns-in-None
returns-in-None c = λ d k. ap (λ o. earliest c.args.first.now (field_type_faults d o)) (sym c.in-None.is)

pub returns-in-Some : goal.returns-in-Some
returns-in-Some c =
    on_ok c.check_type.result _ _
    (λ h d k. h d k ∙ ap (earliest c.args.first.now) (allowed-alike d (has_name c.all_or_none-allowed.result) no_variable c.all_or_none-allowed.ensures c.in-Some.of ∙ (sym (append-nil (type_faults d no_variable c.in-Some.of)) ∙ ap (field_type_faults d) (sym c.in-Some.is))))
    c.check_type.ensures
