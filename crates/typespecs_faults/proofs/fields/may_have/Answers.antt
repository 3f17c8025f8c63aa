use Rattle.std.proofs.Common.{◌∙◌, ap, sym}
use Rattle.std.specs.Option.{option_copied, option_map}
use Rattle.typespecs_faults.specs.NameSets.{has_name}
use Rattle.typespecs_faults.proofs.FieldLaws.{may_be, may-have}
use Rattle.typespecs_faults.proofs.fields.may_have.Goals as goal

pub returns-in-None : goal.returns-in-None
returns-in-None c = λ d h. ap (λ o. may_be (option_map has_name (option_copied o)) c.args.name.now) (sym c.in-None.is) ∙ may-have (option_copied c.args.declared) d c.args.name.now h

pub returns-in-Some : goal.returns-in-Some
returns-in-Some c = λ d h. c.has_name.ensures ∙ (ap (λ o. may_be (option_map has_name (option_copied o)) c.args.name.now) (sym c.in-Some.is) ∙ may-have (option_copied c.args.declared) d c.args.name.now h)
