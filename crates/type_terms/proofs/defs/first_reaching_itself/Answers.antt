use Rattle.std.proofs.Common.{◌∙◌, ap}
use Rattle.type_terms.specs.Openness.{names_by}
use Rattle.type_terms.proofs.DefinitionLaws.{least-reaching}
use Rattle.type_terms.proofs.defs.first_reaching_itself.Goals as goal

pub returns : goal.returns
returns c = least-reaching c.args.defs.now c.in_ok-table.table.items _ c.in_ok-answer.answer (c.deref-2.ensures.value ∙ (c.in_ok-names.ensures ∙ ap (λ t. names_by t c.args.defs.now) c.deref.ensures.value)) c.in_ok-table.ensures.said c.in_ok-table.ensures.all c.in_ok-answer.ensures
