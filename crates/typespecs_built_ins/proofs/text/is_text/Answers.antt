use Rattle.std.proofs.Common.{◌∙◌, ap}
use Rattle.type_terms.specs.Keys.{same_name}
use Rattle.typespecs_built_ins.proofs.TypesByName.{same_name-bytes}
use Rattle.typespecs_built_ins.proofs.text.is_text.Goals as goal

pub returns : goal.returns
returns c = c.eq.ensures ∙ same_name-bytes c.as_slice.result.now c.args.text.now ∙ ap (λ n. same_name n c.args.text.now) c.as_slice.ensures
