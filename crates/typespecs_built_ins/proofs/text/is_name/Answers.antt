use Rattle.std.proofs.Common.{◌∙◌, ap}
use Rattle.type_terms.specs.Keys.{same_name}
use Rattle.typespecs_built_ins.proofs.TypesByName.{same_name-bytes}
use Rattle.typespecs_built_ins.proofs.text.is_name.Goals as goal

pub returns : goal.returns
returns c = c.eq.ensures ∙ same_name-bytes c.args.text.now c.as_slice.result.now ∙ ap (same_name c.args.text.now) c.as_slice.ensures
