use Rattle.std.proofs.Common.{◌∙◌, ◌++◌, ap, map, arith}
use Rattle.typespecs_cycles.specs.DeclarationParts.{inner_of}
use Rattle.typespecs_cycles.proofs.FormLaws.{type_inside, types-inside}
use Rattle.typespecs_cycles.proofs.Gathering.{gathered-end}
use Rattle.typespecs_cycles.proofs.parts.add_types.Goals as goal

pub returns : goal.returns
returns c =
    gathered-end type_inside c.args.forms.now (map inner_of c.args.list.now.items) c.loop-form.form-index (map inner_of c.loop-form.list.items) (omega arith) c.loop-form.invariant
    ∙ ap (λ more. map inner_of c.args.list.now.items ++ more) (types-inside c.args.forms.now)
