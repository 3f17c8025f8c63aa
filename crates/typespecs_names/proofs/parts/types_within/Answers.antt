use Rattle.typespecs_names.specs.Seen.{seen}
use Rattle.typespecs_names.proofs.Steps.{on_ok}
use Rattle.typespecs_names.proofs.Within.{with_one}
use Rattle.typespecs_names.proofs.parts.types_within.Goals as goal

pub returns : goal.returns
returns c =
    on_ok c.add_inside.result _ _ (λ h. with_one (seen c.args.list.now.items) (seen c.note.new.list.items) (seen c.add_inside.new.list.items) c.args.t.now c.get.result.now c.in_ok-note.ensures c.get.ensures h) c.add_inside.ensures
