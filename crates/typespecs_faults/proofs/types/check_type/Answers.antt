use Rattle.std.proofs.Common.{◌∙◌, ◌++◌, ap}
use Rattle.typespecs_rules.specs.TypeParts.{from_each, types_within}
use Rattle.typespecs_rules.specs.TypeFaults.{own_faults}
use Rattle.typespecs_rules.specs.Earliest.{earliest}
use Rattle.typespecs_names.specs.Seen.{seen}
use Rattle.typespecs_faults.specs.NameSets.{has_name}
use Rattle.typespecs_faults.proofs.Rows.{on_ok}
use Rattle.typespecs_faults.proofs.types.check_type.Goals as goal

pub returns : goal.returns
returns c =
    on_ok c.note_each.result _ _
    (λ h d k. h d k ∙ ap (λ xs. earliest c.args.first.now (from_each (own_faults d (has_name c.args.allowed.now)) xs))
    (ap seen c.as_slice.ensures.value ∙ (c.in_ok-types_within.ensures ∙ ap (λ ys. seen ys ++ types_within c.args.t.now) c.new-within.ensures.items)))
    c.note_each.ensures
