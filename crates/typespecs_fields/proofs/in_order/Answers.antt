use mathlib.Core.List.{reverse-reverse}
use Rattle.std.proofs.Common.{◌∙◌, rules, reverse, sym}
use Rattle.typespecs_fields.proofs.PlacedFields.{sorted_fields}
use Rattle.typespecs_fields.proofs.in_order.Goals as goal

pub returns : goal.returns
returns c =
    c.from_vec.ensures
    ∙ sorted_fields (reverse c.args.fields.items) c.args.fields.items c.sort_by.new.self.items (sym (reverse-reverse c.args.fields.items)) c.in_ok-sort_by.ensures.sorted c.in_ok-sort_by.ensures.stable (λ a r f' k. search rules)
