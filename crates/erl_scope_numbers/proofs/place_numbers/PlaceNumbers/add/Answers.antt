use Rattle.std.proofs.Common.{◌∙◌, ap, sym}
use Rattle.indexmap.proofs.CallerLemmas.{insert_entry-new}
use Rattle.erl_scope_numbers.specs.Table.{entry_at}
use Rattle.erl_scope_numbers.proofs.Keys.{is_key, is_none, listed_by_key, added_by_key}
use Rattle.erl_scope_numbers.proofs.place_numbers.PlaceNumbers.add.Goals as goal

pub returns-then-contains_key : goal.returns-then-contains_key
returns-then-contains_key c =
    listed_by_key c.key_of-key.result _ c.key_of-key.ensures c.self.inside.by_place.entries _ c.self.view_is _ c.args.number c.contains_key.ensures c.if-contains_key.true

pub returns : goal.returns
returns c at =
    ap (entry_at at)
    (added_by_key c.key_of-key.result _ c.key_of-key.ensures c.self.inside.by_place.entries _ c.self.view_is c.args.number _
    (c.in_ok-insert.ensures.entries ∙ insert_entry-new is_key c.self.inside.by_place c.key_of-key.result c.args.number (is_none _ (sym c.contains_key.ensures ∙ c.if-contains_key.false))))
