use Rattle.std.proofs.Common.{◌∙◌}
use Rattle.indexmap.proofs.CallerLemmas.{insert_entry-new}
use Rattle.typespecs_faults.specs.NameSets.{has_name}
use Rattle.typespecs_faults.proofs.RecordLookups.{is_under, is-none, there-already, one-more}
use Rattle.typespecs_faults.proofs.record_table.RecordTable.insert.Goals as goal

pub returns-in_ok-insert : goal.returns-in_ok-insert
returns-in_ok-insert c =
    one-more c.as_slice-key.result c.args.name.now c.args.fields c.args.self.now.sets.entries c.insert.new.self.entries c.as_slice-key.ensures
    (c.in_ok-insert.ensures.entries
    ∙ insert_entry-new (λ k. is_under k.now) c.args.self.now.sets c.as_slice-key.result c.args.fields (is-none _ c.contains_key.result c.contains_key.ensures c.if-not-contains_key.true))

pub returns-else-not-contains_key : goal.returns-else-not-contains_key
returns-else-not-contains_key c = there-already c.as_slice-key.result.now c.args.name.now c.args.self.now.sets.entries (has_name c.args.fields) c.contains_key.result c.as_slice-key.ensures c.contains_key.ensures c.if-not-contains_key.false
