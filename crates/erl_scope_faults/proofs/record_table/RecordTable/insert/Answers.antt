use Rattle.std.proofs.Common.{◌≡◌, ◌∙◌, ◌++◌, ◌∷◌, [], refl}
use Rattle.indexmap.proofs.CallerLemmas.{insert_entry-new}
use Rattle.erl_scope_faults.proofs.RecordLookups.{is_under, is-none, there-already, one-more, named-more}
use Rattle.erl_scope_faults.proofs.record_table.RecordTable.insert.Goals as goal

added : (c : goal.In_ok-insert) → c.insert.new.self.entries ≡ c.self.inside.declarations.entries ++ (c.as_slice-name.result, c.args.declaration) ∷ []
added c =
    c.in_ok-insert.ensures.entries
    ∙ insert_entry-new (λ k. is_under k.now) c.self.inside.declarations c.as_slice-name.result c.args.declaration (is-none _ c.contains_key.result c.contains_key.ensures c.if-not-contains_key.true)

pub invariant_of-self : goal.invariant_of-self
invariant_of-self c = named-more c.self.inside.declarations.entries c.insert.new.self.entries c.as_slice-name.result c.args.declaration c.as_slice-name.ensures c.self.invariant (added c)

pub returns-in_ok-insert : goal.returns-in_ok-insert
returns-in_ok-insert c = one-more c.as_slice-name.result.now c.args.declaration.now c.as_slice-name.ensures c.self.inside.declarations.entries c.args.self.now c.self.view_is c.self.invariant c.as_slice-name.result c.args.declaration c.insert.new.self.entries refl (added c)

pub returns-else-not-contains_key : goal.returns-else-not-contains_key
returns-else-not-contains_key c = there-already c.as_slice-name.result.now c.args.declaration.now c.as_slice-name.ensures c.self.inside.declarations.entries c.args.self.now c.self.view_is c.self.invariant c.contains_key.result c.contains_key.ensures c.if-not-contains_key.false
