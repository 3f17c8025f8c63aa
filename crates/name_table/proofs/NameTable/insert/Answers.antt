use Rattle.std.proofs.Common.{◌≡◌, ◌∙◌, ◌++◌, ◌∷◌, [], refl, sym, subst}
use Rattle.erl_tree.specs.Lists.{Among, AreDistinct}
use Rattle.indexmap.proofs.CallerLemmas.{insert_entry-new}
use Rattle.erl_tree.specs.Functions.{of_function}
use Rattle.name_table.specs.Table.{ids}
use Rattle.name_table.specs.Entries.{entries_of}
use Rattle.name_table.proofs.Lookups.{is_key, is_none, present_by_key, absent_by_key, added_by_key, AreDistinct-entry}
use Rattle.name_table.proofs.NameTable.insert.Goals as goal

pub returns-then-contains_key-clause-inserted : goal.returns-then-contains_key-clause-inserted
returns-then-contains_key-clause-inserted c =
    (present_by_key c.in_ok-key.key _ c.in_ok-key.ensures c.self.inside.numbers.entries _ c.self.view_is _ c.contains_key.ensures c.if-contains_key.true, refl)

absent : (c : goal.In_ok-insert) → Among (of_function c.args.name.now c.args.arity) (ids c.args.self.now) → ⊥
absent c = absent_by_key c.in_ok-key.key _ c.in_ok-key.ensures c.self.inside.numbers.entries _ c.self.view_is _ c.contains_key.ensures c.if-contains_key.false

added : (c : goal.In_ok-insert) → entries_of c.insert.new.self.entries ≡ c.args.self.now ++ (of_function c.args.name.now c.args.arity, c.args.number) ∷ []
added c =
    added_by_key c.in_ok-key.key _ c.in_ok-key.ensures c.self.inside.numbers.entries _ c.self.view_is c.args.number _
    (c.in_ok-insert.ensures.entries ∙ insert_entry-new is_key c.self.inside.numbers c.in_ok-key.key c.args.number (is_none _ (sym c.contains_key.ensures ∙ c.if-contains_key.false)))

distinct : (c : goal.In_ok-insert) → AreDistinct (ids (entries_of c.insert.new.self.entries))
distinct c =
    subst (λ es. AreDistinct (ids es)) (sym (added c)) (AreDistinct-entry c.args.self.now _ c.args.number (subst (λ es. AreDistinct (ids es)) c.self.view_is c.self.invariant) (absent c))

pub invariant_of-self-2 : goal.invariant_of-self-2
invariant_of-self-2 c = distinct c

pub returns-clause-inserted : goal.returns-clause-inserted
returns-clause-inserted c = (absent c, added c)

pub returns-clause-distinct : goal.returns-clause-distinct
returns-clause-distinct c = distinct c
