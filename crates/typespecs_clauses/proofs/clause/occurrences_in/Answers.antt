use Rattle.std.proofs.Common.{◌∙◌, ◌++◌, map, ap, subst, List}
use Rattle.std.specs.Prelude.{IfOk}
use Rattle.type_terms.specs.Keys.{Name}
use Rattle.typespecs_rules.specs.TypeParts.{from_each, types_within}
use Rattle.typespecs_rules.specs.Bounds.{Bound}
use Rattle.typespecs_names.specs.Seen.{seen}
use Rattle.typespecs_clauses.specs.Occurrences.{AreOccurrences}
use Rattle.typespecs_clauses.proofs.ClauseLaws.{own_in, own-clause}
use Rattle.typespecs_clauses.proofs.clause.occurrences_in.Goals as goal

pub returns : goal.returns
returns c =
    subst (λ (names : List Name). IfOk c.occurrences_among.result (λ found. AreOccurrences found names))
    (ap own_in c.deref.ensures.value
    ∙ own-clause c.args.clause.now (seen c.add_each.new.list.items) (seen c.types_within.new.list.items) (seen c.add_bounds.new.list.items)
    (c.in_ok-add_each.ensures ∙ (λ j. seen (c.new-types.ensures.items j) ++ from_each types_within (c.as_slice.ensures j)))
    c.in_ok-types_within.ensures
    (c.in_ok-add_bounds.ensures ∙ ap (λ (bs : List Bound). seen c.types_within.new.list.items ++ from_each types_within (map (λ (b : Bound). b.1) bs)) c.as_slice-2.ensures))
    c.occurrences_among.ensures
