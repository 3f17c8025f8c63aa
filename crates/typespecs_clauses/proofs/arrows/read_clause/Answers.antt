use Rattle.std.proofs.Common.{◌∙◌, ap, length}
use Rattle.typespecs_rules.specs.TypeVariables.{numbered_from}
use Rattle.typespecs_rules.specs.SpecTerms.{arrow_with}
use Rattle.typespecs_clauses.specs.Names.{texts}
use Rattle.typespecs_clauses.proofs.ArrowLaws.{held-are, as-many}
use Rattle.typespecs_clauses.proofs.arrows.read_clause.Goals as goal

pub returns-clause-arrow : goal.returns-clause-arrow
returns-clause-arrow c = λ d known.
    c.in_ok-arrow.ensures d known
    ∙ ap (λ names. arrow_with d c.args.source.now.clause.now (numbered_from c.args.first names))
    (ap texts c.as_slice-numbered.ensures.value
    ∙ held-are d c.args.source.now.clause.now (texts c.as_slice-names.result.now) (texts c.in_ok-held.held.items) c.in_ok-all.all (ap texts c.as_slice-names.ensures.value ∙ c.requires.variables.occurrences.firsts) (c.in_ok-all.ensures d known) c.in_ok-held.ensures)

pub returns-clause-count : goal.returns-clause-count
returns-clause-count c = λ d known.
    c.in_ok-count.ensures ∙ (ap length c.as_slice-numbered.ensures.value ∙ (as-many c.in_ok-held.held.items
    ∙ ap length (held-are d c.args.source.now.clause.now (texts c.as_slice-names.result.now) (texts c.in_ok-held.held.items) c.in_ok-all.all (ap texts c.as_slice-names.ensures.value ∙ c.requires.variables.occurrences.firsts) (c.in_ok-all.ensures d known) c.in_ok-held.ensures)))
