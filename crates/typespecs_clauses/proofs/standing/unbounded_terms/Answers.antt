use Rattle.std.proofs.Common.{arith, subst}
use Rattle.std.proofs.lemmas.List.{take_all}
use Rattle.typespecs_rules.specs.Bounds.{bounded}
use Rattle.typespecs_rules.specs.TypeVariables.{place_among}
use Rattle.typespecs_terms.specs.Tables.{terms_in}
use Rattle.typespecs_clauses.specs.Names.{texts}
use Rattle.typespecs_clauses.specs.Clause.{own_terms, without_bound}
use Rattle.typespecs_clauses.proofs.StandingLaws.{NamedSoFar, named-more, named-all}
use Rattle.typespecs_clauses.proofs.standing.unbounded_terms.Goals as goal

pub names-preserved : goal.names-preserved
names-preserved c =
    named-more (λ x. without_bound (place_among (bounded c.args.source.now.clause.now.bounds) x) (own_terms c.args.own.now.first c.args.own.now.places x)) c.args.names.now c.names.name-index c.name-item.result c.names-test.true c.name-item.is
    (terms_in c.names.terms) (terms_in c.note_unbounded.new.terms) c.names.invariant c.in_ok-note_unbounded.ensures

pub returns : goal.returns
returns c =
    named-all c.args.source.now.clause.now.bounds c.args.own.now.first c.args.own.now.places (texts c.args.names.now) (terms_in c.names.terms) c.requires.places
    (subst (λ ns. NamedSoFar (λ x. without_bound (place_among (bounded c.args.source.now.clause.now.bounds) x) (own_terms c.args.own.now.first c.args.own.now.places x)) (texts ns) (terms_in c.names.terms)) (take_all c.names.name-index c.args.names.now (omega arith)) c.names.invariant)
