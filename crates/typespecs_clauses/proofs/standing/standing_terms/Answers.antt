use Rattle.std.proofs.Common.{◌∙◌, ◌<◌, ap, subst, sym, refl, get_or, false}
use Rattle.typespecs_clauses.specs.Clause.{own_terms}
use Rattle.typespecs_rules.specs.Bounds.{bounded, stands_for}
use Rattle.typespecs_rules.specs.TypeVariables.{place_among}
use Rattle.typespecs_terms.specs.Tables.{terms_in}
use Rattle.typespecs_clauses.specs.Names.{texts}
use Rattle.typespecs_clauses.proofs.StandingLaws.{stands-first, all-settled, own-numbered}
use Rattle.typespecs_clauses.proofs.standing.standing_terms.Goals as goal

pub rounds-init : goal.rounds-init
rounds-init c = λ d known x.
    c.in_ok-terms.ensures x
    ∙ stands-first (own_terms c.args.first c.in_ok-places.places x) (stands_for d c.args.source.now.clause.now (own_terms c.args.first c.in_ok-places.places) x) c.in_ok-settled.settled (place_among (bounded c.args.source.now.clause.now.bounds) x) c.in_ok-settled.ensures

pub rounds-preserved : goal.rounds-preserved
rounds-preserved c = λ d known. c.in_ok-settle_in_order.ensures d known (c.rounds.invariant d known)

pub returns-then-are_all_settled : goal.returns-then-are_all_settled
returns-then-are_all_settled c = λ d known x.
    all-settled d c.args.source.now.clause.now (own_terms c.args.first c.in_ok-places.places) c.requires.acyclic (terms_in c.settle_in_order.new.standing.terms) c.settle_in_order.new.standing.settled
    (c.in_ok-settle_in_order.ensures d known (c.rounds.invariant d known))
    (λ j l. ap (λ marks. get_or marks j false) (sym c.as_slice.ensures) ∙ c.if-are_all_settled.ensures refl j (subst (λ n. j < n) (sym c.len-count.ensures) l)) x
    ∙ ap (λ own. stands_for d c.args.source.now.clause.now own x) (own-numbered c.args.first c.in_ok-places.places (texts c.args.names.now) c.in_ok-places.ensures)
