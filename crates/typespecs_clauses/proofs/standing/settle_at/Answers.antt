use Rattle.std.proofs.Common.{◌∙◌, ◌≡◌, ℕ, List, [], ap, sym, refl, get_or, subst}
use Rattle.std.specs.List.{Contains}
use Rattle.typespecs_rules.specs.Bounds.{Bound, bounded, stands_for, stands_once, with_bound}
use Rattle.typespecs_rules.specs.TypeTerms.{type_kind_term}
use Rattle.typespecs_rules.specs.TypeVariables.{place_among}
use Rattle.typespecs_terms.specs.Tables.{terms_in, tuples_in}
use Rattle.typespecs_clauses.specs.Clause.{own_terms, term_so_far}
use Rattle.typespecs_clauses.proofs.StandingLaws.{settled-again, settled-term, noted-step}
use Rattle.typespecs_clauses.proofs.standing.settle_at.Goals as goal

pub returns-then-not-is_place_of : goal.returns-then-not-is_place_of
returns-then-not-is_place_of c = λ d known before x.
    settled-again d c.args.source.now.clause.now (own_terms c.args.own.now.first c.args.own.now.places) c.requires.acyclic (terms_in c.args.standing.now.terms) c.args.standing.now.settled
    c.args.at c.index-as_slice-at.result c.requires.within (c.index-as_slice-at.is ∙ ap (λ (bs : List Bound). get_or bs c.args.at c.index-as_slice-at.result) c.as_slice.ensures) (c.if-not-is_place_of.ensures.no refl) before x
    ∙ ap (λ s. term_so_far s (own_terms c.args.own.now.first c.args.own.now.places x) (stands_for d c.args.source.now.clause.now (own_terms c.args.own.now.first c.args.own.now.places) x) (place_among (bounded c.args.source.now.clause.now.bounds) x)) (sym c.set.ensures)

pub returns : goal.returns
returns c = λ d known before x.
    let item : c.index-as_slice-at.result ≡ get_or c.args.source.now.clause.now.bounds c.args.at c.index-as_slice-at.result = c.index-as_slice-at.is ∙ ap (λ (bs : List Bound). get_or bs c.args.at c.index-as_slice-at.result) c.as_slice.ensures in
    noted-step d c.args.source.now.clause.now (own_terms c.args.own.now.first c.args.own.now.places) c.requires.acyclic (terms_in c.args.standing.now.terms) c.args.standing.now.settled
    c.args.at c.index-as_slice-at.result c.requires.marked (c.if-not-is_place_of.ensures.yes refl) before
    (with_bound (stands_once c.args.source.now.clause.now c.index-as_slice-at.result.0) (own_terms c.args.own.now.first c.args.own.now.places c.index-as_slice-at.result.0) (type_kind_term d (tuples_in c.args.source.now.tuples.now) (terms_in c.args.standing.now.terms) c.index-as_slice-at.result.1.kind))
    (settled-term d c.args.source.now.clause.now (own_terms c.args.own.now.first c.args.own.now.places) c.requires.acyclic (terms_in c.args.standing.now.terms) c.args.standing.now.settled (tuples_in c.args.source.now.tuples.now) known.tuples before
    c.args.at c.index-as_slice-at.result c.requires.within item (c.if-not-is_place_of.ensures.yes refl)
    (λ j h. c.requires.ready j (subst (λ (g : List (List ℕ)). Contains (get_or g c.args.at []) j) (sym c.requires.variables.graph) h)))
    (terms_in c.note_bound.new.terms) (c.in_ok-note_bound.ensures d known.numbers) x
    ∙ ap (λ s. term_so_far s (own_terms c.args.own.now.first c.args.own.now.places x) (stands_for d c.args.source.now.clause.now (own_terms c.args.own.now.first c.args.own.now.places) x) (place_among (bounded c.args.source.now.clause.now.bounds) x)) (sym c.set-2.ensures)
