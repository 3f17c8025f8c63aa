use Rattle.typespecs_rules.specs.Declarations.{Declarations}
use Rattle.typespecs_clauses.specs.Clause.{Knows, StandsSoFar, own_terms}
use Rattle.typespecs_clauses.proofs.standing.settle_in_order.Given as goal

abbrev pub invariant-order : goal.invariant-order
invariant-order l = (d : Declarations) → Knows l.source d → StandsSoFar d l.source.clause.now (own_terms l.own.first l.own.places) l.initial.standing → StandsSoFar d l.source.clause.now (own_terms l.own.first l.own.places) l.standing
