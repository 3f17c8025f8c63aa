use Rattle.std.proofs.Common.{take}
use Rattle.typespecs_rules.specs.Bounds.{bounded}
use Rattle.typespecs_rules.specs.TypeVariables.{place_among}
use Rattle.typespecs_terms.specs.Tables.{terms_in}
use Rattle.typespecs_clauses.specs.Names.{texts}
use Rattle.typespecs_clauses.specs.Clause.{own_terms, without_bound}
use Rattle.typespecs_clauses.proofs.StandingLaws.{NamedSoFar}
use Rattle.typespecs_clauses.proofs.standing.unbounded_terms.Given as goal

abbrev pub invariant-names : goal.invariant-names
invariant-names l = NamedSoFar (λ x. without_bound (place_among (bounded l.source.clause.now.bounds) x) (own_terms l.own.first l.own.places x)) (texts (take l.name-index l.names)) (terms_in l.terms)
