use Rattle.std.proofs.Common.{◌≡◌, take}
use Rattle.std.specs.List.{filter_map}
use Rattle.typespecs_clauses.specs.Names.{number_of}
use Rattle.typespecs_clauses.proofs.ClauseLaws.{own_in}
use Rattle.typespecs_clauses.proofs.clause.places_among.Given as goal

abbrev pub invariant-types : goal.invariant-types
invariant-types l = l.row ≡ filter_map (number_of l.places) (own_in (take l.t-index l.types))
