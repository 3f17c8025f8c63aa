use Rattle.std.proofs.Common.{◌≡◌, map, take}
use Rattle.typespecs_clauses.proofs.ClauseLaws.{row_of}
use Rattle.typespecs_clauses.proofs.clause.graph_of.Given as goal

abbrev pub invariant-bounds : goal.invariant-bounds
invariant-bounds l = l.graph.items ≡ map (row_of l.bounds) (take l.bound-index l.bounds)
