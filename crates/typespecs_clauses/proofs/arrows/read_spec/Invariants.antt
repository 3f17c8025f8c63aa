use Rattle.std.proofs.Common.{◌≡◌}
use Rattle.type_terms.specs.Keys.{Name}
use Rattle.typespecs_rules.specs.Declarations.{Declarations}
use Rattle.typespecs_rules.specs.TypeTerms.{record_tuple}
use Rattle.typespecs_names.specs.Numbers.{KnowsNumbers}
use Rattle.typespecs_terms.specs.Tables.{tuples_in}
use Rattle.typespecs_clauses.proofs.ArrowLaws.{ReadSoFar}
use Rattle.typespecs_clauses.proofs.arrows.read_spec.Given as goal

abbrev pub invariant-clauses : goal.invariant-clauses
invariant-clauses l = (d : Declarations) → KnowsNumbers l.numbers d → ((name : Name) → tuples_in l.tuples name ≡ record_tuple d name) → ReadSoFar d l.spec.clauses l.clause-index l.vars l.clauses
