use Rattle.flat_tests.proofs.SpecTerms.{known_clause, unknown_clause}
use Rattle.flat_tests.proofs.known_types.is_known_clause.Goals as goal

pub returns-then-are_known_types : goal.returns-then-are_known_types
returns-then-are_known_types c =
    known_clause c.args.clause.now c.get-kind.result.now c.as_slice.result.now c.get-kind.ensures c.as_slice.ensures c.are_known_types.result c.are_known_types.ensures c.is_known_type.result c.is_known_type.ensures c.if-are_known_types.true

pub returns-else-are_known_types : goal.returns-else-are_known_types
returns-else-are_known_types c =
    unknown_clause c.args.clause.now c.get-kind.result.now c.as_slice.result.now c.get-kind.ensures c.as_slice.ensures c.are_known_types.result c.are_known_types.ensures c.if-are_known_types.false
