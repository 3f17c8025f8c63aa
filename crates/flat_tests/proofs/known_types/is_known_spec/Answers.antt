use Rattle.flat_tests.proofs.SpecTerms.{known_spec}
use Rattle.flat_tests.proofs.known_types.is_known_spec.Goals as goal

pub returns : goal.returns
returns c = known_spec c.args.spec.now c.get.result.now c.as_slice.result.now c.are_known_clauses.result c.get.ensures c.as_slice.ensures c.are_known_clauses.ensures
