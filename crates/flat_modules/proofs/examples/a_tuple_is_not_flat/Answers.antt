use Rattle.flat_modules.proofs.SmallExamples.{tuple-not-flat, tuple-whole, tuple-fails}
use Rattle.flat_modules.proofs.examples.a_tuple_is_not_flat.Goals as goal

pub returns-clause-flat_grammar : goal.returns-clause-flat_grammar
returns-clause-flat_grammar c = tuple-not-flat

pub returns-clause-grammar : goal.returns-clause-grammar
returns-clause-grammar c = tuple-whole

pub returns-clause-test : goal.returns-clause-test
returns-clause-test c = tuple-fails
