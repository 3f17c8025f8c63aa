use Rattle.flat_modules.proofs.SmallExamples.{sum-flat, sum-whole, sum-passes}
use Rattle.flat_modules.proofs.examples.a_sum_is_flat.Goals as goal

pub returns-clause-flat_grammar : goal.returns-clause-flat_grammar
returns-clause-flat_grammar c = sum-flat

pub returns-clause-grammar : goal.returns-clause-grammar
returns-clause-grammar c = sum-whole

pub returns-clause-test : goal.returns-clause-test
returns-clause-test c = sum-passes
