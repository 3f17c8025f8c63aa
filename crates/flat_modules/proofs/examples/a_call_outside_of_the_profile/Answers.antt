use Rattle.flat_modules.proofs.SmallExamples.{call-flat, call-not-whole, call-passes}
use Rattle.flat_modules.proofs.examples.a_call_outside_of_the_profile.Goals as goal

pub returns-clause-flat_grammar : goal.returns-clause-flat_grammar
returns-clause-flat_grammar c = call-flat

pub returns-clause-grammar : goal.returns-clause-grammar
returns-clause-grammar c = call-not-whole

pub returns-clause-test : goal.returns-clause-test
returns-clause-test c = call-passes
