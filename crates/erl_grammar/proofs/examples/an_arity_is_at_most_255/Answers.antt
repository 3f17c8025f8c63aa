use Rattle.erl_grammar.proofs.TreeExamples.{arity-255-formed, arity-256-not-formed}
use Rattle.erl_grammar.proofs.examples.an_arity_is_at_most_255.Goals as goal

pub returns-clause-at_most : goal.returns-clause-at_most
returns-clause-at_most c = arity-255-formed

pub returns-clause-above : goal.returns-clause-above
returns-clause-above c = arity-256-not-formed
