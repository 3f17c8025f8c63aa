use Rattle.erl_grammar.proofs.TypeExamples.{from-minus-one-formed, from-minus-one-tokens, from-atom-not-formed}
use Rattle.erl_grammar.proofs.examples_of_types.ranges_have_integers_as_ends.Goals as goal

pub returns-clause-integers : goal.returns-clause-integers
returns-clause-integers c = from-minus-one-formed

pub returns-clause-integers_tokens : goal.returns-clause-integers_tokens
returns-clause-integers_tokens c = from-minus-one-tokens

pub returns-clause-atom : goal.returns-clause-atom
returns-clause-atom c = from-atom-not-formed
