use Rattle.erl_grammar.proofs.TypeExamples.{negation-of-atom-formed, negation-of-atom-tokens, other-of-atom-not-formed, negation-of-two-not-formed}
use Rattle.erl_grammar.proofs.examples_of_types.a_negation_has_one_argument.Goals as goal

pub returns-clause-one : goal.returns-clause-one
returns-clause-one c = negation-of-atom-formed

pub returns-clause-one_tokens : goal.returns-clause-one_tokens
returns-clause-one_tokens c = negation-of-atom-tokens

pub returns-clause-other : goal.returns-clause-other
returns-clause-other c = other-of-atom-not-formed

pub returns-clause-two : goal.returns-clause-two
returns-clause-two c = negation-of-two-not-formed
