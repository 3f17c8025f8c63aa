use Rattle.erl_grammar.proofs.TreeExamples.{minus-left-formed, minus-left-tokens, minus-right-not-formed, minus-right-tokens}
use Rattle.erl_grammar.proofs.examples.minus_groups_to_the_left.Goals as goal

pub returns-clause-left : goal.returns-clause-left
returns-clause-left c = minus-left-formed

pub returns-clause-left_tokens : goal.returns-clause-left_tokens
returns-clause-left_tokens c = minus-left-tokens

pub returns-clause-right : goal.returns-clause-right
returns-clause-right c = minus-right-not-formed

pub returns-clause-right_tokens : goal.returns-clause-right_tokens
returns-clause-right_tokens c = minus-right-tokens
