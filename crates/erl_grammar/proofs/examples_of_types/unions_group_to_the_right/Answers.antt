use Rattle.erl_grammar.proofs.TypeExamples.{union-right-formed, union-right-tokens, union-left-not-formed, union-left-tokens}
use Rattle.erl_grammar.proofs.examples_of_types.unions_group_to_the_right.Goals as goal

pub returns-clause-right : goal.returns-clause-right
returns-clause-right c = union-right-formed

pub returns-clause-right_tokens : goal.returns-clause-right_tokens
returns-clause-right_tokens c = union-right-tokens

pub returns-clause-left : goal.returns-clause-left
returns-clause-left c = union-left-not-formed

pub returns-clause-left_tokens : goal.returns-clause-left_tokens
returns-clause-left_tokens c = union-left-tokens
