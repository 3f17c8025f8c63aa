use Rattle.erl_grammar.proofs.TreeExamples.{append-right-formed, append-left-not-formed, append-tokens}
use Rattle.erl_grammar.proofs.examples.append_groups_to_the_right.Goals as goal

pub returns-clause-right : goal.returns-clause-right
returns-clause-right c = append-right-formed

pub returns-clause-left : goal.returns-clause-left
returns-clause-left c = append-left-not-formed

pub returns-clause-same_tokens : goal.returns-clause-same_tokens
returns-clause-same_tokens c = append-tokens
