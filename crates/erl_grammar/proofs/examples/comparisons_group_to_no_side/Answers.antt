use Rattle.erl_grammar.proofs.TreeExamples.{equals-left-not-formed, equals-right-not-formed, equals-tokens}
use Rattle.erl_grammar.proofs.examples.comparisons_group_to_no_side.Goals as goal

pub returns-clause-left : goal.returns-clause-left
returns-clause-left c = equals-left-not-formed

pub returns-clause-right : goal.returns-clause-right
returns-clause-right c = equals-right-not-formed

pub returns-clause-same_tokens : goal.returns-clause-same_tokens
returns-clause-same_tokens c = equals-tokens
