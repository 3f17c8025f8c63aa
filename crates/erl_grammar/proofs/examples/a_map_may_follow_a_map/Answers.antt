use Rattle.erl_grammar.proofs.TreeExamples.{changed-twice-formed, changed-twice-tokens}
use Rattle.erl_grammar.proofs.examples.a_map_may_follow_a_map.Goals as goal

pub returns-clause-formed : goal.returns-clause-formed
returns-clause-formed c = changed-twice-formed

pub returns-clause-tokens : goal.returns-clause-tokens
returns-clause-tokens c = changed-twice-tokens
