use Rattle.erl_grammar.proofs.TreeExamples.{tried-and-ended-formed, tried-and-ended-tokens, only-tried-not-formed}
use Rattle.erl_grammar.proofs.examples.a_try_catches_or_ends.Goals as goal

pub returns-clause-ends : goal.returns-clause-ends
returns-clause-ends c = tried-and-ended-formed

pub returns-clause-ends_tokens : goal.returns-clause-ends_tokens
returns-clause-ends_tokens c = tried-and-ended-tokens

pub returns-clause-neither : goal.returns-clause-neither
returns-clause-neither c = only-tried-not-formed
