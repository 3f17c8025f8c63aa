use Rattle.erl_grammar.proofs.TreeExamples.{two-signs-formed, two-signs-tokens, not-first-formed, and-first-not-formed, not-and-tokens}
use Rattle.erl_grammar.proofs.examples.signs_bind_most_tightly.Goals as goal

pub returns-clause-two_signs : goal.returns-clause-two_signs
returns-clause-two_signs c = two-signs-formed

pub returns-clause-two_signs_tokens : goal.returns-clause-two_signs_tokens
returns-clause-two_signs_tokens c = two-signs-tokens

pub returns-clause-not_first : goal.returns-clause-not_first
returns-clause-not_first c = not-first-formed

pub returns-clause-and_first : goal.returns-clause-and_first
returns-clause-and_first c = and-first-not-formed

pub returns-clause-same_tokens : goal.returns-clause-same_tokens
returns-clause-same_tokens c = not-and-tokens
