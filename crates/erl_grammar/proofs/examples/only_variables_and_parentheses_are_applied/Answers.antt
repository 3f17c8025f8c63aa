use Rattle.erl_grammar.proofs.TreeExamples.{applied-twice-not-formed, applied-twice-tokens, applied-in-parens-formed}
use Rattle.erl_grammar.proofs.examples.only_variables_and_parentheses_are_applied.Goals as goal

pub returns-clause-applied_twice : goal.returns-clause-applied_twice
returns-clause-applied_twice c = applied-twice-not-formed

pub returns-clause-applied_twice_tokens : goal.returns-clause-applied_twice_tokens
returns-clause-applied_twice_tokens c = applied-twice-tokens

pub returns-clause-in_parens : goal.returns-clause-in_parens
returns-clause-in_parens c = applied-in-parens-formed
