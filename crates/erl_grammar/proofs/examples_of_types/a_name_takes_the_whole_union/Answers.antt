use Rattle.erl_grammar.proofs.TypeExamples.{union-named-formed, union-named-tokens, named-in-union-not-formed, named-in-union-tokens}
use Rattle.erl_grammar.proofs.examples_of_types.a_name_takes_the_whole_union.Goals as goal

pub returns-clause-whole : goal.returns-clause-whole
returns-clause-whole c = union-named-formed

pub returns-clause-whole_tokens : goal.returns-clause-whole_tokens
returns-clause-whole_tokens c = union-named-tokens

pub returns-clause-first : goal.returns-clause-first
returns-clause-first c = named-in-union-not-formed

pub returns-clause-first_tokens : goal.returns-clause-first_tokens
returns-clause-first_tokens c = named-in-union-tokens
