use Rattle.erl_grammar.proofs.FormExamples.{foo-formed, foo-tokens, spec-not-skipped, if-not-skipped}
use Rattle.erl_grammar.proofs.examples_of_forms.some_attributes_are_skipped.Goals as goal

pub returns-clause-other : goal.returns-clause-other
returns-clause-other c = foo-formed

pub returns-clause-other_tokens : goal.returns-clause-other_tokens
returns-clause-other_tokens c = foo-tokens

pub returns-clause-of_specs : goal.returns-clause-of_specs
returns-clause-of_specs c = spec-not-skipped

pub returns-clause-of_preprocessor : goal.returns-clause-of_preprocessor
returns-clause-of_preprocessor c = if-not-skipped
