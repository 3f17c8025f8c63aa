use Rattle.std.proofs.Common.{refl}
use Rattle.erl_tree.specs.Lexis.{token_of}
use Rattle.erl_tree.proofs.examples_of_text.integers_of_texts.Goals as goal

pub returns-clause-decimal : goal.returns-clause-decimal
unfolding token_of
returns-clause-decimal c = refl

pub returns-clause-grouped : goal.returns-clause-grouped
unfolding token_of
returns-clause-grouped c = refl

pub returns-clause-based : goal.returns-clause-based
unfolding token_of
returns-clause-based c = refl

pub returns-clause-grouped_and_based : goal.returns-clause-grouped_and_based
unfolding token_of
returns-clause-grouped_and_based c = refl

pub returns-clause-two_underscores : goal.returns-clause-two_underscores
unfolding token_of
returns-clause-two_underscores c = refl

pub returns-clause-underscore_last : goal.returns-clause-underscore_last
unfolding token_of
returns-clause-underscore_last c = refl

pub returns-clause-base_too_large : goal.returns-clause-base_too_large
unfolding token_of
returns-clause-base_too_large c = refl

pub returns-clause-digit_too_large : goal.returns-clause-digit_too_large
unfolding token_of
returns-clause-digit_too_large c = refl
