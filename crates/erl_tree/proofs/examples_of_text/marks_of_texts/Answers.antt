use Rattle.std.proofs.Common.{refl}
use Rattle.erl_tree.specs.Lexis.{token_of}
use Rattle.erl_tree.proofs.examples_of_text.marks_of_texts.Goals as goal

pub returns-clause-arrow : goal.returns-clause-arrow
unfolding token_of
returns-clause-arrow c = refl

pub returns-clause-dot_at_the_end : goal.returns-clause-dot_at_the_end
unfolding token_of
returns-clause-dot_at_the_end c = refl

pub returns-clause-dot_before_a_space : goal.returns-clause-dot_before_a_space
unfolding token_of
returns-clause-dot_before_a_space c = refl

pub returns-clause-dot_before_a_comment : goal.returns-clause-dot_before_a_comment
unfolding token_of
returns-clause-dot_before_a_comment c = refl

pub returns-clause-dot_before_a_letter : goal.returns-clause-dot_before_a_letter
unfolding token_of
returns-clause-dot_before_a_letter c = refl

pub returns-clause-none : goal.returns-clause-none
unfolding token_of
returns-clause-none c = refl
