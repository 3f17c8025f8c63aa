use Rattle.std.proofs.Common.{refl}
use Rattle.erl_tree.specs.Lexis.{token_of}
use Rattle.erl_tree.proofs.examples_of_text.names_of_texts.Goals as goal

pub returns-clause-atom : goal.returns-clause-atom
unfolding token_of
returns-clause-atom c = refl

pub returns-clause-word : goal.returns-clause-word
unfolding token_of
returns-clause-word c = refl

pub returns-clause-variable : goal.returns-clause-variable
unfolding token_of
returns-clause-variable c = refl

pub returns-clause-wildcard : goal.returns-clause-wildcard
unfolding token_of
returns-clause-wildcard c = refl
