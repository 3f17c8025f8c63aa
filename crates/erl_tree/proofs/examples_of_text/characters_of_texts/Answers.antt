use Rattle.std.proofs.Common.{refl}
use Rattle.erl_tree.specs.Lexis.{token_of}
use Rattle.erl_tree.proofs.examples_of_text.characters_of_texts.Goals as goal

pub returns-clause-letter : goal.returns-clause-letter
unfolding token_of
returns-clause-letter c = refl

pub returns-clause-line_feed : goal.returns-clause-line_feed
unfolding token_of
returns-clause-line_feed c = refl

pub returns-clause-backslash : goal.returns-clause-backslash
unfolding token_of
returns-clause-backslash c = refl

pub returns-clause-quote : goal.returns-clause-quote
unfolding token_of
returns-clause-quote c = refl

pub returns-clause-none : goal.returns-clause-none
unfolding token_of
returns-clause-none c = refl

pub returns-clause-bad_escape : goal.returns-clause-bad_escape
unfolding token_of
returns-clause-bad_escape c = refl
