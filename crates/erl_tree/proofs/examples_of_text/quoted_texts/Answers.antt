use Rattle.std.proofs.Common.{refl}
use Rattle.std.proofs.Math.Utf8.{encode}
use Rattle.erl_tree.specs.Lexis.{token_of}
use Rattle.erl_tree.proofs.examples_of_text.quoted_texts.Goals as goal

pub returns-clause-atom : goal.returns-clause-atom
unfolding token_of encode
returns-clause-atom c = refl

pub returns-clause-string : goal.returns-clause-string
unfolding token_of encode
returns-clause-string c = refl

pub returns-clause-quote : goal.returns-clause-quote
unfolding token_of encode
returns-clause-quote c = refl

pub returns-clause-empty : goal.returns-clause-empty
unfolding token_of encode
returns-clause-empty c = refl

pub returns-clause-reserved : goal.returns-clause-reserved
unfolding token_of encode
returns-clause-reserved c = refl

pub returns-clause-two_bytes : goal.returns-clause-two_bytes
unfolding token_of encode
returns-clause-two_bytes c = refl

pub returns-clause-cut : goal.returns-clause-cut
unfolding token_of
returns-clause-cut c = refl

pub returns-clause-closed_early : goal.returns-clause-closed_early
unfolding token_of
returns-clause-closed_early c = refl

pub returns-clause-bad_escape : goal.returns-clause-bad_escape
unfolding token_of
returns-clause-bad_escape c = refl
