use Rattle.std.proofs.Common.{refl}
use Rattle.erl_tree.specs.Lexis.{token_of}
use Rattle.erl_tree.proofs.TextExamples.{long_mark, short_mark}
use Rattle.erl_tree.proofs.examples_of_text.the_longest_text_counts.Goals as goal

pub returns-clause-longest : goal.returns-clause-longest
returns-clause-longest c = long_mark

pub returns-clause-whole : goal.returns-clause-whole
unfolding token_of
returns-clause-whole c = refl

pub returns-clause-front : goal.returns-clause-front
unfolding token_of
returns-clause-front c = refl

pub returns-clause-shorter : goal.returns-clause-shorter
returns-clause-shorter c = short_mark
