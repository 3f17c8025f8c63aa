use Rattle.std.proofs.Common.{refl}
use Rattle.erl_tree.specs.Profile.{bad_escape}
use Rattle.erl_tree.proofs.examples_of_text.bad_escapes.Goals as goal

pub returns-clause-quoted : goal.returns-clause-quoted
unfolding bad_escape
returns-clause-quoted c = refl

pub returns-clause-second : goal.returns-clause-second
unfolding bad_escape
returns-clause-second c = refl

pub returns-clause-character : goal.returns-clause-character
unfolding bad_escape
returns-clause-character c = refl

pub returns-clause-last : goal.returns-clause-last
unfolding bad_escape
returns-clause-last c = refl

pub returns-clause-good : goal.returns-clause-good
unfolding bad_escape
returns-clause-good c = refl

pub returns-clause-behind : goal.returns-clause-behind
unfolding bad_escape
returns-clause-behind c = refl

pub returns-clause-elsewhere : goal.returns-clause-elsewhere
unfolding bad_escape
returns-clause-elsewhere c = refl
