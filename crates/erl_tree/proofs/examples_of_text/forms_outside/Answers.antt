use Rattle.std.proofs.Common.{refl}
use Rattle.erl_tree.specs.Profile.{outside_form}
use Rattle.erl_tree.proofs.examples_of_text.forms_outside.Goals as goal

pub returns-clause-float : goal.returns-clause-float
unfolding outside_form
returns-clause-float c = refl

pub returns-clause-grouped_float : goal.returns-clause-grouped_float
unfolding outside_form
returns-clause-grouped_float c = refl

pub returns-clause-range : goal.returns-clause-range
unfolding outside_form
returns-clause-range c = refl

pub returns-clause-integer_and_dot : goal.returns-clause-integer_and_dot
unfolding outside_form
returns-clause-integer_and_dot c = refl

pub returns-clause-macro_use : goal.returns-clause-macro_use
unfolding outside_form
returns-clause-macro_use c = refl

pub returns-clause-binary : goal.returns-clause-binary
unfolding outside_form
returns-clause-binary c = refl

pub returns-clause-generator : goal.returns-clause-generator
unfolding outside_form
returns-clause-generator c = refl

pub returns-clause-send : goal.returns-clause-send
unfolding outside_form
returns-clause-send c = refl

pub returns-clause-list_difference : goal.returns-clause-list_difference
unfolding outside_form
returns-clause-list_difference c = refl

pub returns-clause-arrow : goal.returns-clause-arrow
unfolding outside_form
returns-clause-arrow c = refl

pub returns-clause-triple : goal.returns-clause-triple
unfolding outside_form
returns-clause-triple c = refl

pub returns-clause-empty_string : goal.returns-clause-empty_string
unfolding outside_form
returns-clause-empty_string c = refl

pub returns-clause-sigil : goal.returns-clause-sigil
unfolding outside_form
returns-clause-sigil c = refl

pub returns-clause-name : goal.returns-clause-name
unfolding outside_form
returns-clause-name c = refl

pub returns-clause-strict : goal.returns-clause-strict
unfolding outside_form
returns-clause-strict c = refl
