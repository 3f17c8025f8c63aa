use Rattle.typespecs_rules.proofs.TypeExamples.{types_by_their_form-wildcard, types_by_their_form-atom, types_by_their_form-negative, types_by_their_form-character, types_by_their_form-range, types_by_their_form-empty_range, types_by_their_form-nil, types_by_their_form-list, types_by_their_form-nonempty_list, types_by_their_form-tuple, types_by_their_form-any_fun, types_by_their_form-fun_type, types_by_their_form-unions, types_by_their_form-intersection, types_by_their_form-negation}
use Rattle.typespecs_rules.proofs.examples.types_by_their_form.Goals as goal

pub returns-clause-wildcard : goal.returns-clause-wildcard
returns-clause-wildcard c = types_by_their_form-wildcard

pub returns-clause-atom : goal.returns-clause-atom
returns-clause-atom c = types_by_their_form-atom

pub returns-clause-negative : goal.returns-clause-negative
returns-clause-negative c = types_by_their_form-negative

pub returns-clause-character : goal.returns-clause-character
returns-clause-character c = types_by_their_form-character

pub returns-clause-range : goal.returns-clause-range
returns-clause-range c = types_by_their_form-range

pub returns-clause-empty_range : goal.returns-clause-empty_range
returns-clause-empty_range c = types_by_their_form-empty_range

pub returns-clause-nil : goal.returns-clause-nil
returns-clause-nil c = types_by_their_form-nil

pub returns-clause-list : goal.returns-clause-list
returns-clause-list c = types_by_their_form-list

pub returns-clause-nonempty_list : goal.returns-clause-nonempty_list
returns-clause-nonempty_list c = types_by_their_form-nonempty_list

pub returns-clause-tuple : goal.returns-clause-tuple
returns-clause-tuple c = types_by_their_form-tuple

pub returns-clause-any_fun : goal.returns-clause-any_fun
returns-clause-any_fun c = types_by_their_form-any_fun

pub returns-clause-fun_type : goal.returns-clause-fun_type
returns-clause-fun_type c = types_by_their_form-fun_type

pub returns-clause-unions : goal.returns-clause-unions
returns-clause-unions c = types_by_their_form-unions

pub returns-clause-intersection : goal.returns-clause-intersection
returns-clause-intersection c = types_by_their_form-intersection

pub returns-clause-negation : goal.returns-clause-negation
returns-clause-negation c = types_by_their_form-negation
