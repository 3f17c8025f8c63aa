use Rattle.examples_rules.proofs.SingleTypes.{key-twice-listed, earlier, later, first-at-one-place, second-at-one-place}
use Rattle.examples_rules.proofs.single_types.first_of_two_faults.Goals as goal

pub returns-clause-listed : goal.returns-clause-listed
returns-clause-listed c = key-twice-listed

pub returns-clause-earlier : goal.returns-clause-earlier
returns-clause-earlier c = earlier

pub returns-clause-later : goal.returns-clause-later
returns-clause-later c = later

pub returns-clause-first_at_one_place : goal.returns-clause-first_at_one_place
returns-clause-first_at_one_place c = first-at-one-place

pub returns-clause-second_at_one_place : goal.returns-clause-second_at_one_place
returns-clause-second_at_one_place c = second-at-one-place
