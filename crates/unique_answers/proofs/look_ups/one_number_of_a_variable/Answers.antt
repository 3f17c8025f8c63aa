use Rattle.std.proofs.Common.{sym, ◌∙◌}
use Rattle.unique_answers.proofs.look_ups.one_number_of_a_variable.Goals as goal

pub returns-clause-numbers : goal.returns-clause-numbers
returns-clause-numbers c = λ found s t h k place. h.0 place ∙ sym (k.0 place)

pub returns-clause-places : goal.returns-clause-places
returns-clause-places c = λ found s t h k number. h.1 number ∙ sym (k.1 number)
