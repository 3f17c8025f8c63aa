use Rattle.std.proofs.Common.{sym, ◌∙◌}
use Rattle.unique_answers.proofs.look_ups.one_number_of_a_declaration.Goals as goal

pub returns-clause-types : goal.returns-clause-types
returns-clause-types c = λ d s t h k name count. h.types name count ∙ sym (k.types name count)

pub returns-clause-records : goal.returns-clause-records
returns-clause-records c = λ d s t h k name. h.records name ∙ sym (k.records name)
