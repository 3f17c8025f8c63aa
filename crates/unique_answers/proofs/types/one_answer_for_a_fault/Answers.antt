use Rattle.unique_answers.proofs.SpecFaults.{one-answer}
use Rattle.unique_answers.proofs.types.one_answer_for_a_fault.Goals as goal

pub returns : goal.returns
returns c = one-answer
