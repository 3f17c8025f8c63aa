use Rattle.erl_tree.proofs.Answered.{each_answered}
use Rattle.erl_tree.proofs.laws_of_text.each_text_has_an_answer.Goals as goal

pub returns : goal.returns
returns c = each_answered
