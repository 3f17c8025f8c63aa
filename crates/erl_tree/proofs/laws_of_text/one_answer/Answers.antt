use Rattle.erl_tree.proofs.Lexed.{one_lexing, lexed_without_fault, one_fault}
use Rattle.erl_tree.proofs.laws_of_text.one_answer.Goals as goal

pub returns-clause-one_list : goal.returns-clause-one_list
returns-clause-one_list c = one_lexing

pub returns-clause-list_or_fault : goal.returns-clause-list_or_fault
returns-clause-list_or_fault c = lexed_without_fault

pub returns-clause-one_fault : goal.returns-clause-one_fault
returns-clause-one_fault c = one_fault
