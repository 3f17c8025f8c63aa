use Rattle.erl_tree.proofs.Lexed.{one_lexing}
use Rattle.unique_answers.proofs.LexFaults.{one-fault, lexed-or-fault}
use Rattle.unique_answers.proofs.lexing.tokens_or_one_fault.Goals as goal

pub returns-clause-one_list : goal.returns-clause-one_list
returns-clause-one_list c = one_lexing

pub returns-clause-one_fault : goal.returns-clause-one_fault
returns-clause-one_fault c = one-fault

pub returns-clause-never_both : goal.returns-clause-never_both
returns-clause-never_both c = lexed-or-fault
