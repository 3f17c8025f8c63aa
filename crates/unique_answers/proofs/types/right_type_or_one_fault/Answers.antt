use Rattle.unique_answers.proofs.SpecFaults.{one-fault-alone, right-or-fault}
use Rattle.unique_answers.proofs.types.right_type_or_one_fault.Goals as goal

pub returns-clause-one_fault : goal.returns-clause-one_fault
returns-clause-one_fault c = one-fault-alone

pub returns-clause-never_both : goal.returns-clause-never_both
returns-clause-never_both c = right-or-fault
