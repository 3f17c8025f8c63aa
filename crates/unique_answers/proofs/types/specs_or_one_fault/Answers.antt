use Rattle.unique_answers.proofs.SpecFaults.{one-meaning, one-fault, specs-or-fault}
use Rattle.unique_answers.proofs.types.specs_or_one_fault.Goals as goal

pub returns-clause-one_meaning : goal.returns-clause-one_meaning
returns-clause-one_meaning c = one-meaning

pub returns-clause-one_fault : goal.returns-clause-one_fault
returns-clause-one_fault c = one-fault

pub returns-clause-never_both : goal.returns-clause-never_both
returns-clause-never_both c = specs-or-fault
