use Rattle.unique_answers.proofs.Refused.{one-refusal, taken-or-refused}
use Rattle.unique_answers.proofs.definitions.definitions_or_one_fault.Goals as goal

pub returns-clause-one_fault : goal.returns-clause-one_fault
returns-clause-one_fault c = one-refusal

pub returns-clause-never_both : goal.returns-clause-never_both
returns-clause-never_both c = taken-or-refused
