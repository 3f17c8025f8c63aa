use Rattle.examples_rules.proofs.FirstFaults.{two-listed, earlier, later, no-fault-of-it}
use Rattle.examples_rules.proofs.faults.the_first_fault.Goals as goal

pub returns-clause-listed : goal.returns-clause-listed
returns-clause-listed c = two-listed

pub returns-clause-earlier : goal.returns-clause-earlier
returns-clause-earlier c = earlier

pub returns-clause-later : goal.returns-clause-later
returns-clause-later c = later

pub returns-clause-no_fault_of_it : goal.returns-clause-no_fault_of_it
returns-clause-no_fault_of_it c = no-fault-of-it
