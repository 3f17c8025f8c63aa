use Rattle.examples_rules.proofs.FirstFaults.{none-first}
use Rattle.examples_rules.proofs.faults.no_first_fault.Goals as goal

pub returns : goal.returns
returns c = none-first
