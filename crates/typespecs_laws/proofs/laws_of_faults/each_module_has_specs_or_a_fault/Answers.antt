use Rattle.typespecs_laws.proofs.SpecsOrFault.{specs_or_fault}
use Rattle.typespecs_laws.proofs.laws_of_faults.each_module_has_specs_or_a_fault.Goals as goal

pub returns : goal.returns
returns c = specs_or_fault
