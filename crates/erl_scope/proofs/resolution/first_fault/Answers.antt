use Rattle.erl_scope.proofs.FirstFaults.{in_two_steps}
use Rattle.erl_scope.proofs.resolution.first_fault.Goals as goal

pub returns : goal.returns
returns c =
    in_two_steps c.args.module.now c.args.found.now c.first_of_variables-of_variables.result c.in_ok-of_names.of_names c.first_of.result c.requires c.first_of_variables-of_variables.ensures c.in_ok-of_names.ensures c.first_of.ensures
