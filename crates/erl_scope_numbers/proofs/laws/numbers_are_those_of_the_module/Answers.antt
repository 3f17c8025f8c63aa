use Rattle.erl_scope_numbers.proofs.OfModules.{number_in_resolved-variable_number}
use Rattle.erl_scope_numbers.proofs.laws.numbers_are_those_of_the_module.Goals as goal

pub returns : goal.returns
returns c = number_in_resolved-variable_number
