use Rattle.typespecs_rules.proofs.ModuleExamples.{declarations-no_parameters, declarations-one_parameter, declarations-two_parameters, declarations-record_number, declarations-definitions, declarations-records, declarations-right, declarations-parameter_twice, declarations-no_fault}
use Rattle.typespecs_rules.proofs.examples_of_modules.declarations.Goals as goal

pub returns-clause-no_parameters : goal.returns-clause-no_parameters
returns-clause-no_parameters c = declarations-no_parameters

pub returns-clause-one_parameter : goal.returns-clause-one_parameter
returns-clause-one_parameter c = declarations-one_parameter

pub returns-clause-two_parameters : goal.returns-clause-two_parameters
returns-clause-two_parameters c = declarations-two_parameters

pub returns-clause-record_number : goal.returns-clause-record_number
returns-clause-record_number c = declarations-record_number

pub returns-clause-definitions : goal.returns-clause-definitions
returns-clause-definitions c = declarations-definitions

pub returns-clause-records : goal.returns-clause-records
returns-clause-records c = declarations-records

pub returns-clause-right : goal.returns-clause-right
returns-clause-right c = declarations-right

pub returns-clause-parameter_twice : goal.returns-clause-parameter_twice
returns-clause-parameter_twice c = declarations-parameter_twice

pub returns-clause-no_fault : goal.returns-clause-no_fault
returns-clause-no_fault c = declarations-no_fault
