use Rattle.typespecs_rules.proofs.ModuleExamples.{faults_of_declarations-unknown_type, faults_of_declarations-no_parameter, faults_of_declarations-variable_in_a_record, faults_of_declarations-no_such_field, faults_of_declarations-type_twice, faults_of_declarations-reserved_name, faults_of_declarations-record_twice, faults_of_declarations-wrong_default, faults_of_declarations-right_default}
use Rattle.typespecs_rules.proofs.examples_of_modules.faults_of_declarations.Goals as goal

pub returns-clause-unknown_type : goal.returns-clause-unknown_type
returns-clause-unknown_type c = faults_of_declarations-unknown_type

pub returns-clause-no_parameter : goal.returns-clause-no_parameter
returns-clause-no_parameter c = faults_of_declarations-no_parameter

pub returns-clause-variable_in_a_record : goal.returns-clause-variable_in_a_record
returns-clause-variable_in_a_record c = faults_of_declarations-variable_in_a_record

pub returns-clause-no_such_field : goal.returns-clause-no_such_field
returns-clause-no_such_field c = faults_of_declarations-no_such_field

pub returns-clause-type_twice : goal.returns-clause-type_twice
returns-clause-type_twice c = faults_of_declarations-type_twice

pub returns-clause-reserved_name : goal.returns-clause-reserved_name
returns-clause-reserved_name c = faults_of_declarations-reserved_name

pub returns-clause-record_twice : goal.returns-clause-record_twice
returns-clause-record_twice c = faults_of_declarations-record_twice

pub returns-clause-wrong_default : goal.returns-clause-wrong_default
returns-clause-wrong_default c = faults_of_declarations-wrong_default

pub returns-clause-right_default : goal.returns-clause-right_default
returns-clause-right_default c = faults_of_declarations-right_default
