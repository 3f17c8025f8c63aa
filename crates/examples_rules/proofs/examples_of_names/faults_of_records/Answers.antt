use Rattle.examples_rules.proofs.ScopeExamples.{faults_of_records-new, faults_of_records-read, faults_of_records-changed, faults_of_records-field_read, faults_of_records-field_changed, faults_of_records-patterns}
use Rattle.examples_rules.proofs.examples_of_names.faults_of_records.Goals as goal

pub returns-clause-new : goal.returns-clause-new
returns-clause-new c = faults_of_records-new

pub returns-clause-read : goal.returns-clause-read
returns-clause-read c = faults_of_records-read

pub returns-clause-changed : goal.returns-clause-changed
returns-clause-changed c = faults_of_records-changed

pub returns-clause-field_read : goal.returns-clause-field_read
returns-clause-field_read c = faults_of_records-field_read

pub returns-clause-field_changed : goal.returns-clause-field_changed
returns-clause-field_changed c = faults_of_records-field_changed

pub returns-clause-patterns : goal.returns-clause-patterns
returns-clause-patterns c = faults_of_records-patterns
