use Rattle.examples_runs.proofs.OwnOutcomesRuns.{own_outcomes_43-runs, own_outcomes_44-runs}
use Rattle.examples_runs.proofs.KindsOfWrongRuns.{field_of_another_record-runs, change_of_no_tuple-runs, absent_record-runs, absent_field_of_a_new_record-runs, absent_field_of_a_changed_record-runs, absent_field-runs}
use Rattle.examples_runs.proofs.kinds_of_wrong.records.Goals as goal

pub returns-clause-field_of_no_tuple : goal.returns-clause-field_of_no_tuple
returns-clause-field_of_no_tuple c = own_outcomes_43-runs

pub returns-clause-field_of_another_record : goal.returns-clause-field_of_another_record
returns-clause-field_of_another_record c = field_of_another_record-runs

pub returns-clause-change_of_no_tuple : goal.returns-clause-change_of_no_tuple
returns-clause-change_of_no_tuple c = change_of_no_tuple-runs

pub returns-clause-change_of_another_size : goal.returns-clause-change_of_another_size
returns-clause-change_of_another_size c = own_outcomes_44-runs

pub returns-clause-absent_record : goal.returns-clause-absent_record
returns-clause-absent_record c = absent_record-runs

pub returns-clause-absent_field_of_a_new_record : goal.returns-clause-absent_field_of_a_new_record
returns-clause-absent_field_of_a_new_record c = absent_field_of_a_new_record-runs

pub returns-clause-absent_field_of_a_changed_record : goal.returns-clause-absent_field_of_a_changed_record
returns-clause-absent_field_of_a_changed_record c = absent_field_of_a_changed_record-runs

pub returns-clause-absent_field : goal.returns-clause-absent_field
returns-clause-absent_field c = absent_field-runs
