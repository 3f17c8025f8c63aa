use Rattle.examples_runs.proofs.MapsMadeRuns.{maps_made_3-runs, maps_made_7-runs, maps_made_9-runs}
use Rattle.examples_runs.proofs.RecordsMadeRuns.{records_made_1-runs, records_made_2-runs, records_made_7-runs, records_made_10-runs}
use Rattle.examples_runs.proofs.constructs_that_return.maps_and_records.Goals as goal

pub returns-clause-a_new_map : goal.returns-clause-a_new_map
returns-clause-a_new_map c = maps_made_3-runs

pub returns-clause-an_added_entry : goal.returns-clause-an_added_entry
returns-clause-an_added_entry c = maps_made_7-runs

pub returns-clause-a_replaced_entry : goal.returns-clause-a_replaced_entry
returns-clause-a_replaced_entry c = maps_made_9-runs

pub returns-clause-a_new_record : goal.returns-clause-a_new_record
returns-clause-a_new_record c = records_made_2-runs

pub returns-clause-a_new_record_without_fields : goal.returns-clause-a_new_record_without_fields
returns-clause-a_new_record_without_fields c = records_made_1-runs

pub returns-clause-a_changed_record : goal.returns-clause-a_changed_record
returns-clause-a_changed_record c = records_made_10-runs

pub returns-clause-a_field : goal.returns-clause-a_field
returns-clause-a_field c = records_made_7-runs
