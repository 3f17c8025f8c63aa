use Rattle.examples_runs.proofs.OwnOutcomesRuns.{own_outcomes_39-runs, own_outcomes_41-runs, own_outcomes_42-runs}
use Rattle.examples_runs.proofs.kinds_of_wrong.maps.Goals as goal

pub returns-clause-new_map_with_another_key : goal.returns-clause-new_map_with_another_key
returns-clause-new_map_with_another_key c = own_outcomes_39-runs

pub returns-clause-changed_map_with_another_key : goal.returns-clause-changed_map_with_another_key
returns-clause-changed_map_with_another_key c = own_outcomes_41-runs

pub returns-clause-change_of_no_map : goal.returns-clause-change_of_no_map
returns-clause-change_of_no_map c = own_outcomes_42-runs
