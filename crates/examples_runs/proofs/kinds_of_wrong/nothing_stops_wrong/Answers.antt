use Rattle.examples_runs.proofs.OwnOutcomesRuns.{own_outcomes_25-runs, own_outcomes_26-runs}
use Rattle.examples_runs.proofs.KindsOfWrongRuns.{after_behind_wrong-runs, wrong_after_part-runs, part_behind_wrong-runs}
use Rattle.examples_runs.proofs.kinds_of_wrong.nothing_stops_wrong.Goals as goal

pub returns-clause-catch_of_wrong : goal.returns-clause-catch_of_wrong
returns-clause-catch_of_wrong c = own_outcomes_25-runs

pub returns-clause-catch_and_after_of_wrong : goal.returns-clause-catch_and_after_of_wrong
returns-clause-catch_and_after_of_wrong c = own_outcomes_26-runs

pub returns-clause-after_behind_wrong : goal.returns-clause-after_behind_wrong
returns-clause-after_behind_wrong c = after_behind_wrong-runs

pub returns-clause-wrong_after_part : goal.returns-clause-wrong_after_part
returns-clause-wrong_after_part c = wrong_after_part-runs

pub returns-clause-part_behind_wrong : goal.returns-clause-part_behind_wrong
returns-clause-part_behind_wrong c = part_behind_wrong-runs
