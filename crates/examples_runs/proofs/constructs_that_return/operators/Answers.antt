use Rattle.examples_runs.proofs.ArithmeticRuns.{arithmetic_1-runs, arithmetic_2-runs, arithmetic_3-runs, arithmetic_4-runs, arithmetic_5-runs, arithmetic_11-runs, arithmetic_17-runs}
use Rattle.examples_runs.proofs.BooleansRuns.{booleans_1-runs, booleans_3-runs, booleans_6-runs, booleans_7-runs, booleans_14-runs, booleans_16-runs}
use Rattle.examples_runs.proofs.ComparisonsRuns.{comparisons_1-runs, comparisons_5-runs, comparisons_6-runs, comparisons_7-runs, comparisons_8-runs, comparisons_9-runs, comparisons_10-runs, comparisons_11-runs}
use Rattle.examples_runs.proofs.AppendingRuns.{appending_1-runs}
use Rattle.examples_runs.proofs.constructs_that_return.operators.Goals as goal

pub returns-clause-plus : goal.returns-clause-plus
returns-clause-plus c = arithmetic_4-runs

pub returns-clause-minus : goal.returns-clause-minus
returns-clause-minus c = arithmetic_5-runs

pub returns-clause-negation : goal.returns-clause-negation
returns-clause-negation c = booleans_7-runs

pub returns-clause-a_sum : goal.returns-clause-a_sum
returns-clause-a_sum c = arithmetic_1-runs

pub returns-clause-a_difference : goal.returns-clause-a_difference
returns-clause-a_difference c = arithmetic_2-runs

pub returns-clause-a_product : goal.returns-clause-a_product
returns-clause-a_product c = arithmetic_3-runs

pub returns-clause-a_quotient : goal.returns-clause-a_quotient
returns-clause-a_quotient c = arithmetic_11-runs

pub returns-clause-a_remainder : goal.returns-clause-a_remainder
returns-clause-a_remainder c = arithmetic_17-runs

pub returns-clause-equals : goal.returns-clause-equals
returns-clause-equals c = comparisons_8-runs

pub returns-clause-differs : goal.returns-clause-differs
returns-clause-differs c = comparisons_10-runs

pub returns-clause-equals_exactly : goal.returns-clause-equals_exactly
returns-clause-equals_exactly c = comparisons_9-runs

pub returns-clause-differs_exactly : goal.returns-clause-differs_exactly
returns-clause-differs_exactly c = comparisons_11-runs

pub returns-clause-is_less : goal.returns-clause-is_less
returns-clause-is_less c = comparisons_1-runs

pub returns-clause-is_greater : goal.returns-clause-is_greater
returns-clause-is_greater c = comparisons_7-runs

pub returns-clause-is_at_most : goal.returns-clause-is_at_most
returns-clause-is_at_most c = comparisons_5-runs

pub returns-clause-is_at_least : goal.returns-clause-is_at_least
returns-clause-is_at_least c = comparisons_6-runs

pub returns-clause-conjunction : goal.returns-clause-conjunction
returns-clause-conjunction c = booleans_1-runs

pub returns-clause-disjunction : goal.returns-clause-disjunction
returns-clause-disjunction c = booleans_3-runs

pub returns-clause-exclusive_disjunction : goal.returns-clause-exclusive_disjunction
returns-clause-exclusive_disjunction c = booleans_6-runs

pub returns-clause-lazy_conjunction : goal.returns-clause-lazy_conjunction
returns-clause-lazy_conjunction c = booleans_14-runs

pub returns-clause-lazy_disjunction : goal.returns-clause-lazy_disjunction
returns-clause-lazy_disjunction c = booleans_16-runs

pub returns-clause-lists_together : goal.returns-clause-lists_together
returns-clause-lists_together c = appending_1-runs
