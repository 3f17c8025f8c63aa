use Rattle.erl_runs.proofs.OrderChains.{value-less}
use Rattle.erl_runs.proofs.laws_of_runs.the_order_is_transitive.Goals as goal

pub returns : goal.returns
returns c = value-less
