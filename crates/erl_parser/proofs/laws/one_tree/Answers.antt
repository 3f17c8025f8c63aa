use Rattle.erl_parser.proofs.WholeModules.{one_module}
use Rattle.erl_parser.proofs.laws.one_tree.Goals as goal

pub returns : goal.returns
returns c = record { modules = one_module }
