use Rattle.erl_parser.proofs.TextLaws.{one_module}
use Rattle.erl_parser.proofs.laws.one_module.Goals as goal

pub returns : goal.returns
returns c = one_module
