use Rattle.erl_parser_exprs.proofs.WholeLaws.{one_expression}
use Rattle.erl_parser_exprs.proofs.laws.one_tree.Goals as goal

pub returns : goal.returns
returns c = record { expr = one_expression }
