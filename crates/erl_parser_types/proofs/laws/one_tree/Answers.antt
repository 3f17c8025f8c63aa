use Rattle.erl_parser_types.proofs.WholeTypes.{one_type, one_parameter}
use Rattle.erl_parser_types.proofs.laws.one_tree.Goals as goal

pub returns : goal.returns
returns c = record { types = one_type; parameters = one_parameter }
