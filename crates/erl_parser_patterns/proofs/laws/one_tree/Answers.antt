use Rattle.erl_parser_patterns.proofs.WholePatterns.{one_pattern}
use Rattle.erl_parser_patterns.proofs.laws.one_tree.Goals as goal

pub returns : goal.returns
returns c = record { pattern = one_pattern }
