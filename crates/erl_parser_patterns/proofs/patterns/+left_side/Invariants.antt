use Rattle.erl_parser_patterns.proofs.patterns.+left_side.Given as goal

abbrev pub decreases-left_side : goal.decreases-left_side
decreases-left_side l = l.limit
