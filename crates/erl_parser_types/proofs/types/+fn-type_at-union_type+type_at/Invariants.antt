use Rattle.std.proofs.Common.{◌+◌, ◌*◌}
use Rattle.erl_parser_types.proofs.types.+fn-type_at-union_type+type_at.Given as goal

abbrev pub decreases-type_at : goal.decreases-type_at
decreases-type_at l = 2 * l.limit

-- what is inside is nested at most `levels` deep
abbrev pub decreases-union_type : goal.decreases-union_type
decreases-union_type l = 2 * l.levels + 1
