use Rattle.std.proofs.Common.{arith}
use Rattle.erl_grammar.proofs.TypeDepthLaws.{type_bounded, parameter_bounded}
use Rattle.erl_grammar.proofs.laws_of_types.every_type_has_a_depth.Goals as goal

pub returns-clause-type_expression : goal.returns-clause-type_expression
returns-clause-type_expression c t h = let b = type_bounded h in (b.bound, b.empty b.bound (omega arith))

pub returns-clause-parameter : goal.returns-clause-parameter
returns-clause-parameter c t h = let b = parameter_bounded h in (b.bound, b.empty b.bound (omega arith))
