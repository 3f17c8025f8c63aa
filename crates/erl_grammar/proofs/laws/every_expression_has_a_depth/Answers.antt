use Rattle.std.proofs.Common.{arith}
use Rattle.erl_grammar.proofs.DepthLaws.{pattern_bounded, expr_bounded}
use Rattle.erl_grammar.proofs.laws.every_expression_has_a_depth.Goals as goal

pub returns-clause-pattern : goal.returns-clause-pattern
returns-clause-pattern c p h = let b = pattern_bounded h in (b.bound, b.empty b.bound (omega arith))

pub returns-clause-expr : goal.returns-clause-expr
returns-clause-expr c least e h = let b = expr_bounded h in (b.bound, b.empty b.bound (omega arith))
