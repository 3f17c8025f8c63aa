use Rattle.std.proofs.Common.{arith}
use Rattle.erl_parser_exprs.proofs.Waits.{fit_more}
use Rattle.erl_parser_exprs.proofs.operators.Operators.wait_behind.Goals as goal

pub returns-clause-fits : goal.returns-clause-fits
returns-clause-fits c = fit_more _ _ _ _ c.in_ok-push.ensures.ok c.in_ok-operand.ensures.fits (omega (arith, c.if-left-levels.false, c.levels.ensures, c.in_ok-operand.ensures.limit, c.in_ok-operand.ensures.fewer, c.requires.room))
