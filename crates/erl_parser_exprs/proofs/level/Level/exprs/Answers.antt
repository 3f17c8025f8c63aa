use Rattle.std.proofs.Common.{rules}
use Rattle.erl_parser_exprs.specs.Expressions.{read_expr}
use Rattle.erl_parser_exprs.proofs.level.Level.exprs.Goals as goal

pub returns-clause-exact : goal.returns-clause-exact
returns-clause-exact g c = c.closed.ensures.exact (read_expr c.args.self.now.limit) (λ ts r p. search rules)

pub returns-clause-low : goal.returns-clause-low
returns-clause-low g c = c.closed.ensures.low c.args.self.now.limit (λ ts r p. search rules)
