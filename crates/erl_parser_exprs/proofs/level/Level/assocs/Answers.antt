use Rattle.std.proofs.Common.{rules}
use Rattle.erl_parser_exprs.specs.Expressions.{read_assoc}
use Rattle.erl_parser_exprs.specs.Levels.{level_at}
use Rattle.erl_parser_exprs.proofs.level.Level.assocs.Goals as goal

pub returns-clause-exact : goal.returns-clause-exact
returns-clause-exact g c = c.closed.ensures.exact (read_assoc (level_at c.args.self.now.limit) c.args.may_be_exact) (λ ts r p. search rules)

pub returns-clause-low : goal.returns-clause-low
returns-clause-low g c = c.closed.ensures.low c.args.self.now.limit (λ ts r p. search rules)
