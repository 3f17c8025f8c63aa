use Rattle.std.proofs.Common.{rules}
use Rattle.erl_parser_exprs.specs.Expressions.{read_if_clause}
use Rattle.erl_parser_exprs.specs.Levels.{level_at}
use Rattle.erl_parser_exprs.proofs.level.Level.if_clauses.Goals as goal

pub returns-clause-exact : goal.returns-clause-exact
returns-clause-exact g c = c.separated.ensures.exact (read_if_clause (level_at c.args.self.now.limit)) (λ ts r p. search rules)

pub returns-clause-low : goal.returns-clause-low
returns-clause-low g c = c.separated.ensures.low c.args.self.now.limit (λ ts r p. search rules)
