use Rattle.std.proofs.Common.{rules}
use Rattle.erl_parser_patterns.specs.Patterns.{read_pattern}
use Rattle.erl_parser_exprs.proofs.level.Level.parameters.Goals as goal

pub returns-clause-exact : goal.returns-clause-exact
returns-clause-exact g c = c.parameters.ensures.exact (read_pattern c.args.self.now.limit) (λ ts r p. search rules)

pub returns-clause-low : goal.returns-clause-low
returns-clause-low g c = c.parameters.ensures.low c.args.self.now.limit (λ ts r p. search rules)
