use Rattle.std.proofs.Common.{sym, ◌∙◌}
use Rattle.erl_parser_patterns.proofs.PatternLevels.{left_goes_on}
use Rattle.erl_parser_patterns.proofs.patterns.+left_side.Goals as goal

pub returns-clause-exact : goal.returns-clause-exact
returns-clause-exact t c =
    let first = c.in_ok-left in
    let equals = c.in_ok-equals in
    let right = c.in_ok-right in
    rw c.in_ok-alias.ensures.exact (left_goes_on c.args.limit c.args.tokens.now first.left first.rest.now equals.equals equals.behind.now right.right right.last right.behind.now c.if-limit-eq0.false first.ensures.exact c.in_default.ensures.exact equals.ensures.exact (sym c.leads_to.ensures.exact ∙ c.if-not-leads_to.false) c.if-left-below.false right.ensures.exact)
