use Rattle.std.proofs.Common.{◌≡◌, drop}
use Rattle.erl_grammar.specs.Guards.{misfit, first_misfit}
use Rattle.erl_parser_exprs.proofs.guards.+misfits.Given as goal

-- the first misfit of the rest is the first of all
abbrev pub invariant-first_misfit-expressions : goal.invariant-first_misfit-expressions
invariant-first_misfit-expressions l = first_misfit misfit (drop l.expression-index l.expressions) ≡ first_misfit misfit l.fn.expressions
