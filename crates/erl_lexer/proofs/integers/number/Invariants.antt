use Rattle.std.proofs.Common.{◌≡◌, ◌≤◌, drop}
use Rattle.erl_tree.specs.Lexis.{number}
use Rattle.erl_tree.specs.Limits.{integer_limit}
use Rattle.erl_lexer.proofs.integers.number.Given as goal

abbrev pub invariant-loop-c : goal.invariant-loop-c
invariant-loop-c l = (number l.base l.number (drop l.c-index l.digits) ≡ number l.base 0 l.digits) × (l.number ≤ integer_limit)
