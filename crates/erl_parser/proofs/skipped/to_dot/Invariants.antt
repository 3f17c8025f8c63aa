use Rattle.std.proofs.Common.{◌≡◌, ◌≤◌, length}
use Rattle.erl_parser.specs.Forms.{read_to_dot}
use Rattle.erl_parser.proofs.FormLoops.{with_tokens}
use Rattle.erl_parser.proofs.skipped.to_dot.Given as goal

-- going on with the tokens that were read gives what reading gives
abbrev pub invariant-tokens : goal.invariant-tokens
invariant-tokens l = record {
  going : read_to_dot l.tokens ≡ with_tokens l.found l.marks (read_to_dot l.rest);
  shorter : length l.rest ≤ length l.tokens;
}

abbrev pub decreases-tokens : goal.decreases-tokens
decreases-tokens l = length l.rest
