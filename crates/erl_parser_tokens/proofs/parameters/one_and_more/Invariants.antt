use Rattle.std.proofs.Common.{ℕ, suc, ◌≤◌, length}
use Rattle.erl_parser_tokens.specs.declared.height.Measured.{Measured}
use Rattle.erl_parser_tokens.specs.Tokens.{Reads}
use Rattle.erl_parser_tokens.specs.Parts.{no_parts, read_more_parameters}
use Rattle.erl_parser_tokens.specs.Views.{several}
use Rattle.erl_parser_tokens.specs.Passed.{Follows, StaysIn}
use Rattle.erl_parser_tokens.proofs.ParameterLoops.{GoingParameters}
use Rattle.erl_parser_tokens.proofs.parameters.one_and_more.Given as goal

-- going on with what was read gives what reading gives, for each reader that the function that was passed follows
abbrev pub invariant-parameters : goal.invariant-parameters
invariant-parameters g l = record {
  going : (reads : Reads (Measured g.row.T.Denot)) → Follows (goal.F-post g l.part) reads → GoingParameters reads (several l.parts) l.rest (read_more_parameters reads (suc (length l.tokens)) no_parts l.tokens);
  low : (most : ℕ) → StaysIn (goal.F-post g l.part) most → l.parts.height.depth ≤ most;
  shorter : length l.rest ≤ length l.tokens;
}

abbrev pub decreases-parameters : goal.decreases-parameters
decreases-parameters g l = length l.rest
