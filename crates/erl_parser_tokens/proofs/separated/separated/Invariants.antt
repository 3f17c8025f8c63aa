use Rattle.std.proofs.Common.{ℕ, ◌≤◌, length}
use Rattle.erl_parser_tokens.specs.declared.height.Measured.{Measured}
use Rattle.erl_parser_tokens.specs.Tokens.{Reads}
use Rattle.erl_parser_tokens.specs.Parts.{read_parts}
use Rattle.erl_parser_tokens.specs.Views.{several}
use Rattle.erl_parser_tokens.specs.Passed.{Follows, StaysIn}
use Rattle.erl_parser_tokens.proofs.LoopLaws.{Going}
use Rattle.erl_parser_tokens.proofs.separated.separated.Given as goal

-- going on with what was read gives what reading gives, for each reader that the function that was passed follows
abbrev pub invariant-parts : goal.invariant-parts
invariant-parts g l = record {
  going : (reads : Reads (Measured g.row.T.Denot)) → Follows (goal.F-post g l.part) reads → Going l.separator reads (several l.parts) l.rest (read_parts l.separator reads l.tokens);
  low : (most : ℕ) → StaysIn (goal.F-post g l.part) most → l.parts.height.depth ≤ most;
  shorter : length l.rest ≤ length l.tokens;
}

abbrev pub decreases-parts : goal.decreases-parts
decreases-parts g l = length l.rest
