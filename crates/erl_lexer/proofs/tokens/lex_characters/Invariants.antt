use Rattle.std.proofs.Common.{◌≤◌, ◌+◌, length}
use Rattle.erl_lexer.proofs.Loop.{IsSoFar}
use Rattle.erl_lexer.proofs.tokens.lex_characters.Given as goal

abbrev pub invariant-more : goal.invariant-more
invariant-more l = record {
  so_far : IsSoFar l.bytes l.tokens l.place l.rest;
  line : l.place.line + length l.rest ≤ length l.bytes + 1;
  column : l.place.column + length l.rest ≤ length l.bytes + 1;
}

abbrev pub decreases-more : goal.decreases-more
decreases-more l = length l.rest
