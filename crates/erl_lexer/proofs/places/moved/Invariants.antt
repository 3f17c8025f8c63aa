use Rattle.std.proofs.Common.{◌≡◌, ◌≤◌, ◌+◌, drop}
use Rattle.erl_lexer.specs.Scan.{bytes_after}
use Rattle.erl_lexer.proofs.places.moved.Given as goal

abbrev pub invariant-loop-c : goal.invariant-loop-c
invariant-loop-c l = record {
  rest : bytes_after l.place (drop l.c-index l.text) ≡ bytes_after l.fn.place l.text;
  line : l.place.line ≤ l.fn.place.line + l.c-index;
  column : l.place.column ≤ l.fn.place.column + l.c-index;
}
