use Rattle.std.proofs.Common.{◌≡◌, ◌<◌, ◌≤◌, ◌+◌, ◌-◌, ◌*◌, length}
use Rattle.std.specs.Prelude.{codes}
use Rattle.erl_parser_tokens.specs.Parts.{read_closed, read_cells, read_field}
use Rattle.erl_parser_patterns.specs.Patterns.{pattern_levels, read_pattern, read_entry}
use Rattle.erl_parser_tokens.specs.Views.{several}
use Rattle.erl_parser_patterns.specs.Views.{read_first_cells}
use Rattle.erl_parser_tokens.proofs.LoopLaws.{Closing}
use Rattle.erl_parser_patterns.proofs.patterns.+patterns.Given as goal

abbrev pub decreases-simple_pattern : goal.decreases-simple_pattern
decreases-simple_pattern l = 5 * l.limit

abbrev pub decreases-pattern_at : goal.decreases-pattern_at
decreases-pattern_at l = 5 * l.limit + 1

abbrev pub decreases-cells : goal.decreases-cells
decreases-cells l = 5 * l.limit + 2

abbrev pub decreases-closed_entries : goal.decreases-closed_entries
decreases-closed_entries l = 5 * l.limit + 2

abbrev pub decreases-closed_fields : goal.decreases-closed_fields
decreases-closed_fields l = 5 * l.limit + 2

abbrev pub decreases-closed_patterns : goal.decreases-closed_patterns
decreases-closed_patterns l = 5 * l.limit + 2

abbrev pub decreases-hash_pattern : goal.decreases-hash_pattern
decreases-hash_pattern l = 5 * l.limit + 3

abbrev pub decreases-marked_pattern : goal.decreases-marked_pattern
decreases-marked_pattern l = 5 * l.limit + 4

-- going on with what was read gives what reading gives
abbrev pub invariant-cells-cells : goal.invariant-cells-cells
invariant-cells-cells l = record {
  going : read_first_cells (pattern_levels l.limit) (read_pattern l.limit) l.tokens ≡ read_cells (pattern_levels (l.limit - l.levels)) (read_pattern (l.limit - l.levels)) l.levels (several l.parts) l.rest;
  within : l.levels ≤ l.limit;
  low : l.parts.height.depth ≤ l.limit;
  shorter : length l.rest < length l.tokens;
}

abbrev pub decreases-cells-cells : goal.decreases-cells-cells
decreases-cells-cells l = length l.rest

abbrev pub invariant-closed_entries-parts : goal.invariant-closed_entries-parts
invariant-closed_entries-parts l = record {
  going : Closing (codes "}") (read_entry (read_pattern l.limit)) (several l.parts) l.rest (read_closed (codes "}") (read_entry (read_pattern l.limit)) l.tokens);
  low : l.parts.height.depth ≤ l.limit;
  shorter : length l.rest ≤ length l.tokens;
}

abbrev pub decreases-closed_entries-parts : goal.decreases-closed_entries-parts
decreases-closed_entries-parts l = length l.rest

abbrev pub invariant-closed_fields-parts : goal.invariant-closed_fields-parts
invariant-closed_fields-parts l = record {
  going : Closing (codes "}") (read_field (read_pattern l.limit)) (several l.parts) l.rest (read_closed (codes "}") (read_field (read_pattern l.limit)) l.tokens);
  low : l.parts.height.depth ≤ l.limit;
  shorter : length l.rest ≤ length l.tokens;
}

abbrev pub decreases-closed_fields-parts : goal.decreases-closed_fields-parts
decreases-closed_fields-parts l = length l.rest

abbrev pub invariant-closed_patterns-parts : goal.invariant-closed_patterns-parts
invariant-closed_patterns-parts l = record {
  going : Closing (codes "}") (read_pattern l.limit) (several l.parts) l.rest (read_closed (codes "}") (read_pattern l.limit) l.tokens);
  low : l.parts.height.depth ≤ l.limit;
  shorter : length l.rest ≤ length l.tokens;
}

abbrev pub decreases-closed_patterns-parts : goal.decreases-closed_patterns-parts
decreases-closed_patterns-parts l = length l.rest
