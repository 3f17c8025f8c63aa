use Rattle.std.proofs.Common.{◌≡◌, ◌≤◌, ◌-◌, zero, length}
use Rattle.erl_parser_tokens.specs.Parts.{no_parts, with_part, read_cells}
use Rattle.erl_parser_exprs.specs.Expressions.{expr_levels, expr_readers, read_expr}
use Rattle.erl_parser_tokens.specs.Views.{several}
use Rattle.erl_parser_exprs.proofs.level.Level.cells.Given as goal

-- going on with what was read gives what reading gives
abbrev pub invariant-cells : goal.invariant-cells
invariant-cells g l = record {
  going : read_cells (expr_readers (expr_levels l.self.limit)) (read_expr l.self.limit) zero (with_part no_parts l.fn.first) l.tokens ≡ read_cells (expr_readers (expr_levels (l.self.limit - l.levels))) (read_expr (l.self.limit - l.levels)) l.levels (several l.parts) l.rest;
  within : l.levels ≤ l.self.limit;
  low : l.parts.height.depth ≤ l.self.limit;
  shorter : length l.rest ≤ length l.tokens;
}

abbrev pub decreases-cells : goal.decreases-cells
decreases-cells g l = length l.rest
