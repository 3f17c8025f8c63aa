use Rattle.std.proofs.Common.{◌-◌, ◌+◌, arith}
use Rattle.std.specs.Prelude.{codes}
use Rattle.std.proofs.lemmas.Result.{err_from_is_err_and}
use Rattle.erl_parser_patterns.specs.Patterns.{pattern_levels, read_pattern, read_entry}
use Rattle.erl_parser_tokens.specs.Parts.{read_field}
use Rattle.erl_parser_tokens.specs.Views.{several}
use Rattle.erl_parser_patterns.proofs.PatternLevels.{no_levels, levels_next}
use Rattle.erl_parser_tokens.proofs.LoopLaws.{gives_by, closing_step, closing_ends, closing_open, closing_fails, cells_too_deep, cells_step, cells_fail, cells_end, cells_tail_fails, cells_tail}
use Rattle.erl_parser_patterns.proofs.PartSteps.{entry_reads, entry_head_fails, entry_value_fails, field_reads, field_head_fails, field_value_fails}
use Rattle.erl_parser_patterns.proofs.patterns.+patterns.Goals as goal

-- ---- cells

pub cells-returns-then-levels-limit-clause-exact : goal.cells-returns-then-levels-limit-clause-exact
cells-returns-then-levels-limit-clause-exact t c =
    let d = c.args.limit - c.cells.levels in
    let h = c.if-levels-limit.true in
    rw c.first_place.ensures (cells_too_deep _ (pattern_levels d) (read_pattern d) c.cells.levels (several c.cells.parts) c.cells.rest.now c.cells.invariant.going c.in-Some.comma c.in-Some.behind.now (no_levels d (omega arith)) c.in-Some.ensures.exact)

pub cells-returns-in_err-element-clause-exact : goal.cells-returns-in_err-element-clause-exact
cells-returns-in_err-element-clause-exact t c =
    let d = c.args.limit - c.cells.levels in
    let e = c.args.limit - (c.cells.levels + 1) in
    let p = err_from_is_err_and c.from_residual-in_err-element.result c.from_residual-in_err-element.ensures.1 in
    rw (p.1, p.2) (cells_fail _ (pattern_levels d) (read_pattern d) c.cells.levels (several c.cells.parts) c.cells.rest.now c.cells.invariant.going c.in_err-element.field-0.0 (read_pattern e) (pattern_levels e) c.in-Some.comma c.in-Some.behind.now (levels_next d e (omega (arith, c.if-levels-limit.false, c.cells.invariant.within))) c.in-Some.ensures.exact c.in_err-element.ensures.exact)

pub cells-cells-preserved : goal.cells-cells-preserved
cells-cells-preserved t c =
    let d = c.args.limit - c.cells.levels in
    let e = c.args.limit - (c.cells.levels + 1) in
    record {
      going = cells_step _ (pattern_levels d) (read_pattern d) c.cells.levels (several c.cells.parts) c.cells.rest.now c.cells.invariant.going (read_pattern e) (pattern_levels e) c.in-Some.comma c.in-Some.behind.now c.in_ok-element.element c.in_ok-element.behind.now (c.cells.levels + 1) (several c.mark-in-Some.new.self) (several c.push_deeper.new.self) (levels_next d e (omega (arith, c.if-levels-limit.false, c.cells.invariant.within))) c.in-Some.ensures.exact c.in_ok-element.ensures.exact (omega arith) c.in_ok-mark.ensures.exact c.in_ok-push_deeper.ensures.exact;
      within = omega (arith, c.if-levels-limit.false, c.cells.invariant.within);
      low = omega (arith, c.in_ok-push_deeper.ensures.depth, c.in_ok-mark.ensures.depth, c.cells.invariant.low, c.in_ok-element.ensures.low, c.if-levels-limit.false, c.cells.invariant.within);
      shorter = omega (arith, c.in_ok-element.ensures.shorter, c.in-Some.ensures.shorter, c.cells.invariant.shorter);
    }

pub cells-returns-in_err-tail-in-Some-mark-clause-exact : goal.cells-returns-in_err-tail-in-Some-mark-clause-exact
cells-returns-in_err-tail-in-Some-mark-clause-exact t c =
    let d = c.args.limit - c.cells.levels in
    let p = err_from_is_err_and c.from_residual-in_err-tail-in-Some-mark.result c.from_residual-in_err-tail-in-Some-mark.ensures.1 in
    rw (p.1, p.2) (cells_tail_fails _ (pattern_levels d) (read_pattern d) c.cells.levels (several c.cells.parts) c.cells.rest.now c.cells.invariant.going c.in_err-tail-in-Some-mark.field-0.0 c.in-Some-mark.bar c.in-Some-mark.behind.now c.in_default.ensures.exact c.in-Some-mark.ensures.exact c.in_err-tail-in-Some-mark.ensures.exact)

pub cells-returns-in-None-clause-exact : goal.cells-returns-in-None-clause-exact
cells-returns-in-None-clause-exact t c =
    let d = c.args.limit - c.cells.levels in
    gives_by _ c.close_cells.result (cells_end _ (pattern_levels d) (read_pattern d) c.cells.levels (several c.cells.parts) c.cells.rest.now c.cells.invariant.going c.in_default.ensures.exact c.in-None.ensures.exact) c.close_cells.ensures.exact

pub cells-returns-in_ok-mark-in-Some-mark-clause-exact : goal.cells-returns-in_ok-mark-in-Some-mark-clause-exact
cells-returns-in_ok-mark-in-Some-mark-clause-exact t c =
    let d = c.args.limit - c.cells.levels in
    gives_by _ c.close_cells-in-Some-mark.result (cells_tail _ (pattern_levels d) (read_pattern d) c.cells.levels (several c.cells.parts) c.cells.rest.now c.cells.invariant.going c.in-Some-mark.bar c.in-Some-mark.behind.now c.in_ok-tail-in-Some-mark.tail c.in_ok-tail-in-Some-mark.behind.now (several c.mark-in-Some-mark.new.self) c.higher-parts.result c.in_default.ensures.exact c.in-Some-mark.ensures.exact c.in_ok-tail-in-Some-mark.ensures.exact c.in_ok-mark-in-Some-mark.ensures.exact (rw c.raised.ensures.exact at c.higher-parts.ensures.exact)) c.close_cells-in-Some-mark.ensures.exact

-- ---- patterns

pub closed_patterns-returns-in_err-part-clause-exact : goal.closed_patterns-returns-in_err-part-clause-exact
closed_patterns-returns-in_err-part-clause-exact t c =
    let p = err_from_is_err_and c.from_residual-in_err-part.result c.from_residual-in_err-part.ensures.1 in
    rw (p.1, p.2) (closing_fails (codes "}") (read_pattern c.args.limit) c.in_err-part.field-0.0 (several c.parts.parts) c.parts.rest.now _ c.parts.invariant.going c.in_err-part.ensures.exact)

pub closed_patterns-returns-in_err-close-in-None-clause-exact : goal.closed_patterns-returns-in_err-close-in-None-clause-exact
closed_patterns-returns-in_err-close-in-None-clause-exact t c =
    let p = err_from_is_err_and c.from_residual-in_err-close-in-None.result c.from_residual-in_err-close-in-None.ensures.1 in
    rw (p.1, p.2) (closing_open (codes "}") (read_pattern c.args.limit) c.in_err-close-in-None.field-0.0 (several c.parts.parts) c.parts.rest.now _ c.in_ok-part.part c.in_ok-part.behind.now c.parts.invariant.going c.in_ok-part.ensures.exact c.in-None.ensures.exact c.in_err-close-in-None.ensures.exact)

pub closed_patterns-returns-in-None-clause-exact : goal.closed_patterns-returns-in-None-clause-exact
closed_patterns-returns-in-None-clause-exact t c =
    closing_ends (codes "}") (read_pattern c.args.limit) (several c.parts.parts) c.parts.rest.now _ (several c.push.new.self) (several c.mark-in-None.new.self) c.in_ok-part.part c.in_ok-part.behind.now c.in_ok-close-in-None.close c.in_ok-close-in-None.behind.now c.parts.invariant.going c.in_ok-part.ensures.exact c.in-None.ensures.exact c.in_ok-close-in-None.ensures.exact c.in_ok-push.ensures.exact c.in_ok-mark-in-None.ensures.exact

pub closed_patterns-parts-preserved : goal.closed_patterns-parts-preserved
closed_patterns-parts-preserved t c = record {
  going = closing_step (codes "}") (read_pattern c.args.limit) (several c.parts.parts) c.parts.rest.now _ (several c.push.new.self) (several c.mark-in-Some-mark.new.self) c.in_ok-part.part c.in_ok-part.behind.now c.in-Some-mark.comma c.in-Some-mark.behind.now c.parts.invariant.going c.in_ok-part.ensures.exact c.in-Some-mark.ensures.exact (omega (arith, c.in_ok-part.ensures.shorter, c.in-Some-mark.ensures.shorter)) c.in_ok-push.ensures.exact c.in_ok-mark-in-Some-mark.ensures.exact;
  low = omega (arith, c.in_ok-push.ensures.depth, c.in_ok-mark-in-Some-mark.ensures.depth, c.parts.invariant.low, c.in_ok-part.ensures.low);
  shorter = omega (arith, c.in_ok-part.ensures.shorter, c.in-Some-mark.ensures.shorter, c.parts.invariant.shorter);
}

-- ---- entries

pub closed_entries-returns-in_err-head-clause-exact : goal.closed_entries-returns-in_err-head-clause-exact
closed_entries-returns-in_err-head-clause-exact t c =
    let p = err_from_is_err_and c.from_residual-in_err-head.result c.from_residual-in_err-head.ensures.1 in
    let f = c.in_err-head.field-0.0 in
    rw (p.1, p.2) (closing_fails (codes "}") (read_entry (read_pattern c.args.limit)) f (several c.parts.parts) c.parts.rest.now _ c.parts.invariant.going (entry_head_fails (read_pattern c.args.limit) c.parts.rest.now f c.in_err-head.ensures.exact))

pub closed_entries-returns-in_err-value-clause-exact : goal.closed_entries-returns-in_err-value-clause-exact
closed_entries-returns-in_err-value-clause-exact t c =
    let p = err_from_is_err_and c.from_residual-in_err-value.result c.from_residual-in_err-value.ensures.1 in
    let f = c.in_err-value.field-0.0 in
    rw (p.1, p.2) (closing_fails (codes "}") (read_entry (read_pattern c.args.limit)) f (several c.parts.parts) c.parts.rest.now _ c.parts.invariant.going (entry_value_fails (read_pattern c.args.limit) c.parts.rest.now f c.in_ok-head.head c.in_ok-head.behind.now c.in_ok-head.ensures.exact c.in_err-value.ensures.exact))

pub closed_entries-returns-in_err-close-in-None-clause-exact : goal.closed_entries-returns-in_err-close-in-None-clause-exact
closed_entries-returns-in_err-close-in-None-clause-exact t c =
    let p = err_from_is_err_and c.from_residual-in_err-close-in-None.result c.from_residual-in_err-close-in-None.ensures.1 in
    rw (p.1, p.2) (closing_open (codes "}") (read_entry (read_pattern c.args.limit)) c.in_err-close-in-None.field-0.0 (several c.parts.parts) c.parts.rest.now _ c.in_ok-entry.field-0 c.in_ok-value.behind.now c.parts.invariant.going (rw c.in_ok-entry.ensures.exact (entry_reads (read_pattern c.args.limit) c.parts.rest.now c.in_ok-head.head c.in_ok-head.behind.now c.in_ok-value.value c.in_ok-value.behind.now c.in_ok-head.ensures.exact c.in_ok-value.ensures.exact)) c.in-None.ensures.exact c.in_err-close-in-None.ensures.exact)

pub closed_entries-returns-in-None-clause-exact : goal.closed_entries-returns-in-None-clause-exact
closed_entries-returns-in-None-clause-exact t c =
    closing_ends (codes "}") (read_entry (read_pattern c.args.limit)) (several c.parts.parts) c.parts.rest.now _ (several c.push.new.self) (several c.mark-in-None.new.self) c.in_ok-entry.field-0 c.in_ok-value.behind.now c.in_ok-close-in-None.close c.in_ok-close-in-None.behind.now c.parts.invariant.going (rw c.in_ok-entry.ensures.exact (entry_reads (read_pattern c.args.limit) c.parts.rest.now c.in_ok-head.head c.in_ok-head.behind.now c.in_ok-value.value c.in_ok-value.behind.now c.in_ok-head.ensures.exact c.in_ok-value.ensures.exact)) c.in-None.ensures.exact c.in_ok-close-in-None.ensures.exact c.in_ok-push.ensures.exact c.in_ok-mark-in-None.ensures.exact

pub closed_entries-parts-preserved : goal.closed_entries-parts-preserved
closed_entries-parts-preserved t c = record {
  going = closing_step (codes "}") (read_entry (read_pattern c.args.limit)) (several c.parts.parts) c.parts.rest.now _ (several c.push.new.self) (several c.mark-in-Some-mark.new.self) c.in_ok-entry.field-0 c.in_ok-value.behind.now c.in-Some-mark.comma c.in-Some-mark.behind.now c.parts.invariant.going (rw c.in_ok-entry.ensures.exact (entry_reads (read_pattern c.args.limit) c.parts.rest.now c.in_ok-head.head c.in_ok-head.behind.now c.in_ok-value.value c.in_ok-value.behind.now c.in_ok-head.ensures.exact c.in_ok-value.ensures.exact)) c.in-Some-mark.ensures.exact (omega (arith, c.in_ok-head.ensures.shorter, c.in_ok-value.ensures.shorter, c.in-Some-mark.ensures.shorter)) c.in_ok-push.ensures.exact c.in_ok-mark-in-Some-mark.ensures.exact;
  low = omega (arith, c.in_ok-push.ensures.depth, c.in_ok-mark-in-Some-mark.ensures.depth, c.parts.invariant.low, c.in_ok-entry.ensures.depth, c.in_ok-value.ensures.low);
  shorter = omega (arith, c.in_ok-head.ensures.shorter, c.in_ok-value.ensures.shorter, c.in-Some-mark.ensures.shorter, c.parts.invariant.shorter);
}

-- ---- fields

pub closed_fields-returns-in_err-head-clause-exact : goal.closed_fields-returns-in_err-head-clause-exact
closed_fields-returns-in_err-head-clause-exact t c =
    let p = err_from_is_err_and c.from_residual-in_err-head.result c.from_residual-in_err-head.ensures.1 in
    let f = c.in_err-head.field-0.0 in
    rw (p.1, p.2) (closing_fails (codes "}") (read_field (read_pattern c.args.limit)) f (several c.parts.parts) c.parts.rest.now _ c.parts.invariant.going (field_head_fails (read_pattern c.args.limit) c.parts.rest.now f c.in_err-head.ensures.exact))

pub closed_fields-returns-in_err-value-clause-exact : goal.closed_fields-returns-in_err-value-clause-exact
closed_fields-returns-in_err-value-clause-exact t c =
    let p = err_from_is_err_and c.from_residual-in_err-value.result c.from_residual-in_err-value.ensures.1 in
    let f = c.in_err-value.field-0.0 in
    rw (p.1, p.2) (closing_fails (codes "}") (read_field (read_pattern c.args.limit)) f (several c.parts.parts) c.parts.rest.now _ c.parts.invariant.going (field_value_fails (read_pattern c.args.limit) c.parts.rest.now f c.in_ok-head.head c.in_ok-head.behind.now c.in_ok-head.ensures.exact c.in_err-value.ensures.exact))

pub closed_fields-returns-in_err-close-in-None-clause-exact : goal.closed_fields-returns-in_err-close-in-None-clause-exact
closed_fields-returns-in_err-close-in-None-clause-exact t c =
    let p = err_from_is_err_and c.from_residual-in_err-close-in-None.result c.from_residual-in_err-close-in-None.ensures.1 in
    rw (p.1, p.2) (closing_open (codes "}") (read_field (read_pattern c.args.limit)) c.in_err-close-in-None.field-0.0 (several c.parts.parts) c.parts.rest.now _ c.in_ok-field.field-0 c.in_ok-value.behind.now c.parts.invariant.going (rw c.in_ok-field.ensures.exact (field_reads (read_pattern c.args.limit) c.parts.rest.now c.in_ok-head.head c.in_ok-head.behind.now c.in_ok-value.value c.in_ok-value.behind.now c.in_ok-head.ensures.exact c.in_ok-value.ensures.exact)) c.in-None.ensures.exact c.in_err-close-in-None.ensures.exact)

pub closed_fields-returns-in-None-clause-exact : goal.closed_fields-returns-in-None-clause-exact
closed_fields-returns-in-None-clause-exact t c =
    closing_ends (codes "}") (read_field (read_pattern c.args.limit)) (several c.parts.parts) c.parts.rest.now _ (several c.push.new.self) (several c.mark-in-None.new.self) c.in_ok-field.field-0 c.in_ok-value.behind.now c.in_ok-close-in-None.close c.in_ok-close-in-None.behind.now c.parts.invariant.going (rw c.in_ok-field.ensures.exact (field_reads (read_pattern c.args.limit) c.parts.rest.now c.in_ok-head.head c.in_ok-head.behind.now c.in_ok-value.value c.in_ok-value.behind.now c.in_ok-head.ensures.exact c.in_ok-value.ensures.exact)) c.in-None.ensures.exact c.in_ok-close-in-None.ensures.exact c.in_ok-push.ensures.exact c.in_ok-mark-in-None.ensures.exact

pub closed_fields-parts-preserved : goal.closed_fields-parts-preserved
closed_fields-parts-preserved t c = record {
  going = closing_step (codes "}") (read_field (read_pattern c.args.limit)) (several c.parts.parts) c.parts.rest.now _ (several c.push.new.self) (several c.mark-in-Some-mark.new.self) c.in_ok-field.field-0 c.in_ok-value.behind.now c.in-Some-mark.comma c.in-Some-mark.behind.now c.parts.invariant.going (rw c.in_ok-field.ensures.exact (field_reads (read_pattern c.args.limit) c.parts.rest.now c.in_ok-head.head c.in_ok-head.behind.now c.in_ok-value.value c.in_ok-value.behind.now c.in_ok-head.ensures.exact c.in_ok-value.ensures.exact)) c.in-Some-mark.ensures.exact (omega (arith, c.in_ok-head.ensures.shorter, c.in_ok-value.ensures.shorter, c.in-Some-mark.ensures.shorter)) c.in_ok-push.ensures.exact c.in_ok-mark-in-Some-mark.ensures.exact;
  low = omega (arith, c.in_ok-push.ensures.depth, c.in_ok-mark-in-Some-mark.ensures.depth, c.parts.invariant.low, c.in_ok-field.ensures.depth, c.in_ok-value.ensures.low);
  shorter = omega (arith, c.in_ok-head.ensures.shorter, c.in_ok-value.ensures.shorter, c.in-Some-mark.ensures.shorter, c.parts.invariant.shorter);
}
