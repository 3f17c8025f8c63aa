use Rattle.std.proofs.Common.{ℕ, ◌-◌, ◌+◌, List, arith}
use Rattle.std.proofs.lemmas.Result.{err_from_is_err_and}
use Rattle.erl_parser_tokens.specs.declared.height.Measured.{Measured}
use Rattle.erl_parser_tokens.specs.Tokens.{Reads}
use Rattle.erl_parser_exprs.specs.Operations.{Expr}
use Rattle.erl_parser_exprs.specs.Expressions.{expr_levels, expr_readers, read_expr}
use Rattle.erl_parser_tokens.specs.Views.{several}
use Rattle.erl_parser_exprs.proofs.ExprLevels.{no_readers, readers_next}
use Rattle.erl_parser_tokens.proofs.LoopLaws.{gives_by, cells_too_deep, cells_step, cells_fail, cells_end, cells_tail_fails, cells_tail}
use Rattle.erl_parser_exprs.proofs.level.Level.cells.Goals as goal

abbrev readers : ℕ → List (Reads (Measured Expr))
readers d = expr_readers (expr_levels d)

pub returns-then-levels-self-clause-exact : goal.returns-then-levels-self-clause-exact
returns-then-levels-self-clause-exact g c =
    let d = c.args.self.now.limit - c.cells.levels in
    let h = c.if-levels-self.true in
    rw c.first_place.ensures (cells_too_deep _ (readers d) (read_expr d) c.cells.levels (several c.cells.parts) c.cells.rest.now c.cells.invariant.going c.in-Some.comma c.in-Some.behind.now (no_readers d (omega arith)) c.in-Some.ensures.exact)

pub returns-in_err-element-clause-exact : goal.returns-in_err-element-clause-exact
returns-in_err-element-clause-exact g c =
    let d = c.args.self.now.limit - c.cells.levels in
    let e = c.args.self.now.limit - (c.cells.levels + 1) in
    let p = err_from_is_err_and c.from_residual-in_err-element.result c.from_residual-in_err-element.ensures.1 in
    rw (p.1, p.2) (cells_fail _ (readers d) (read_expr d) c.cells.levels (several c.cells.parts) c.cells.rest.now c.cells.invariant.going c.in_err-element.field-0.0 (read_expr e) (readers e) c.in-Some.comma c.in-Some.behind.now (readers_next d e (omega (arith, c.if-levels-self.false, c.cells.invariant.within))) c.in-Some.ensures.exact c.in_err-element.ensures.exact)

pub cells-preserved : goal.cells-preserved
cells-preserved g c =
    let d = c.args.self.now.limit - c.cells.levels in
    let e = c.args.self.now.limit - (c.cells.levels + 1) in
    record {
      going = cells_step _ (readers d) (read_expr d) c.cells.levels (several c.cells.parts) c.cells.rest.now c.cells.invariant.going (read_expr e) (readers e) c.in-Some.comma c.in-Some.behind.now c.in_ok-element.element c.in_ok-element.behind.now (c.cells.levels + 1) (several c.mark-in-Some.new.self) (several c.push_deeper.new.self) (readers_next d e (omega (arith, c.if-levels-self.false, c.cells.invariant.within))) c.in-Some.ensures.exact c.in_ok-element.ensures.exact (omega arith) c.in_ok-mark.ensures.exact c.in_ok-push_deeper.ensures.exact;
      within = omega (arith, c.if-levels-self.false, c.cells.invariant.within);
      low = omega (arith, c.in_ok-push_deeper.ensures.depth, c.in_ok-mark.ensures.depth, c.cells.invariant.low, c.in_ok-element.ensures.low, c.if-levels-self.false, c.cells.invariant.within);
      shorter = omega (arith, c.in_ok-element.ensures.shorter, c.in-Some.ensures.shorter, c.cells.invariant.shorter);
    }

pub returns-in_err-tail-in-Some-mark-clause-exact : goal.returns-in_err-tail-in-Some-mark-clause-exact
returns-in_err-tail-in-Some-mark-clause-exact g c =
    let d = c.args.self.now.limit - c.cells.levels in
    let p = err_from_is_err_and c.from_residual-in_err-tail-in-Some-mark.result c.from_residual-in_err-tail-in-Some-mark.ensures.1 in
    rw (p.1, p.2) (cells_tail_fails _ (readers d) (read_expr d) c.cells.levels (several c.cells.parts) c.cells.rest.now c.cells.invariant.going c.in_err-tail-in-Some-mark.field-0.0 c.in-Some-mark.bar c.in-Some-mark.behind.now c.in_default.ensures.exact c.in-Some-mark.ensures.exact c.in_err-tail-in-Some-mark.ensures.exact)

pub returns-in-None-clause-exact : goal.returns-in-None-clause-exact
returns-in-None-clause-exact g c =
    let d = c.args.self.now.limit - c.cells.levels in
    gives_by _ c.close_cells.result (cells_end _ (readers d) (read_expr d) c.cells.levels (several c.cells.parts) c.cells.rest.now c.cells.invariant.going c.in_default.ensures.exact c.in-None.ensures.exact) c.close_cells.ensures.exact

pub returns-in_ok-mark-in-Some-mark-clause-exact : goal.returns-in_ok-mark-in-Some-mark-clause-exact
returns-in_ok-mark-in-Some-mark-clause-exact g c =
    let d = c.args.self.now.limit - c.cells.levels in
    gives_by _ c.close_cells-in-Some-mark.result (cells_tail _ (readers d) (read_expr d) c.cells.levels (several c.cells.parts) c.cells.rest.now c.cells.invariant.going c.in-Some-mark.bar c.in-Some-mark.behind.now c.in_ok-tail-in-Some-mark.tail c.in_ok-tail-in-Some-mark.behind.now (several c.mark-in-Some-mark.new.self) c.higher-parts.result c.in_default.ensures.exact c.in-Some-mark.ensures.exact c.in_ok-tail-in-Some-mark.ensures.exact c.in_ok-mark-in-Some-mark.ensures.exact (rw c.raised.ensures.exact at c.higher-parts.ensures.exact)) c.close_cells-in-Some-mark.ensures.exact
