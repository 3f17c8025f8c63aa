use Rattle.std.proofs.Common.{◌≡◌, true, take}
use Rattle.std.specs.List.{list_all}
use Rattle.flat_modules.specs.Flat.{is_flat_expr}
use Rattle.flat_modules.proofs.exprs.+exprs.Given as goal

abbrev pub invariant-are_flat_exprs-loop-expr : goal.invariant-are_flat_exprs-loop-expr
invariant-are_flat_exprs-loop-expr l = list_all is_flat_expr (take l.expr-index l.exprs) ≡ true
