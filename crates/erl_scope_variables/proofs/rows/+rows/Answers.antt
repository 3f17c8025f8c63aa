use Rattle.std.proofs.Common.{refl}
use Rattle.erl_scope_variables.proofs.ScopeSteps.{on_ok}
use Rattle.erl_scope_variables.proofs.RowSteps.{wildcard-done, variable-done, paren-done, tuple-done, list-done, cells-done, map-done, record-done, alias-done, plain-done}
use Rattle.erl_scope_variables.proofs.rows.+rows.Goals as goal

pub walk_pattern-returns-then-is_wildcard : goal.walk_pattern-returns-then-is_wildcard
walk_pattern-returns-then-is_wildcard t c = wildcard-done c.args.kind.now c.args.place c.args.row c.args.walk.now c.args.walk.now c.in-Var.name c.in-Var.is c.is_wildcard.result c.is_wildcard.ensures c.if-is_wildcard.true refl

pub walk_pattern-returns-else-is_wildcard : goal.walk_pattern-returns-else-is_wildcard
walk_pattern-returns-else-is_wildcard t c = on_ok (variable-done c.args.kind.now c.args.place c.args.row c.args.walk.now c.meet.new.walk c.in-Var.name c.in-Var.is c.is_wildcard.result c.is_wildcard.ensures c.if-is_wildcard.false) c.meet.result c.meet.ensures

pub walk_pattern-returns-in-Paren : goal.walk_pattern-returns-in-Paren
walk_pattern-returns-in-Paren t c = on_ok (paren-done c.args.kind.now c.args.place c.args.row c.args.walk.now c.walk_pattern.new.walk c.in-Paren.inner c.in-Paren.is c.get.result.now c.get.ensures) c.walk_pattern.result c.walk_pattern.ensures

pub walk_pattern-returns-in-Tuple : goal.walk_pattern-returns-in-Tuple
walk_pattern-returns-in-Tuple t c = on_ok (tuple-done c.args.kind.now c.args.place c.args.row c.args.walk.now c.walk_patterns.new.walk c.in-Tuple.parts c.in-Tuple.is c.as_slice.result.now c.as_slice.ensures) c.walk_patterns.result c.walk_patterns.ensures

pub walk_pattern-returns-in-Map : goal.walk_pattern-returns-in-Map
walk_pattern-returns-in-Map t c = on_ok (map-done c.args.kind.now c.args.place c.args.row c.args.walk.now c.walk_entries.new.walk c.in-Map.entries c.in-Map.is c.as_slice-in-Map.result.now c.as_slice-in-Map.ensures) c.walk_entries.result c.walk_entries.ensures

pub walk_pattern-returns-in-Rec : goal.walk_pattern-returns-in-Rec
walk_pattern-returns-in-Rec t c = on_ok (record-done c.args.kind.now c.args.place c.args.row c.args.walk.now c.walk_fields.new.walk c.in-Rec.name c.in-Rec.tag c.in-Rec.fields c.in-Rec.is c.as_slice-in-Rec.result.now c.as_slice-in-Rec.ensures) c.walk_fields.result c.walk_fields.ensures

pub walk_pattern-returns-in_ok-walk_pattern-in-Alias : goal.walk_pattern-returns-in_ok-walk_pattern-in-Alias
walk_pattern-returns-in_ok-walk_pattern-in-Alias t c =
    on_ok (alias-done c.args.kind.now c.args.place c.args.row c.args.walk.now c.walk_pattern-in-Alias-2.new.walk c.in-Alias.left c.in-Alias.right c.in-Alias.is c.get-in-Alias.result.now c.get-in-Alias.ensures c.walk_pattern-in-Alias.new.walk c.in_ok-walk_pattern-in-Alias.ensures c.get-in-Alias-2.result.now c.get-in-Alias-2.ensures) c.walk_pattern-in-Alias-2.result c.walk_pattern-in-Alias-2.ensures

pub walk_pattern-returns-in_default : goal.walk_pattern-returns-in_default
walk_pattern-returns-in_default t c = plain-done c.args.kind.now c.args.place c.args.row c.args.walk.now c.args.walk.now c.in_default.not-Var c.in_default.not-Paren c.in_default.not-Tuple c.in_default.not-Cells c.in_default.not-Map c.in_default.not-Rec c.in_default.not-Alias refl

pub walk_pattern-returns-in-None : goal.walk_pattern-returns-in-None
walk_pattern-returns-in-None t c = list-done c.args.kind.now c.args.place c.args.row c.args.walk.now c.walk_patterns-in-Cells.new.walk c.in-Cells.parts c.in-Cells.tail c.in-Cells.is c.as_slice-in-Cells.result.now c.as_slice-in-Cells.ensures c.walk_patterns-in-Cells.new.walk c.in_ok-walk_patterns-in-Cells.ensures c.in-None.is refl

pub walk_pattern-returns-in-Some : goal.walk_pattern-returns-in-Some
walk_pattern-returns-in-Some t c = on_ok (cells-done c.args.kind.now c.args.place c.args.row c.args.walk.now c.walk_pattern-in-Some.new.walk c.in-Cells.parts c.in-Cells.tail c.in-Cells.is c.as_slice-in-Cells.result.now c.as_slice-in-Cells.ensures c.walk_patterns-in-Cells.new.walk c.in_ok-walk_patterns-in-Cells.ensures c.in-Some.tail c.in-Some.is c.get-in-Some.result.now c.get-in-Some.ensures) c.walk_pattern-in-Some.result c.walk_pattern-in-Some.ensures
