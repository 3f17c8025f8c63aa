use Rattle.std.proofs.Common.{refl, ◌∙◌}
use Rattle.erl_tree.specs.declared.expr.ClauseKind.{out-ClauseKind}
use Rattle.erl_scope_rules.specs.Occurrences.{class_patterns}
use Rattle.erl_scope_variables.specs.Walks.{after_association, after_catch}
use Rattle.erl_scope_variables.proofs.ScopeSteps.{on_ok}
use Rattle.erl_scope_variables.proofs.WalkLaws.{left-next}
use Rattle.erl_scope_variables.proofs.ExprSteps.{variable-done, paren-done, unary-done, get-done, binary-done, apply-done, map_change-done, record_change-done, tuple-done, call-done, list-done, cells-done, map_new-done, record_new-done, construct-done, begin-built, case-built, if-built, fun-built, try-built, comprehension-built, long-built, nothing-built, value-item, match-item, filter-qualifier, generator-qualifier, association-at, clause-walked, catch-at, after-walked, without-after, with-after, without-guard, with-guard}
use Rattle.erl_scope_variables.proofs.expressions.+walk.Goals as goal

pub visit-returns-in-Var : goal.visit-returns-in-Var
visit-returns-in-Var t c = on_ok (variable-done c.args.kind.now c.args.place c.args.walk.now c.use_variable.new.self c.in-Var.name c.in-Var.is) c.use_variable.result c.use_variable.ensures

pub visit-returns-in-Paren : goal.visit-returns-in-Paren
visit-returns-in-Paren t c = on_ok (paren-done c.args.kind.now c.args.place c.args.walk.now c.visit.new.walk c.in-Paren.inner c.get.result.now c.get.ensures c.in-Paren.is) c.visit.result c.visit.ensures

pub visit-returns-in-Tuple : goal.visit-returns-in-Tuple
visit-returns-in-Tuple t c = on_ok (λ h. tuple-done c.args.kind.now c.args.place c.args.walk.now c.visit_all.new.walk c.in-Tuple.parts c.as_slice.result.now c.as_slice.ensures h c.in-Tuple.is) c.visit_all.result c.visit_all.ensures

pub visit-returns-in-None : goal.visit-returns-in-None
visit-returns-in-None t c = list-done c.args.kind.now c.args.place c.args.walk.now c.visit_all-in-Cells.new.walk c.in-Cells.parts c.in-Cells.tail c.in-Cells.is c.as_slice-in-Cells.result.now c.as_slice-in-Cells.ensures c.visit_all-in-Cells.new.walk c.in_ok-visit_all-in-Cells.ensures c.in-None.is refl

pub visit-returns-in-Some : goal.visit-returns-in-Some
visit-returns-in-Some t c = on_ok (cells-done c.args.kind.now c.args.place c.args.walk.now c.visit-in-Some.new.walk c.in-Cells.parts c.in-Cells.tail c.in-Cells.is c.as_slice-in-Cells.result.now c.as_slice-in-Cells.ensures c.visit_all-in-Cells.new.walk c.in_ok-visit_all-in-Cells.ensures c.in-Some.tail c.in-Some.is c.get-in-Some.result.now c.get-in-Some.ensures) c.visit-in-Some.result c.visit-in-Some.ensures

pub visit-returns-in-Unary : goal.visit-returns-in-Unary
visit-returns-in-Unary t c = on_ok (unary-done c.args.kind.now c.args.place c.args.walk.now c.visit-in-Unary.new.walk c.in-Unary.inner c.get-in-Unary.result.now c.get-in-Unary.ensures c.in-Unary.field-0 c.in-Unary.is) c.visit-in-Unary.result c.visit-in-Unary.ensures

pub visit-returns-in_ok-visit-in-Binary : goal.visit-returns-in_ok-visit-in-Binary
visit-returns-in_ok-visit-in-Binary t c = on_ok (binary-done c.args.kind.now c.args.place c.args.walk.now c.visit-in-Binary-2.new.walk c.in-Binary.left c.get-in-Binary.result.now c.get-in-Binary.ensures c.visit-in-Binary.new.walk c.in_ok-visit-in-Binary.ensures c.in-Binary.field-0 c.in-Binary.right c.in-Binary.is c.get-in-Binary-2.result.now c.get-in-Binary-2.ensures) c.visit-in-Binary-2.result c.visit-in-Binary-2.ensures

pub visit-returns-in-Call : goal.visit-returns-in-Call
visit-returns-in-Call t c = on_ok (λ h. call-done c.args.kind.now c.args.place c.args.walk.now c.visit_all-in-Call.new.walk c.in-Call.args c.as_slice-in-Call.result.now c.as_slice-in-Call.ensures h c.in-Call.prefix c.in-Call.name c.in-Call.is) c.visit_all-in-Call.result c.visit_all-in-Call.ensures

pub visit-returns-in_ok-visit-in-Apply : goal.visit-returns-in_ok-visit-in-Apply
visit-returns-in_ok-visit-in-Apply t c = on_ok (apply-done c.args.kind.now c.args.place c.args.walk.now c.visit_all-in-Apply.new.walk c.in-Apply.called c.get-in-Apply.result.now c.get-in-Apply.ensures c.visit-in-Apply.new.walk c.in_ok-visit-in-Apply.ensures c.in-Apply.args c.in-Apply.is c.as_slice-in-Apply.result.now c.as_slice-in-Apply.ensures) c.visit_all-in-Apply.result c.visit_all-in-Apply.ensures

pub visit-returns-in-MapNew : goal.visit-returns-in-MapNew
visit-returns-in-MapNew t c = on_ok (map_new-done c.args.kind.now c.args.place c.args.walk.now c.visit_assocs.new.walk c.in-MapNew.assocs c.in-MapNew.is c.as_slice-in-MapNew.result.now c.as_slice-in-MapNew.ensures) c.visit_assocs.result c.visit_assocs.ensures

pub visit-returns-in_ok-visit-in-MapChange : goal.visit-returns-in_ok-visit-in-MapChange
visit-returns-in_ok-visit-in-MapChange t c = on_ok (map_change-done c.args.kind.now c.args.place c.args.walk.now c.visit_assocs-in-MapChange.new.walk c.in-MapChange.of c.get-in-MapChange.result.now c.get-in-MapChange.ensures c.visit-in-MapChange.new.walk c.in_ok-visit-in-MapChange.ensures c.in-MapChange.assocs c.in-MapChange.is c.as_slice-in-MapChange.result.now c.as_slice-in-MapChange.ensures) c.visit_assocs-in-MapChange.result c.visit_assocs-in-MapChange.ensures

pub visit-returns-in-RecNew : goal.visit-returns-in-RecNew
visit-returns-in-RecNew t c = on_ok (record_new-done c.args.kind.now c.args.place c.args.walk.now c.visit_fields.new.walk c.in-RecNew.name c.in-RecNew.tag c.in-RecNew.fields c.in-RecNew.is c.as_slice-in-RecNew.result.now c.as_slice-in-RecNew.ensures) c.visit_fields.result c.visit_fields.ensures

pub visit-returns-in_ok-visit-in-RecChange : goal.visit-returns-in_ok-visit-in-RecChange
visit-returns-in_ok-visit-in-RecChange t c = on_ok (record_change-done c.args.kind.now c.args.place c.args.walk.now c.visit_fields-in-RecChange.new.walk c.in-RecChange.of c.get-in-RecChange.result.now c.get-in-RecChange.ensures c.visit-in-RecChange.new.walk c.in_ok-visit-in-RecChange.ensures c.in-RecChange.name c.in-RecChange.tag c.in-RecChange.fields c.in-RecChange.is c.as_slice-in-RecChange.result.now c.as_slice-in-RecChange.ensures) c.visit_fields-in-RecChange.result c.visit_fields-in-RecChange.ensures

pub visit-returns-in-RecGet : goal.visit-returns-in-RecGet
visit-returns-in-RecGet t c = on_ok (get-done c.args.kind.now c.args.place c.args.walk.now c.visit-in-RecGet.new.walk c.in-RecGet.of c.get-in-RecGet.result.now c.get-in-RecGet.ensures c.in-RecGet.name c.in-RecGet.tag c.in-RecGet.field c.in-RecGet.is) c.visit-in-RecGet.result c.visit-in-RecGet.ensures

pub visit-returns-in_default : goal.visit-returns-in_default
visit-returns-in_default t c = on_ok (construct-done c.args.kind.now c.args.place c.args.walk.now c.visit_construct.new.walk c.in_default.not-Var c.in_default.not-Paren c.in_default.not-Tuple c.in_default.not-Cells c.in_default.not-Unary c.in_default.not-Binary c.in_default.not-Call c.in_default.not-Apply c.in_default.not-MapNew c.in_default.not-MapChange c.in_default.not-RecNew c.in_default.not-RecChange c.in_default.not-RecGet) c.visit_construct.result c.visit_construct.ensures

pub visit_construct-returns-in_ok-visit_items-in-Begin : goal.visit_construct-returns-in_ok-visit_items-in-Begin
visit_construct-returns-in_ok-visit_items-in-Begin t c = on_ok (begin-built c.args.kind.now c.args.walk.now c.start-start.result c.start-start.ensures c.in-Begin.items c.in-Begin.is c.as_slice.result.now c.as_slice.ensures c.visit_items.new.walk c.end_body.new.self c.in_ok-visit_items-in-Begin.ensures) c.end_body.result c.end_body.ensures

pub visit_construct-returns-in_ok-visit_clauses-in-Case : goal.visit_construct-returns-in_ok-visit_clauses-in-Case
visit_construct-returns-in_ok-visit_clauses-in-Case t c = on_ok (case-built c.args.kind.now c.args.walk.now c.start-start.result c.start-start.ensures c.in-Case.subject c.in-Case.clauses c.in-Case.is c.get.result.now c.get.ensures c.visit.new.walk c.in_ok-visit-in-Case.ensures c.as_slice-in-Case.result.now c.as_slice-in-Case.ensures c.visit_clauses.new.walk c.end_parts.new.self c.in_ok-visit_clauses-in-Case.ensures) c.end_parts.result c.end_parts.ensures

pub visit_construct-returns-in_ok-visit_clauses-in-If : goal.visit_construct-returns-in_ok-visit_clauses-in-If
visit_construct-returns-in_ok-visit_clauses-in-If t c = on_ok (if-built c.args.kind.now c.args.walk.now c.start-start.result c.start-start.ensures c.in-If.clauses c.in-If.is c.as_slice-in-If.result.now c.as_slice-in-If.ensures c.visit_clauses-in-If.new.walk c.end_parts-in-If.new.self c.in_ok-visit_clauses-in-If.ensures) c.end_parts-in-If.result c.end_parts-in-If.ensures

pub visit_construct-returns-in_ok-visit_clauses-in-Fun : goal.visit_construct-returns-in_ok-visit_clauses-in-Fun
visit_construct-returns-in_ok-visit_clauses-in-Fun t c = fun-built c.args.kind.now c.args.walk.now c.start-start.result c.start-start.ensures c.in-Fun.clauses c.in-Fun.is c.as_slice-in-Fun.result.now c.as_slice-in-Fun.ensures c.visit_clauses-in-Fun.new.walk c.forget.new.self c.in_ok-visit_clauses-in-Fun.ensures c.forget.ensures

pub visit_construct-returns-in_default : goal.visit_construct-returns-in_default
visit_construct-returns-in_default t c = on_ok (long-built c.args.kind.now c.args.walk.now c.start-start.result c.start-start.ensures c.in_default.not-Begin c.in_default.not-Case c.in_default.not-If c.in_default.not-Fun c.visit_long_construct.new.walk) c.visit_long_construct.result c.visit_long_construct.ensures

pub visit_long_construct-returns-in_ok-visit_qualifiers-in-Comp : goal.visit_long_construct-returns-in_ok-visit_qualifiers-in-Comp
visit_long_construct-returns-in_ok-visit_qualifiers-in-Comp t c = comprehension-built c.args.kind.now c.args.walk.now c.start-start.result c.start-start.ensures c.in-Comp.head c.in-Comp.qualifiers c.in-Comp.is c.as_slice.result.now c.as_slice.ensures c.see_generators.new.walk c.in_ok-see_generators-in-Comp.ensures c.get.result.now c.get.ensures c.visit.new.walk c.in_ok-visit-in-Comp.ensures c.end_head.new.self c.in_ok-end_head-in-Comp.ensures c.as_slice-in-Comp.result.now c.as_slice-in-Comp.ensures c.visit_qualifiers.new.walk c.in_ok-visit_qualifiers-in-Comp.ensures c.forget.new.self c.forget.ensures

pub visit_long_construct-returns-in_default : goal.visit_long_construct-returns-in_default
visit_long_construct-returns-in_default t c = nothing-built c.args.kind.now c.args.walk.now c.start-start.result c.start-start.ensures c.in_default.not-Comp c.in_default.not-Try

pub visit_long_construct-returns-in-None : goal.visit_long_construct-returns-in-None
visit_long_construct-returns-in-None t c = on_ok (try-built c.args.kind.now c.args.walk.now c.start-start.result c.start-start.ensures c.in-Try.body c.in-Try.of_clauses c.in-Try.catches c.in-Try.after c.in-Try.is c.as_slice-in-Try.result.now c.as_slice-in-Try.ensures c.visit_items.new.walk c.in_ok-visit_items-in-Try.ensures c.end_body.new.self c.in_ok-end_body-in-Try.ensures c.as_slice-in-Try-2.result.now c.as_slice-in-Try-2.ensures c.visit_clauses.new.walk c.in_ok-visit_clauses-in-Try.ensures c.as_slice-in-Try-3.result.now c.as_slice-in-Try-3.ensures c.visit_catches.new.walk c.in_ok-visit_catches-in-Try.ensures c.visit_catches.new.walk (without-after c.in-Try.after c.in-None.is c.visit_catches.new.walk) c.end_parts.new.self) c.end_parts.result c.end_parts.ensures

pub visit_long_construct-returns-in_ok-visit_after-in-Some : goal.visit_long_construct-returns-in_ok-visit_after-in-Some
visit_long_construct-returns-in_ok-visit_after-in-Some t c = on_ok (try-built c.args.kind.now c.args.walk.now c.start-start.result c.start-start.ensures c.in-Try.body c.in-Try.of_clauses c.in-Try.catches c.in-Try.after c.in-Try.is c.as_slice-in-Try.result.now c.as_slice-in-Try.ensures c.visit_items.new.walk c.in_ok-visit_items-in-Try.ensures c.end_body.new.self c.in_ok-end_body-in-Try.ensures c.as_slice-in-Try-2.result.now c.as_slice-in-Try-2.ensures c.visit_clauses.new.walk c.in_ok-visit_clauses-in-Try.ensures c.as_slice-in-Try-3.result.now c.as_slice-in-Try-3.ensures c.visit_catches.new.walk c.in_ok-visit_catches-in-Try.ensures c.visit_after.new.walk (with-after c.in-Try.after c.in-Some.items c.as_slice-in-Some.result.now c.in-Some.is c.as_slice-in-Some.ensures c.visit_catches.new.walk c.visit_after.new.walk c.in_ok-visit_after-in-Some.ensures) c.end_parts-in-Some.new.self) c.end_parts-in-Some.result c.end_parts-in-Some.ensures

pub visit_clause-returns : goal.visit_clause-returns
visit_clause-returns t c = on_ok (clause-walked c.args.kind.now c.args.role (class_patterns c.args.class.now) c.args.walk.now c.start-start.result c.start-start.ensures c.as_slice.result.now c.as_slice.ensures c.read_head.new.walk c.in_ok-read_head.ensures c.visit_guard.new.walk c.in_ok-visit_guard.ensures c.as_slice-2.result.now c.as_slice-2.ensures c.visit_items.new.walk c.in_ok-visit_items.ensures c.set_aside.new.self) c.set_aside.result c.set_aside.ensures

pub visit_guard-returns-in-None : goal.visit_guard-returns-in-None
visit_guard-returns-in-None t c = without-guard (out-ClauseKind c.args.kind.now).guard c.in-None.is c.args.walk.now

pub visit_guard-returns-in-Some : goal.visit_guard-returns-in-Some
visit_guard-returns-in-Some t c = on_ok (with-guard (out-ClauseKind c.args.kind.now).guard c.in-Some.guard c.in-Some.is c.as_slice.result.now (c.as_slice.ensures ∙ c.get.ensures) c.args.walk.now c.visit_tests.new.walk) c.visit_tests.result c.visit_tests.ensures

pub visit_after-returns : goal.visit_after-returns
visit_after-returns t c = on_ok (after-walked c.args.items.now c.args.items.now refl c.args.walk.now c.start-start.result c.start-start.ensures c.visit_items.new.walk c.set_aside.new.self c.in_ok-visit_items.ensures) c.set_aside.result c.set_aside.ensures

pub visit_item-returns-in-Value : goal.visit_item-returns-in-Value
visit_item-returns-in-Value t c = on_ok (value-item c.args.walk.now c.in-Value.value c.get.result.now c.get.ensures c.args.kind.now c.visit.new.walk c.in-Value.is) c.visit.result c.visit.ensures

pub visit_item-returns-in_ok-visit-in-Match : goal.visit_item-returns-in_ok-visit-in-Match
visit_item-returns-in_ok-visit-in-Match t c = on_ok (match-item c.args.walk.now c.in-Match.value c.get-in-Match.result.now c.get-in-Match.ensures c.args.kind.now c.in-Match.pattern c.in-Match.is c.find_pattern.new.walk c.visit-in-Match.new.walk c.see_pattern.new.walk c.in_ok-find_pattern-in-Match.ensures c.in_ok-visit-in-Match.ensures) c.see_pattern.result c.see_pattern.ensures

pub visit_qualifier-returns-in-Filter : goal.visit_qualifier-returns-in-Filter
visit_qualifier-returns-in-Filter t c = on_ok (filter-qualifier c.args.walk.now c.in-Filter.test c.get.result.now c.get.ensures c.args.kind.now c.visit.new.walk c.in-Filter.is) c.visit.result c.visit.ensures

pub visit_qualifier-returns-in_ok-visit-in-Generator : goal.visit_qualifier-returns-in_ok-visit-in-Generator
visit_qualifier-returns-in_ok-visit-in-Generator t c = on_ok (generator-qualifier c.args.walk.now c.in-Generator.list c.get-in-Generator.result.now c.get-in-Generator.ensures c.args.kind.now c.in-Generator.pattern c.in-Generator.is c.find_pattern.new.walk c.visit-in-Generator.new.walk c.see_pattern.new.walk c.in_ok-find_pattern-in-Generator.ensures c.in_ok-visit-in-Generator.ensures) c.see_pattern.result c.see_pattern.ensures

pub visit_assocs-loop-assoc-preserved : goal.visit_assocs-loop-assoc-preserved
visit_assocs-loop-assoc-preserved t c = left-next after_association c.args.assocs.now c.loop-assoc.assoc-index c.assoc-item.result c.loop-assoc.walk c.visit-in-loop-assoc.new.walk c.args.walk.now c.loop-assoc-test.true c.assoc-item.is
    (association-at c.assoc-item.result.kind c.get-kind.result.now c.get-kind.ensures c.loop-assoc.walk c.get.result.now c.get.ensures c.visit.new.walk c.in_ok-visit.ensures c.get-in-loop-assoc.result.now c.get-in-loop-assoc.ensures c.visit-in-loop-assoc.new.walk c.in_ok-visit-2.ensures) c.loop-assoc.invariant

pub visit_catches-loop-caught-preserved : goal.visit_catches-loop-caught-preserved
visit_catches-loop-caught-preserved t c = left-next after_catch c.args.catches.now c.loop-caught.caught-index c.caught-item.result c.loop-caught.walk c.visit_clause.new.walk c.args.walk.now c.loop-caught-test.true c.caught-item.is
    (catch-at c.caught-item.result.kind c.get-kind.result.now c.get-kind.ensures c.loop-caught.walk c.get.result.now c.get.ensures c.visit_clause.new.walk c.in_ok-visit_clause.ensures) c.loop-caught.invariant
