use Rattle.std.proofs.Common.{◌≡◌, ◌∙◌, ◌++◌, refl, ap, sym}
use Rattle.std.specs.Prelude.{None, Some}
use Rattle.erl_tree.specs.declared.expr.ExprKind.{out-ExprKind}
use Rattle.erl_tree.specs.declared.expr.ExprKind.TheVariants as X
use Rattle.erl_tree.specs.declared.expr.ItemKind.TheVariants as I
use Rattle.erl_tree.specs.declared.expr.QualifierKind.TheVariants as Q
use Rattle.erl_tree.specs.declared.expr.AssocKind.{out-AssocKind}
use Rattle.erl_tree.specs.declared.expr.CatchKind.{out-CatchKind}
use Rattle.erl_tree.specs.declared.expr.ClauseKind.{out-ClauseKind}
use Rattle.erl_tree.specs.Functions.{of_function}
use Rattle.name_table.specs.Table.{ids}
use Rattle.erl_scope_rules.specs.ScopeFaults.{expr_kind_faults, pattern_faults, faults_of_each, faults_of_optional, call_faults, get_faults}
use Rattle.erl_scope_rules.specs.Earliest.{earliest}
use Rattle.erl_scope_faults.specs.PartFaults.{arity_faults, record_use_faults, expr_faults, value_faults, assoc_faults, qualifier_faults, item_faults, clause_level_faults, clause_faults, catch_faults, guard_faults, plain_level_faults, construct_level_faults}
use Rattle.erl_scope_faults.proofs.FaultLevels.{expr-out}
use Rattle.erl_scope_faults.proofs.Rows.{noted_next, noted_last}
use Rattle.erl_scope_faults.proofs.Steps.{noted_same, noted_two, noted_three, if_two, if_three, if_four, plain-is, construct-is, item-is, qualifier-is}
use Rattle.erl_scope_faults.proofs.expressions.+expressions.Goals as goal
use Rattle.erl_scope_faults.proofs.expressions.+expressions.Goals.{check_items-in-Value+in_ok-check_kind-in-Value, check_items-in-Match+in_ok-check_pattern-in-Match+in_ok-check_kind-in-Match, check_qualifiers-in-Generator+in_ok-check_pattern-in-Generator+in_ok-check_kind-in-Generator, check_qualifiers-in-Filter+in_ok-check_kind-in-Filter, check_clause-in-None, check_clause-in-Some+else-loop-tests-test}

pub check_kind-returns : goal.check_kind-returns
check_kind-returns t c =
    if_two c.check_construct.result c.args.first.now c.check_plain.new.first c.check_construct.new.first (plain_level_faults (ids c.args.names.now.functions) c.args.names.now.records (out-ExprKind c.args.kind.now) c.args.place) (construct_level_faults (ids c.args.names.now.functions) c.args.names.now.records (out-ExprKind c.args.kind.now) c.args.place) _ _ _ refl refl (sym (expr-out (ids c.args.names.now.functions) c.args.names.now.records c.args.kind.now c.args.place))
    c.in_ok-check_plain.ensures c.check_construct.ensures

pub check_plain-returns-in-Some : goal.check_plain-returns-in-Some
check_plain-returns-in-Some t c =
    if_two c.check_kind-in-Some.result c.args.first.now c.check_exprs-in-Cells.new.first c.check_kind-in-Some.new.first _ _ _ _ _
    (ap (faults_of_each (expr_faults (ids c.args.names.now.functions) c.args.names.now.records)) c.as_slice-in-Cells.ensures)
    (ap (λ j. expr_kind_faults (ids c.args.names.now.functions) c.args.names.now.records j c.in-Some.tail.place) c.get-in-Some.ensures)
    (plain-is (ids c.args.names.now.functions) c.args.names.now.records c.args.place c.args.kind.now (X.Cells c.in-Cells.elements (Some c.in-Some.tail)) _ (c.in-Cells.is ∙ ap (X.Cells c.in-Cells.elements) c.in-Some.is) (X.outs-Cells c.in-Cells.elements (Some c.in-Some.tail)))
    c.in_ok-check_exprs-in-Cells.ensures c.check_kind-in-Some.ensures

pub check_plain-returns-in_ok-check_kind-in-Binary : goal.check_plain-returns-in_ok-check_kind-in-Binary
check_plain-returns-in_ok-check_kind-in-Binary t c =
    if_two c.check_kind-in-Binary-2.result c.args.first.now c.check_kind-in-Binary.new.first c.check_kind-in-Binary-2.new.first _ _ _ _ _
    (ap (λ j. expr_kind_faults (ids c.args.names.now.functions) c.args.names.now.records j c.in-Binary.left.place) c.get-in-Binary.ensures)
    (ap (λ j. expr_kind_faults (ids c.args.names.now.functions) c.args.names.now.records j c.in-Binary.right.place) c.get-in-Binary-2.ensures)
    (plain-is (ids c.args.names.now.functions) c.args.names.now.records c.args.place c.args.kind.now (X.Binary c.in-Binary.field-0 c.in-Binary.left c.in-Binary.right) _ c.in-Binary.is (X.outs-Binary c.in-Binary.field-0 c.in-Binary.left c.in-Binary.right))
    c.in_ok-check_kind-in-Binary.ensures c.check_kind-in-Binary-2.ensures

pub check_plain-returns-in_ok-note_call-in-Call : goal.check_plain-returns-in_ok-note_call-in-Call
check_plain-returns-in_ok-note_call-in-Call t c =
    if_two c.check_exprs-in-Call.result c.args.first.now c.note_call.new.first c.check_exprs-in-Call.new.first _ _ _ _ _
    (ap (λ n. call_faults (ids c.args.names.now.functions) c.args.names.now.records c.in-Call.prefix (of_function c.in-Call.name n) c.args.place) c.len.ensures)
    (ap (faults_of_each (expr_faults (ids c.args.names.now.functions) c.args.names.now.records)) c.as_slice-in-Call.ensures)
    (plain-is (ids c.args.names.now.functions) c.args.names.now.records c.args.place c.args.kind.now (X.Call c.in-Call.prefix c.in-Call.name c.in-Call.args) _ c.in-Call.is (X.outs-Call c.in-Call.prefix c.in-Call.name c.in-Call.args))
    c.in_ok-note_call-in-Call.ensures c.check_exprs-in-Call.ensures

pub check_plain-returns-in_ok-check_kind-in-Apply : goal.check_plain-returns-in_ok-check_kind-in-Apply
check_plain-returns-in_ok-check_kind-in-Apply t c =
    if_two c.check_exprs-in-Apply.result c.args.first.now c.check_kind-in-Apply.new.first c.check_exprs-in-Apply.new.first _ _ _ _ _
    (ap (λ j. expr_kind_faults (ids c.args.names.now.functions) c.args.names.now.records j c.in-Apply.function.place) c.get-in-Apply.ensures)
    (ap (faults_of_each (expr_faults (ids c.args.names.now.functions) c.args.names.now.records)) c.as_slice-in-Apply.ensures)
    (plain-is (ids c.args.names.now.functions) c.args.names.now.records c.args.place c.args.kind.now (X.Apply c.in-Apply.function c.in-Apply.args) _ c.in-Apply.is (X.outs-Apply c.in-Apply.function c.in-Apply.args))
    c.in_ok-check_kind-in-Apply.ensures c.check_exprs-in-Apply.ensures

pub check_plain-returns-in_ok-check_kind-in-MapChange : goal.check_plain-returns-in_ok-check_kind-in-MapChange
check_plain-returns-in_ok-check_kind-in-MapChange t c =
    if_two c.check_assocs-in-MapChange.result c.args.first.now c.check_kind-in-MapChange.new.first c.check_assocs-in-MapChange.new.first _ _ _ _ _
    (ap (λ j. expr_kind_faults (ids c.args.names.now.functions) c.args.names.now.records j c.in-MapChange.of.place) c.get-in-MapChange.ensures)
    (ap (faults_of_each (assoc_faults (ids c.args.names.now.functions) c.args.names.now.records)) c.as_slice-in-MapChange.ensures)
    (plain-is (ids c.args.names.now.functions) c.args.names.now.records c.args.place c.args.kind.now (X.MapChange c.in-MapChange.of c.in-MapChange.assocs) _ c.in-MapChange.is (X.outs-MapChange c.in-MapChange.of c.in-MapChange.assocs))
    c.in_ok-check_kind-in-MapChange.ensures c.check_assocs-in-MapChange.ensures

pub check_construct-returns-in_ok-note_record_use-in-RecNew : goal.check_construct-returns-in_ok-note_record_use-in-RecNew
check_construct-returns-in_ok-note_record_use-in-RecNew t c =
    if_two c.check_values.result c.args.first.now c.note_record_use.new.first c.check_values.new.first _ _ _ _ _
    (ap (λ fs. record_use_faults c.args.names.now.records c.in-RecNew.name fs c.args.place) c.as_slice.ensures)
    (ap (faults_of_each (value_faults (ids c.args.names.now.functions) c.args.names.now.records)) c.as_slice-in-RecNew.ensures)
    (construct-is (ids c.args.names.now.functions) c.args.names.now.records c.args.place c.args.kind.now (X.RecNew c.in-RecNew.name c.in-RecNew.tag c.in-RecNew.fields) _ c.in-RecNew.is (X.outs-RecNew c.in-RecNew.name c.in-RecNew.tag c.in-RecNew.fields))
    c.in_ok-note_record_use-in-RecNew.ensures c.check_values.ensures

pub check_construct-returns-in_ok-note_record_use-in-RecChange : goal.check_construct-returns-in_ok-note_record_use-in-RecChange
check_construct-returns-in_ok-note_record_use-in-RecChange t c =
    if_three c.check_values-in-RecChange.result c.args.first.now c.check_kind.new.first c.note_record_use-in-RecChange.new.first c.check_values-in-RecChange.new.first _ _ _ _ _ _ _
    (ap (λ j. expr_kind_faults (ids c.args.names.now.functions) c.args.names.now.records j c.in-RecChange.of.place) c.get.ensures)
    (ap (λ fs. record_use_faults c.args.names.now.records c.in-RecChange.name fs c.args.place) c.as_slice-in-RecChange.ensures)
    (ap (faults_of_each (value_faults (ids c.args.names.now.functions) c.args.names.now.records)) c.as_slice-in-RecChange-2.ensures)
    (construct-is (ids c.args.names.now.functions) c.args.names.now.records c.args.place c.args.kind.now (X.RecChange c.in-RecChange.of c.in-RecChange.name c.in-RecChange.tag c.in-RecChange.fields) _ c.in-RecChange.is (X.outs-RecChange c.in-RecChange.of c.in-RecChange.name c.in-RecChange.tag c.in-RecChange.fields))
    c.in_ok-check_kind-in-RecChange.ensures c.in_ok-note_record_use-in-RecChange.ensures c.check_values-in-RecChange.ensures

pub check_construct-returns-in_ok-check_kind-in-RecGet : goal.check_construct-returns-in_ok-check_kind-in-RecGet
check_construct-returns-in_ok-check_kind-in-RecGet t c =
    noted_two c.args.first.now c.check_kind-in-RecGet.new.first c.note_get.new.first _ _ _ _ _
    (ap (λ j. expr_kind_faults (ids c.args.names.now.functions) c.args.names.now.records j c.in-RecGet.of.place) c.get-in-RecGet.ensures)
    (ap (λ d. get_faults d c.in-RecGet.field c.args.place) c.find.ensures)
    (construct-is (ids c.args.names.now.functions) c.args.names.now.records c.args.place c.args.kind.now (X.RecGet c.in-RecGet.of c.in-RecGet.name c.in-RecGet.tag c.in-RecGet.field) _ c.in-RecGet.is (X.outs-RecGet c.in-RecGet.of c.in-RecGet.name c.in-RecGet.tag c.in-RecGet.field))
    c.in_ok-check_kind-in-RecGet.ensures c.note_get.ensures

pub check_construct-returns-in_ok-check_kind-in-Comp : goal.check_construct-returns-in_ok-check_kind-in-Comp
check_construct-returns-in_ok-check_kind-in-Comp t c =
    if_two c.check_qualifiers.result c.args.first.now c.check_kind-in-Comp.new.first c.check_qualifiers.new.first _ _ _ _ _
    (ap (λ j. expr_kind_faults (ids c.args.names.now.functions) c.args.names.now.records j c.in-Comp.head.place) c.get-in-Comp.ensures)
    (ap (faults_of_each (qualifier_faults (ids c.args.names.now.functions) c.args.names.now.records)) c.as_slice-in-Comp.ensures)
    (construct-is (ids c.args.names.now.functions) c.args.names.now.records c.args.place c.args.kind.now (X.Comp c.in-Comp.head c.in-Comp.qualifiers) _ c.in-Comp.is (X.outs-Comp c.in-Comp.head c.in-Comp.qualifiers))
    c.in_ok-check_kind-in-Comp.ensures c.check_qualifiers.ensures

pub check_construct-returns-in_ok-check_kind-in-Case : goal.check_construct-returns-in_ok-check_kind-in-Case
check_construct-returns-in_ok-check_kind-in-Case t c =
    if_two c.check_clauses.result c.args.first.now c.check_kind-in-Case.new.first c.check_clauses.new.first _ _ _ _ _
    (ap (λ j. expr_kind_faults (ids c.args.names.now.functions) c.args.names.now.records j c.in-Case.of.place) c.get-in-Case.ensures)
    (ap (faults_of_each (clause_faults (ids c.args.names.now.functions) c.args.names.now.records)) c.as_slice-in-Case.ensures)
    (construct-is (ids c.args.names.now.functions) c.args.names.now.records c.args.place c.args.kind.now (X.Case c.in-Case.of c.in-Case.clauses) _ c.in-Case.is (X.outs-Case c.in-Case.of c.in-Case.clauses))
    c.in_ok-check_kind-in-Case.ensures c.check_clauses.ensures

pub check_construct-returns-in-Fun : goal.check_construct-returns-in-Fun
check_construct-returns-in-Fun t c =
    if_two c.check_clauses-in-Fun.result c.args.first.now c.note_arities.new.first c.check_clauses-in-Fun.new.first _ _ _ _ _
    (ap arity_faults c.as_slice-in-Fun.ensures)
    (ap (faults_of_each (clause_faults (ids c.args.names.now.functions) c.args.names.now.records)) c.as_slice-in-Fun-2.ensures)
    (construct-is (ids c.args.names.now.functions) c.args.names.now.records c.args.place c.args.kind.now (X.Fun c.in-Fun.clauses) _ c.in-Fun.is (X.outs-Fun c.in-Fun.clauses))
    c.note_arities.ensures c.check_clauses-in-Fun.ensures

pub check_construct-returns-in-None : goal.check_construct-returns-in-None
check_construct-returns-in-None t c =
    noted_three c.args.first.now c.check_items-in-Try.new.first c.check_clauses-in-Try.new.first c.check_catches.new.first _ _ _ _ _ _ _
    (ap (faults_of_each (item_faults (ids c.args.names.now.functions) c.args.names.now.records)) c.as_slice-in-Try.ensures)
    (ap (faults_of_each (clause_faults (ids c.args.names.now.functions) c.args.names.now.records)) c.as_slice-in-Try-2.ensures)
    (ap (faults_of_each (catch_faults (ids c.args.names.now.functions) c.args.names.now.records)) c.as_slice-in-Try-3.ensures)
    (construct-is (ids c.args.names.now.functions) c.args.names.now.records c.args.place c.args.kind.now (X.Try c.in-Try.body c.in-Try.of_clauses c.in-Try.catches None) _ (c.in-Try.is ∙ ap (X.Try c.in-Try.body c.in-Try.of_clauses c.in-Try.catches) c.in-None.is) (X.outs-Try c.in-Try.body c.in-Try.of_clauses c.in-Try.catches None))
    c.in_ok-check_items-in-Try.ensures c.in_ok-check_clauses-in-Try.ensures c.in_ok-check_catches-in-Try.ensures

pub check_construct-returns-in-Some : goal.check_construct-returns-in-Some
check_construct-returns-in-Some t c =
    if_four c.check_items-in-Some.result c.args.first.now c.check_items-in-Try.new.first c.check_clauses-in-Try.new.first c.check_catches.new.first c.check_items-in-Some.new.first _ _ _ _ _ _ _ _ _
    (ap (faults_of_each (item_faults (ids c.args.names.now.functions) c.args.names.now.records)) c.as_slice-in-Try.ensures)
    (ap (faults_of_each (clause_faults (ids c.args.names.now.functions) c.args.names.now.records)) c.as_slice-in-Try-2.ensures)
    (ap (faults_of_each (catch_faults (ids c.args.names.now.functions) c.args.names.now.records)) c.as_slice-in-Try-3.ensures)
    (ap (faults_of_each (item_faults (ids c.args.names.now.functions) c.args.names.now.records)) c.as_slice-in-Some.ensures)
    (construct-is (ids c.args.names.now.functions) c.args.names.now.records c.args.place c.args.kind.now (X.Try c.in-Try.body c.in-Try.of_clauses c.in-Try.catches (Some c.in-Some.after)) _ (c.in-Try.is ∙ ap (X.Try c.in-Try.body c.in-Try.of_clauses c.in-Try.catches) c.in-Some.is) (X.outs-Try c.in-Try.body c.in-Try.of_clauses c.in-Try.catches (Some c.in-Some.after)))
    c.in_ok-check_items-in-Try.ensures c.in_ok-check_clauses-in-Try.ensures c.in_ok-check_catches-in-Try.ensures c.check_items-in-Some.ensures

pub check_exprs-loop-expr-preserved : goal.check_exprs-loop-expr-preserved
check_exprs-loop-expr-preserved t c =
    noted_next (expr_faults (ids c.args.names.now.functions) c.args.names.now.records) c.args.exprs.now c.args.first.now c.loop-expr.expr-index c.expr-item.result c.loop-expr.first c.check_kind.new.first
    c.loop-expr-test.true c.expr-item.is
    (noted_same _ _ _ _ (ap (λ j. expr_kind_faults (ids c.args.names.now.functions) c.args.names.now.records j c.expr-item.result.place) c.get.ensures) c.in_ok-check_kind.ensures)
    c.loop-expr.invariant

pub check_values-loop-field-preserved : goal.check_values-loop-field-preserved
check_values-loop-field-preserved t c =
    noted_next (value_faults (ids c.args.names.now.functions) c.args.names.now.records) c.args.fields.now c.args.first.now c.loop-field.field-index c.field-item.result c.loop-field.first c.check_kind.new.first
    c.loop-field-test.true c.field-item.is
    (noted_same _ _ _ _ (ap (λ j. expr_kind_faults (ids c.args.names.now.functions) c.args.names.now.records j c.get.result.now.1.place) c.get-in-loop-field.ensures ∙ ap (λ f. expr_faults (ids c.args.names.now.functions) c.args.names.now.records f.1) c.get.ensures) c.in_ok-check_kind.ensures)
    c.loop-field.invariant

pub check_assocs-loop-assoc-preserved : goal.check_assocs-loop-assoc-preserved
check_assocs-loop-assoc-preserved t c =
    noted_next (assoc_faults (ids c.args.names.now.functions) c.args.names.now.records) c.args.assocs.now c.args.first.now c.loop-assoc.assoc-index c.assoc-item.result c.loop-assoc.first c.check_kind-in-loop-assoc.new.first
    c.loop-assoc-test.true c.assoc-item.is
    (noted_two c.loop-assoc.first c.check_kind.new.first c.check_kind-in-loop-assoc.new.first _ _ _ _ _
    (ap (λ j. expr_kind_faults (ids c.args.names.now.functions) c.args.names.now.records j (out-AssocKind c.get-assoc.result.now).key.place) c.get.ensures)
    (ap (λ j. expr_kind_faults (ids c.args.names.now.functions) c.args.names.now.records j (out-AssocKind c.get-assoc.result.now).value.place) c.get-in-loop-assoc.ensures)
    (ap (λ k. expr_faults (ids c.args.names.now.functions) c.args.names.now.records (out-AssocKind k).key ++ expr_faults (ids c.args.names.now.functions) c.args.names.now.records (out-AssocKind k).value) c.get-assoc.ensures)
    c.in_ok-check_kind.ensures c.in_ok-check_kind-2.ensures)
    c.loop-assoc.invariant

pub check_clauses-loop-clause-preserved : goal.check_clauses-loop-clause-preserved
check_clauses-loop-clause-preserved t c =
    noted_next (clause_faults (ids c.args.names.now.functions) c.args.names.now.records) c.args.clauses.now c.args.first.now c.loop-clause.clause-index c.clause-item.result c.loop-clause.first c.check_clause.new.first
    c.loop-clause-test.true c.clause-item.is
    (noted_same _ _ _ _ (ap (λ k. clause_level_faults (ids c.args.names.now.functions) c.args.names.now.records (out-ClauseKind k)) c.get.ensures) c.in_ok-check_clause.ensures)
    c.loop-clause.invariant

pub check_catches-loop-catch-preserved : goal.check_catches-loop-catch-preserved
check_catches-loop-catch-preserved t c =
    noted_next (catch_faults (ids c.args.names.now.functions) c.args.names.now.records) c.args.catches.now c.args.first.now c.loop-catch.catch-index c.catch-item.result c.loop-catch.first c.check_clause.new.first
    c.loop-catch-test.true c.catch-item.is
    (noted_two c.loop-catch.first c.check_optional.new.first c.check_clause.new.first (faults_of_optional (pattern_faults (ids c.args.names.now.functions) c.args.names.now.records) (out-CatchKind c.get-catch.result.now).class) _ _ _ _ refl
    (ap (λ k. clause_level_faults (ids c.args.names.now.functions) c.args.names.now.records (out-ClauseKind k)) c.get.ensures)
    (ap (λ k. faults_of_optional (pattern_faults (ids c.args.names.now.functions) c.args.names.now.records) (out-CatchKind k).class ++ clause_faults (ids c.args.names.now.functions) c.args.names.now.records (out-CatchKind k).clause) c.get-catch.ensures)
    c.in_ok-check_optional.ensures c.in_ok-check_clause.ensures)
    c.loop-catch.invariant

item-noted : (t : _) (c : goal.check_items-Joined-get t) → c.match-get.first ≡ earliest c.loop-item.first (item_faults (ids c.args.names.now.functions) c.args.names.now.records c.item-item.result)
item-noted t c =
    elim c.match-get.branch [
      | check_items-in-Value+in_ok-check_kind-in-Value w ↦
          w.first-is
          ∙ noted_same _ _ _ _
          ((ap (λ j. expr_kind_faults (ids c.args.names.now.functions) c.args.names.now.records j w.in-Value.value.place) w.get-in-Value.ensures)
          ∙ item-is (ids c.args.names.now.functions) c.args.names.now.records c.item-item.result.kind c.get.result.now (I.Value w.in-Value.value) _ c.get.ensures w.in-Value.is (I.outs-Value w.in-Value.value))
          w.in_ok-check_kind-in-Value.ensures
      | check_items-in-Match+in_ok-check_pattern-in-Match+in_ok-check_kind-in-Match w ↦
          w.first-is
          ∙ noted_two c.loop-item.first w.check_pattern.new.first w.check_kind-in-Match.new.first (pattern_faults (ids c.args.names.now.functions) c.args.names.now.records w.in-Match.pattern) _ _ _ _ refl
          (ap (λ j. expr_kind_faults (ids c.args.names.now.functions) c.args.names.now.records j w.in-Match.value.place) w.get-in-Match.ensures)
          (item-is (ids c.args.names.now.functions) c.args.names.now.records c.item-item.result.kind c.get.result.now (I.Match w.in-Match.pattern w.in-Match.value) _ c.get.ensures w.in-Match.is (I.outs-Match w.in-Match.pattern w.in-Match.value))
          w.in_ok-check_pattern-in-Match.ensures w.in_ok-check_kind-in-Match.ensures
    ]

pub check_items-loop-item-preserved : goal.check_items-loop-item-preserved
check_items-loop-item-preserved t c =
    noted_next (item_faults (ids c.args.names.now.functions) c.args.names.now.records) c.args.items.now c.args.first.now c.loop-item.item-index c.item-item.result c.loop-item.first c.match-get.first
    c.loop-item-test.true c.item-item.is (item-noted t c) c.loop-item.invariant

qualifier-noted : (t : _) (c : goal.check_qualifiers-Joined-get t) → c.match-get.first ≡ earliest c.loop-qualifier.first (qualifier_faults (ids c.args.names.now.functions) c.args.names.now.records c.qualifier-item.result)
qualifier-noted t c =
    elim c.match-get.branch [
      | check_qualifiers-in-Generator+in_ok-check_pattern-in-Generator+in_ok-check_kind-in-Generator w ↦
          w.first-is
          ∙ noted_two c.loop-qualifier.first w.check_pattern.new.first w.check_kind.new.first (pattern_faults (ids c.args.names.now.functions) c.args.names.now.records w.in-Generator.pattern) _ _ _ _ refl
          (ap (λ j. expr_kind_faults (ids c.args.names.now.functions) c.args.names.now.records j w.in-Generator.from.place) w.get-in-Generator.ensures)
          (qualifier-is (ids c.args.names.now.functions) c.args.names.now.records c.qualifier-item.result.kind c.get.result.now (Q.Generator w.in-Generator.pattern w.in-Generator.from) _ c.get.ensures w.in-Generator.is (Q.outs-Generator w.in-Generator.pattern w.in-Generator.from))
          w.in_ok-check_pattern-in-Generator.ensures w.in_ok-check_kind-in-Generator.ensures
      | check_qualifiers-in-Filter+in_ok-check_kind-in-Filter w ↦
          w.first-is
          ∙ noted_same _ _ _ _
          ((ap (λ j. expr_kind_faults (ids c.args.names.now.functions) c.args.names.now.records j w.in-Filter.test.place) w.get-in-Filter.ensures)
          ∙ qualifier-is (ids c.args.names.now.functions) c.args.names.now.records c.qualifier-item.result.kind c.get.result.now (Q.Filter w.in-Filter.test) _ c.get.ensures w.in-Filter.is (Q.outs-Filter w.in-Filter.test))
          w.in_ok-check_kind-in-Filter.ensures
    ]

pub check_qualifiers-loop-qualifier-preserved : goal.check_qualifiers-loop-qualifier-preserved
check_qualifiers-loop-qualifier-preserved t c =
    noted_next (qualifier_faults (ids c.args.names.now.functions) c.args.names.now.records) c.args.qualifiers.now c.args.first.now c.loop-qualifier.qualifier-index c.qualifier-item.result c.loop-qualifier.first c.match-get.first
    c.loop-qualifier-test.true c.qualifier-item.is (qualifier-noted t c) c.loop-qualifier.invariant

pub check_clause-loop-tests-preserved : goal.check_clause-loop-tests-preserved
check_clause-loop-tests-preserved t c =
    noted_next (faults_of_each (expr_faults (ids c.args.names.now.functions) c.args.names.now.records)) c.as_slice-tests-items.result.now c.check_patterns.new.first c.loop-tests.tests-index c.tests-item.result c.loop-tests.first c.check_exprs.new.first
    c.loop-tests-test.true c.tests-item.is
    (noted_same _ _ _ _ (ap (faults_of_each (expr_faults (ids c.args.names.now.functions) c.args.names.now.records)) c.as_slice-in-loop-tests.ensures) c.in_ok-check_exprs-in-Some.ensures)
    c.loop-tests.invariant

guard-noted : (t : _) (c : goal.check_clause-After-check_items t) → c.match-clause.first ≡ earliest c.check_patterns.new.first (faults_of_optional (guard_faults (ids c.args.names.now.functions) c.args.names.now.records) (out-ClauseKind c.args.clause.now).guard)
guard-noted t c =
    elim c.match-clause.branch [
      | check_clause-in-None w ↦ w.first-is ∙ ap (λ g. earliest c.check_patterns.new.first (faults_of_optional (guard_faults (ids c.args.names.now.functions) c.args.names.now.records) g)) (sym w.in-None.is)
      | check_clause-in-Some+else-loop-tests-test w ↦
          w.first-is
          ∙ (noted_last (faults_of_each (expr_faults (ids c.args.names.now.functions) c.args.names.now.records)) w.as_slice-tests-items.result.now c.check_patterns.new.first w.loop-tests.tests-index w.loop-tests.first w.loop-tests-test.false w.loop-tests.invariant
          ∙ (ap (λ gs. earliest c.check_patterns.new.first (faults_of_each (faults_of_each (expr_faults (ids c.args.names.now.functions) c.args.names.now.records)) gs)) (w.as_slice-tests-items.ensures ∙ w.get.ensures)
          ∙ ap (λ g. earliest c.check_patterns.new.first (faults_of_optional (guard_faults (ids c.args.names.now.functions) c.args.names.now.records) g)) (sym w.in-Some.is)))
    ]

pub check_clause-returns : goal.check_clause-returns
check_clause-returns t c =
    if_three c.check_items.result c.args.first.now c.check_patterns.new.first c.match-clause.first c.check_items.new.first _ (faults_of_optional (guard_faults (ids c.args.names.now.functions) c.args.names.now.records) (out-ClauseKind c.args.clause.now).guard) _ _ _ _ _
    (ap (faults_of_each (pattern_faults (ids c.args.names.now.functions) c.args.names.now.records)) c.as_slice.ensures)
    refl
    (ap (faults_of_each (item_faults (ids c.args.names.now.functions) c.args.names.now.records)) c.as_slice-2.ensures)
    refl
    c.in_ok-check_patterns.ensures (guard-noted t c) c.check_items.ensures
