use Rattle.std.proofs.Common.{◌∙◌, [], ap}
use Rattle.std.specs.Prelude.{None, Some}
use Rattle.erl_tree.specs.declared.pattern.PatternKind.TheVariants as Y
use Rattle.name_table.specs.Table.{ids}
use Rattle.erl_scope_rules.specs.ScopeFaults.{pattern_kind_faults, pattern_faults, faults_of_each, declared_faults, fields_faults}
use Rattle.erl_scope_faults.specs.PartFaults.{entry_faults, field_pattern_faults}
use Rattle.erl_scope_faults.proofs.Rows.{noted_next}
use Rattle.erl_scope_faults.proofs.Steps.{noted_same, noted_one, if_same, if_two, if_three, pattern-is}
use Rattle.erl_scope_faults.proofs.patterns.+patterns.Goals as goal

pub check_patterns-loop-pattern-preserved : goal.check_patterns-loop-pattern-preserved
check_patterns-loop-pattern-preserved t c =
    noted_next (pattern_faults (ids c.args.names.now.functions) c.args.names.now.records) c.args.patterns.now c.args.first.now c.loop-pattern.pattern-index c.pattern-item.result c.loop-pattern.first c.check_kind.new.first
    c.loop-pattern-test.true c.pattern-item.is
    (noted_same _ _ _ _ (ap (λ j. pattern_kind_faults (ids c.args.names.now.functions) c.args.names.now.records j c.pattern-item.result.place) c.get.ensures) c.in_ok-check_kind.ensures)
    c.loop-pattern.invariant

pub check_entries-loop-entry-preserved : goal.check_entries-loop-entry-preserved
check_entries-loop-entry-preserved t c =
    noted_next (entry_faults (ids c.args.names.now.functions) c.args.names.now.records) c.args.entries.now c.args.first.now c.loop-entry.entry-index c.entry-item.result c.loop-entry.first c.check_kind.new.first
    c.loop-entry-test.true c.entry-item.is
    (noted_same _ _ _ _ (ap (λ j. pattern_kind_faults (ids c.args.names.now.functions) c.args.names.now.records j c.get.result.now.1.place) c.get-in-loop-entry.ensures ∙ ap (λ e. pattern_faults (ids c.args.names.now.functions) c.args.names.now.records e.1) c.get.ensures) c.in_ok-check_kind.ensures)
    c.loop-entry.invariant

pub check_fields-loop-field-preserved : goal.check_fields-loop-field-preserved
check_fields-loop-field-preserved t c =
    noted_next (field_pattern_faults (ids c.args.names.now.functions) c.args.names.now.records) c.args.fields.now c.args.first.now c.loop-field.field-index c.field-item.result c.loop-field.first c.check_kind.new.first
    c.loop-field-test.true c.field-item.is
    (noted_same _ _ _ _ (ap (λ j. pattern_kind_faults (ids c.args.names.now.functions) c.args.names.now.records j c.get.result.now.1.place) c.get-in-loop-field.ensures ∙ ap (λ e. pattern_faults (ids c.args.names.now.functions) c.args.names.now.records e.1) c.get.ensures) c.in_ok-check_kind.ensures)
    c.loop-field.invariant

pub check_kind-returns-in-Paren : goal.check_kind-returns-in-Paren
check_kind-returns-in-Paren t c =
    if_same c.check_kind.result _ _ _ _
    (ap (λ j. pattern_kind_faults (ids c.args.names.now.functions) c.args.names.now.records j c.in-Paren.inner.place) c.get.ensures
    ∙ pattern-is (ids c.args.names.now.functions) c.args.names.now.records c.args.place c.args.kind.now (Y.Paren c.in-Paren.inner) _ c.in-Paren.is (Y.outs-Paren c.in-Paren.inner))
    c.check_kind.ensures

pub check_kind-returns-in-Tuple : goal.check_kind-returns-in-Tuple
check_kind-returns-in-Tuple t c =
    if_same c.check_patterns.result _ _ _ _
    (ap (faults_of_each (pattern_faults (ids c.args.names.now.functions) c.args.names.now.records)) c.as_slice.ensures
    ∙ pattern-is (ids c.args.names.now.functions) c.args.names.now.records c.args.place c.args.kind.now (Y.Tuple c.in-Tuple.elements) _ c.in-Tuple.is (Y.outs-Tuple c.in-Tuple.elements))
    c.check_patterns.ensures

pub check_kind-returns-in-None : goal.check_kind-returns-in-None
check_kind-returns-in-None t c =
    noted_one c.args.first.now c.check_patterns-in-Cells.new.first _ _ _
    (ap (faults_of_each (pattern_faults (ids c.args.names.now.functions) c.args.names.now.records)) c.as_slice-in-Cells.ensures)
    (pattern-is (ids c.args.names.now.functions) c.args.names.now.records c.args.place c.args.kind.now (Y.Cells c.in-Cells.elements None) _ (c.in-Cells.is ∙ ap (Y.Cells c.in-Cells.elements) c.in-None.is) (Y.outs-Cells c.in-Cells.elements None))
    c.in_ok-check_patterns-in-Cells.ensures

pub check_kind-returns-in-Some : goal.check_kind-returns-in-Some
check_kind-returns-in-Some t c =
    if_two c.check_kind-in-Some.result c.args.first.now c.check_patterns-in-Cells.new.first c.check_kind-in-Some.new.first _ _ _ _ _
    (ap (faults_of_each (pattern_faults (ids c.args.names.now.functions) c.args.names.now.records)) c.as_slice-in-Cells.ensures)
    (ap (λ j. pattern_kind_faults (ids c.args.names.now.functions) c.args.names.now.records j c.in-Some.tail.place) c.get-in-Some.ensures)
    (pattern-is (ids c.args.names.now.functions) c.args.names.now.records c.args.place c.args.kind.now (Y.Cells c.in-Cells.elements (Some c.in-Some.tail)) _ (c.in-Cells.is ∙ ap (Y.Cells c.in-Cells.elements) c.in-Some.is) (Y.outs-Cells c.in-Cells.elements (Some c.in-Some.tail)))
    c.in_ok-check_patterns-in-Cells.ensures c.check_kind-in-Some.ensures

pub check_kind-returns-in-Map : goal.check_kind-returns-in-Map
check_kind-returns-in-Map t c =
    if_same c.check_entries.result _ _ _ _
    ((ap (faults_of_each (entry_faults (ids c.args.names.now.functions) c.args.names.now.records)) c.as_slice-in-Map.ensures)
    ∙ (pattern-is (ids c.args.names.now.functions) c.args.names.now.records c.args.place c.args.kind.now (Y.Map c.in-Map.entries) _ c.in-Map.is (Y.outs-Map c.in-Map.entries)))
    c.check_entries.ensures

pub check_kind-returns-in_ok-note_fields-in-Rec : goal.check_kind-returns-in_ok-note_fields-in-Rec
check_kind-returns-in_ok-note_fields-in-Rec t c =
    if_three c.check_fields.result c.args.first.now c.note_record.new.first c.note_fields.new.first c.check_fields.new.first _ _ _ _ _ _ _
    (ap (λ d. declared_faults d c.args.place) c.find-declaration.ensures)
    (λ j. fields_faults (c.find-declaration.ensures j) [] (c.as_slice-in-Rec.ensures j))
    (ap (faults_of_each (field_pattern_faults (ids c.args.names.now.functions) c.args.names.now.records)) c.as_slice-in-Rec-2.ensures)
    (pattern-is (ids c.args.names.now.functions) c.args.names.now.records c.args.place c.args.kind.now (Y.Rec c.in-Rec.name c.in-Rec.tag c.in-Rec.fields) _ c.in-Rec.is (Y.outs-Rec c.in-Rec.name c.in-Rec.tag c.in-Rec.fields))
    c.note_record.ensures c.in_ok-note_fields-in-Rec.ensures c.check_fields.ensures

pub check_kind-returns-in_ok-check_kind-in-Alias : goal.check_kind-returns-in_ok-check_kind-in-Alias
check_kind-returns-in_ok-check_kind-in-Alias t c =
    if_two c.check_kind-in-Alias-2.result c.args.first.now c.check_kind-in-Alias.new.first c.check_kind-in-Alias-2.new.first _ _ _ _ _
    (ap (λ j. pattern_kind_faults (ids c.args.names.now.functions) c.args.names.now.records j c.in-Alias.left.place) c.get-in-Alias.ensures)
    (ap (λ j. pattern_kind_faults (ids c.args.names.now.functions) c.args.names.now.records j c.in-Alias.right.place) c.get-in-Alias-2.ensures)
    (pattern-is (ids c.args.names.now.functions) c.args.names.now.records c.args.place c.args.kind.now (Y.Alias c.in-Alias.left c.in-Alias.right) _ c.in-Alias.is (Y.outs-Alias c.in-Alias.left c.in-Alias.right))
    c.in_ok-check_kind-in-Alias.ensures c.check_kind-in-Alias-2.ensures
