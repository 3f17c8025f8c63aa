use Rattle.name_table.specs.Table.{ids}
use Rattle.erl_scope_faults.specs.PartFaults.{expr_faults, value_faults, assoc_faults, qualifier_faults, item_faults, clause_faults, catch_faults}
use Rattle.erl_scope_rules.specs.ScopeFaults.{faults_of_each}
use Rattle.erl_scope_faults.proofs.Rows.{IsNotedTo}
use Rattle.erl_scope_faults.proofs.expressions.+expressions.Given as goal

abbrev pub invariant-check_exprs-loop-expr : goal.invariant-check_exprs-loop-expr
invariant-check_exprs-loop-expr l = IsNotedTo (expr_faults (ids l.names.functions) l.names.records) l.exprs l.initial.first l.expr-index l.first

abbrev pub invariant-check_values-loop-field : goal.invariant-check_values-loop-field
invariant-check_values-loop-field l = IsNotedTo (value_faults (ids l.names.functions) l.names.records) l.fields l.initial.first l.field-index l.first

abbrev pub invariant-check_assocs-loop-assoc : goal.invariant-check_assocs-loop-assoc
invariant-check_assocs-loop-assoc l = IsNotedTo (assoc_faults (ids l.names.functions) l.names.records) l.assocs l.initial.first l.assoc-index l.first

abbrev pub invariant-check_qualifiers-loop-qualifier : goal.invariant-check_qualifiers-loop-qualifier
invariant-check_qualifiers-loop-qualifier l = IsNotedTo (qualifier_faults (ids l.names.functions) l.names.records) l.qualifiers l.initial.first l.qualifier-index l.first

abbrev pub invariant-check_items-loop-item : goal.invariant-check_items-loop-item
invariant-check_items-loop-item l = IsNotedTo (item_faults (ids l.names.functions) l.names.records) l.items l.initial.first l.item-index l.first

abbrev pub invariant-check_clauses-loop-clause : goal.invariant-check_clauses-loop-clause
invariant-check_clauses-loop-clause l = IsNotedTo (clause_faults (ids l.names.functions) l.names.records) l.clauses l.initial.first l.clause-index l.first

abbrev pub invariant-check_catches-loop-catch : goal.invariant-check_catches-loop-catch
invariant-check_catches-loop-catch l = IsNotedTo (catch_faults (ids l.names.functions) l.names.records) l.catches l.initial.first l.catch-index l.first

abbrev pub invariant-check_clause-loop-tests : goal.invariant-check_clause-loop-tests
invariant-check_clause-loop-tests l = IsNotedTo (faults_of_each (expr_faults (ids l.names.functions) l.names.records)) l.tests-items l.initial.first l.tests-index l.first
