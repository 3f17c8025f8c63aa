use Rattle.std.proofs.Common.{◌+◌, ◌*◌}
use Rattle.erl_scope_variables.specs.Walks.{after_expression, after_field, after_association, after_item, after_qualifier, after_clause, after_catch, after_tests}
use Rattle.erl_scope_variables.proofs.WalkLaws.{IsLeft}
use Rattle.erl_scope_variables.proofs.expressions.+walk.Given as goal

abbrev pub invariant-visit_all-loop-expr : goal.invariant-visit_all-loop-expr
invariant-visit_all-loop-expr l = IsLeft after_expression l.exprs l.expr-index l.walk l.initial.walk

abbrev pub invariant-visit_fields-loop-field : goal.invariant-visit_fields-loop-field
invariant-visit_fields-loop-field l = IsLeft after_field l.fields l.field-index l.walk l.initial.walk

abbrev pub invariant-visit_assocs-loop-assoc : goal.invariant-visit_assocs-loop-assoc
invariant-visit_assocs-loop-assoc l = IsLeft after_association l.assocs l.assoc-index l.walk l.initial.walk

abbrev pub invariant-visit_items-loop-item : goal.invariant-visit_items-loop-item
invariant-visit_items-loop-item l = IsLeft after_item l.items l.item-index l.walk l.initial.walk

abbrev pub invariant-visit_qualifiers-loop-qualifier : goal.invariant-visit_qualifiers-loop-qualifier
invariant-visit_qualifiers-loop-qualifier l = IsLeft after_qualifier l.qualifiers l.qualifier-index l.walk l.initial.walk

abbrev pub invariant-visit_clauses-loop-clause : goal.invariant-visit_clauses-loop-clause
invariant-visit_clauses-loop-clause l = IsLeft (after_clause l.role) l.clauses l.clause-index l.walk l.initial.walk

abbrev pub invariant-visit_catches-loop-caught : goal.invariant-visit_catches-loop-caught
invariant-visit_catches-loop-caught l = IsLeft after_catch l.catches l.caught-index l.walk l.initial.walk

abbrev pub invariant-visit_tests-loop-alternative : goal.invariant-visit_tests-loop-alternative
invariant-visit_tests-loop-alternative l = IsLeft after_tests l.tests l.alternative-index l.walk l.initial.walk

-- ---- measures: the size, with the caller above what it calls with the same size

abbrev pub decreases-visit : goal.decreases-visit
decreases-visit l = 4 * goal.size-visit l + 2

abbrev pub decreases-visit_after : goal.decreases-visit_after
decreases-visit_after l = 4 * goal.size-visit_after l + 2

abbrev pub decreases-visit_all : goal.decreases-visit_all
decreases-visit_all l = 4 * goal.size-visit_all l + 3

abbrev pub decreases-visit_assocs : goal.decreases-visit_assocs
decreases-visit_assocs l = 4 * goal.size-visit_assocs l + 3

abbrev pub decreases-visit_catches : goal.decreases-visit_catches
decreases-visit_catches l = 4 * goal.size-visit_catches l + 3

abbrev pub decreases-visit_clause : goal.decreases-visit_clause
decreases-visit_clause l = 4 * goal.size-visit_clause l + 2

abbrev pub decreases-visit_clauses : goal.decreases-visit_clauses
decreases-visit_clauses l = 4 * goal.size-visit_clauses l + 3

abbrev pub decreases-visit_construct : goal.decreases-visit_construct
decreases-visit_construct l = 4 * goal.size-visit_construct l + 1

abbrev pub decreases-visit_fields : goal.decreases-visit_fields
decreases-visit_fields l = 4 * goal.size-visit_fields l + 3

abbrev pub decreases-visit_guard : goal.decreases-visit_guard
decreases-visit_guard l = 4 * goal.size-visit_guard l + 1

abbrev pub decreases-visit_item : goal.decreases-visit_item
decreases-visit_item l = 4 * goal.size-visit_item l + 0

abbrev pub decreases-visit_items : goal.decreases-visit_items
decreases-visit_items l = 4 * goal.size-visit_items l + 1

abbrev pub decreases-visit_long_construct : goal.decreases-visit_long_construct
decreases-visit_long_construct l = 4 * goal.size-visit_long_construct l + 0

abbrev pub decreases-visit_qualifier : goal.decreases-visit_qualifier
decreases-visit_qualifier l = 4 * goal.size-visit_qualifier l + 0

abbrev pub decreases-visit_qualifiers : goal.decreases-visit_qualifiers
decreases-visit_qualifiers l = 4 * goal.size-visit_qualifiers l + 1

abbrev pub decreases-visit_tests : goal.decreases-visit_tests
decreases-visit_tests l = 4 * goal.size-visit_tests l + 4
