-- What a pass over a text does: to what is in scope, and to what it has found of the variables so far.
use Rattle.std.specs.Prelude.{List, [], ◌∷◌, ◌++◌, length, Option, Some, None, Bool, true, false}
use Rattle.type_terms.specs.Keys.{Name}
use Rattle.erl_tree.specs.declared.token.Place.{Place}
use Rattle.erl_tree.specs.declared.token.Node.{Node}
use Rattle.erl_tree.specs.declared.pattern.LiteralKind.{LiteralKind}
use Rattle.erl_tree.specs.declared.pattern.PatternKind.{PatternKind}
use Rattle.erl_tree.specs.declared.expr.ExprKind.{ExprKind}
use Rattle.erl_tree.specs.declared.expr.ItemKind.{ItemKind}
use Rattle.erl_tree.specs.declared.expr.QualifierKind.{QualifierKind}
use Rattle.erl_tree.specs.declared.expr.AssocKind.{AssocKind}
use Rattle.erl_tree.specs.declared.expr.CatchKind.{CatchKind}
use Rattle.erl_tree.specs.declared.expr.ClauseKind.{ClauseKind}
use Rattle.erl_tree.specs.declared.form.RecFieldKind.{RecFieldKind}
use Rattle.erl_tree.specs.declared.form.TreeForm.{TreeForm}
use Rattle.erl_scope_rules.specs.declared.role.Role.{Role}
use Rattle.erl_scope_rules.specs.declared.resolved.Resolved.{Resolved}
use Rattle.erl_scope_rules.specs.Occurrences.{Mark, Occurrence, Part, Step, mark_behind, default_part, form_occurrences, optional, variables_of, item_step, qualifier_step, expr_part, field_part, assoc_part, clause_part}
use Rattle.erl_scope_rules.specs.Bindings.{innermost}
use Rattle.erl_scope_rules.specs.ScopeFaults.{stands_among}
use Rattle.erl_scope_rules.specs.Resolution.{resolved_as, all_resolved_in}
use Rattle.erl_scope_stack.specs.State.{nothing, above, below, with_mark, with_body_ended, with_part_aside, with_parts_ended, with_only, with_head_ended}
use Rattle.erl_scope_variables.specs.declared.walk.Walk.{Walk}
use Rattle.erl_scope_variables.specs.declared.walk.Start.{Start}
use Rattle.erl_scope_variables.specs.declared.rows.Row.{Row}
use Rattle.erl_scope_variables.specs.Nodes.{catch_node_part, entry_variables, field_variables}

-- what is known where nothing was read yet
abbrev pub at_first : Walk
at_first = record { scope = nothing; found = [] }

-- items in turn
abbrev pub after_each : {A : Type 0} → (A → Walk → Walk) → List A → Walk → Walk
after_each f [] w = w
after_each f (x ∷ xs) w = after_each f xs (f x w)

-- one, where there is one
abbrev pub after_optional : {A : Type 0} → (A → Walk → Walk) → Option A → Walk → Walk
after_optional f None w = w
after_optional f (Some x) w = f x w

-- ---- what is in scope

-- the place in a text that is come back to
abbrev pub start_of : Walk → Start
start_of w = record { seen = length w.scope.sees; ended = length w.scope.ended; aside = length w.scope.aside }

-- the variables since then aren't seen any more
unfoldable pub unseen_since : Start → Walk → Walk
unseen_since start w = record { scope = record { sees = below start.seen w.scope.sees; ended = w.scope.ended; aside = w.scope.aside }; found = w.found }

-- the head of a comprehension ended
unfoldable pub head_ended_since : Start → Walk → Walk
head_ended_since start w = record { scope = with_head_ended start.seen start.ended w.scope; found = w.found }

unfoldable pub body_ended_since : Start → Walk → Walk
body_ended_since start w = record { scope = with_body_ended start.seen w.scope; found = w.found }

unfoldable pub part_aside_since : Start → Walk → Walk
part_aside_since start w = record { scope = with_part_aside start.seen start.ended w.scope; found = w.found }

unfoldable pub parts_ended_since : Start → Walk → Walk
parts_ended_since start w = record { scope = with_parts_ended start.aside w.scope; found = w.found }

unfoldable pub forgotten_since : Start → Walk → Walk
forgotten_since start w = record { scope = with_only start.seen start.ended start.aside w.scope; found = w.found }

-- ---- parts

-- occurrences, of which nothing is seen behind them
unfoldable pub after_occurrences : List Occurrence → Walk → Walk
after_occurrences occurrences w = record { scope = w.scope; found = w.found ++ all_resolved_in w.scope.sees w.scope.ended occurrences }

-- a part, whose constructs have ended behind it
unfoldable pub after_part : Part → Walk → Walk
after_part p w = record {
  scope = record { sees = w.scope.sees; ended = p.left ++ w.scope.ended; aside = w.scope.aside };
  found = w.found ++ all_resolved_in w.scope.sees w.scope.ended p.occurrences;
}

-- a part that stands beside others: what it leaves is set aside
unfoldable pub after_beside : Part → Walk → Walk
after_beside p w = record {
  scope = record { sees = w.scope.sees; ended = w.scope.ended; aside = p.left ++ w.scope.aside };
  found = w.found ++ all_resolved_in w.scope.sees w.scope.ended p.occurrences;
}

-- an element of a body, or a qualifier
unfoldable pub after_step : Step → Walk → Walk
after_step s w = record {
  scope = record { sees = s.binds ++ w.scope.sees; ended = s.expression.left ++ w.scope.ended; aside = w.scope.aside };
  found = w.found ++ all_resolved_in w.scope.sees w.scope.ended (s.pattern ++ s.expression.occurrences);
}

-- variables that are seen from here on
unfoldable pub after_marks : List Mark → Walk → Walk
after_marks marks w = record { scope = record { sees = marks ++ w.scope.sees; ended = w.scope.ended; aside = w.scope.aside }; found = w.found }

-- ---- rows of patterns

-- what is found of a variable, if it is recorded
abbrev pub recorded : Bool → Resolved → List Resolved
recorded true r = r ∷ []
recorded false r = []

-- how a variable of a row stands
abbrev pub mark_in : Row → Name × Place → Walk → Mark
mark_in row v w = mark_behind row.role (above row.start w.scope.sees) v

-- a variable of a row, which is seen from there on
abbrev pub after_variable : Row → Name × Place → Walk → Walk
after_variable row v w = record {
  scope = with_mark (mark_in row v w) w.scope;
  found = w.found ++ recorded row.records (resolved_as (mark_in row v w) (innermost v.0 w.scope.sees) (stands_among v.0 w.scope.ended));
}

-- the variables of a pattern
unfoldable pub after_row : Row → List (Name × Place) → Walk → Walk
after_row row vs w = after_each (after_variable row) vs w

abbrev pub after_pattern : Row → Node PatternKind → Walk → Walk
after_pattern row p w = after_row row (variables_of p) w

abbrev pub after_entry : Row → Node (Node LiteralKind × Node PatternKind) → Walk → Walk
after_entry row e w = after_row row (entry_variables e) w

abbrev pub after_pattern_field : Row → Node (Name × Node PatternKind) → Walk → Walk
after_pattern_field row f w = after_row row (field_variables f) w

-- a row of patterns that are seen from there on
unfoldable pub after_head : List Occurrence → List Mark → Walk → Walk
after_head occurrences marks w = record {
  scope = record { sees = marks ++ w.scope.sees; ended = w.scope.ended; aside = w.scope.aside };
  found = w.found ++ all_resolved_in w.scope.sees w.scope.ended occurrences;
}

-- ---- nodes

abbrev pub after_expression : Node ExprKind → Walk → Walk
after_expression e w = after_part (expr_part e) w

abbrev pub after_field : Node (Name × Node ExprKind) → Walk → Walk
after_field f w = after_part (field_part f) w

abbrev pub after_association : Node AssocKind → Walk → Walk
after_association a w = after_part (assoc_part a) w

abbrev pub after_tests : List (Node ExprKind) → Walk → Walk
after_tests es w = after_each after_expression es w

abbrev pub after_item : Node ItemKind → Walk → Walk
after_item i w = after_step (item_step i) w

abbrev pub after_qualifier : Node QualifierKind → Walk → Walk
after_qualifier q w = after_step (qualifier_step q) w

abbrev pub after_clause : Role → Node ClauseKind → Walk → Walk
after_clause role c w = after_beside (clause_part role c) w

abbrev pub after_catch : Node CatchKind → Walk → Walk
after_catch c w = after_beside (catch_node_part c) w

-- the variables of a generator's pattern are seen
abbrev pub after_generator : Node QualifierKind → Walk → Walk
after_generator q w = after_marks (qualifier_step q).binds w

-- ---- forms

abbrev pub after_default_expression : Option (Node ExprKind) → Walk → Walk
after_default_expression o w = after_occurrences (optional expr_part o).occurrences w

abbrev pub after_default : Node RecFieldKind → Walk → Walk
after_default f w = after_occurrences (default_part f).occurrences w

abbrev pub after_form : TreeForm → Walk → Walk
after_form form w = after_occurrences (form_occurrences form) w
