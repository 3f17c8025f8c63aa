-- What each node of a tree is: of a pattern its variables, of an expression or a clause its part, of an element of a body or a qualifier its step.
use Rattle.std.specs.Prelude.{List, [], ◌∷◌, map, Option, Some, None}
use Rattle.type_terms.specs.Keys.{Name}
use Rattle.erl_tree.specs.declared.token.Place.{Place}
use Rattle.erl_tree.specs.declared.token.Node.{Node}
use Rattle.erl_tree.specs.declared.pattern.LiteralKind.{LiteralKind}
use Rattle.erl_tree.specs.declared.pattern.PatternKind.{PatternKind}
use Rattle.erl_tree.specs.declared.expr.ExprKind.{ExprKind, out-ExprKind}
use Rattle.erl_tree.specs.declared.expr.ExprKind.TheOpen as E
use Rattle.erl_tree.specs.declared.expr.ItemKind.{ItemKind}
use Rattle.erl_tree.specs.declared.expr.QualifierKind.{QualifierKind}
use Rattle.erl_tree.specs.declared.expr.AssocKind.{AssocKind}
use Rattle.erl_tree.specs.declared.expr.CatchKind.{CatchKind}
use Rattle.erl_tree.specs.declared.expr.ClauseKind.{ClauseKind}
use Rattle.erl_scope_rules.specs.declared.role.Role.{Role}
use Rattle.erl_scope_rules.specs.declared.role.Role.TheVariants.{Met, Renewed}
use Rattle.erl_scope_rules.specs.Occurrences.{Part, no_part, in_turn, side_by_side, closed, optional, whole, comprehension, variables_of, Expression, Step, Clause, Body, body, expr_layer, item_layer, qualifier_layer, assoc_layer, clause_layer, catch_layer, expr_kind_part, catch_kind_clause, expr_part, item_step, qualifier_step, clause_part}

-- ---- patterns

-- the variables of the patterns of entries and fields
abbrev pub entry_variables : Node (Node LiteralKind × Node PatternKind) → List (Name × Place)
entry_variables e = variables_of e.kind.1

abbrev pub field_variables : Node (Name × Node PatternKind) → List (Name × Place)
field_variables f = variables_of f.kind.1

abbrev pub optional_variables : Option (Node PatternKind) → List (Name × Place)
optional_variables None = []
optional_variables (Some p) = variables_of p

-- ---- expressions

abbrev pub catch_node_part : Node CatchKind → Part
catch_node_part c = catch_kind_clause c.kind Met []

abbrev pub body_of : List (Node ItemKind) → Body
body_of is = body (map item_step is)

abbrev pub tests_part : List (Node ExprKind) → Part
tests_part es = in_turn (map expr_part es)

abbrev pub guard_tests : Node (List (List (Node ExprKind))) → Part
guard_tests g = in_turn (map tests_part g.kind)

-- a body that stands by itself
abbrev pub ended_body : List (Node ItemKind) → Part
ended_body is = whole (body_of is)

-- a comprehension or a `try`; nothing, if it is another expression
abbrev pub long_construct_at : E.ExprKind-F ExprKind ItemKind QualifierKind AssocKind CatchKind ClauseKind → Part
long_construct_at (E.Comp e qs) = comprehension (expr_part e) (map qualifier_step qs)
long_construct_at (E.Try is cs catches after) = in_turn (ended_body is ∷ side_by_side (side_by_side (map (clause_part Met) cs) ∷ side_by_side (map catch_node_part catches) ∷ optional ended_body after ∷ []) ∷ [])
long_construct_at _ = no_part

-- a construct; nothing, if it is another expression
abbrev pub construct_at : E.ExprKind-F ExprKind ItemKind QualifierKind AssocKind CatchKind ClauseKind → Part
construct_at (E.Begin items) = ended_body items
construct_at (E.Case e cs) = in_turn (expr_part e ∷ side_by_side (map (clause_part Met) cs) ∷ [])
construct_at (E.If cs) = side_by_side (map (clause_part Met) cs)
construct_at (E.Fun cs) = closed (side_by_side (map (clause_part Renewed) cs))
construct_at (E.Comp e qs) = long_construct_at (E.Comp e qs)
construct_at (E.Try is cs catches after) = long_construct_at (E.Try is cs catches after)
construct_at _ = no_part

abbrev pub construct_part : ExprKind → Part
construct_part k = construct_at (out-ExprKind k)

abbrev pub long_construct_part : ExprKind → Part
long_construct_part k = long_construct_at (out-ExprKind k)
