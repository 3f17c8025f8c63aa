-- The parts of trees at one level: by the view of a kind that a `match` has, and of each node the part of its kind.
use Rattle.std.proofs.Common.{◌≡◌, refl, ap, ◌∙◌, List, [], ◌∷◌, ◌++◌, map}
use Rattle.std.specs.Prelude.{Option, Some, None, if◌then◌else◌}
use Rattle.type_terms.specs.Keys.{Name}
use Rattle.erl_tree.specs.declared.token.Place.{Place}
use Rattle.erl_tree.specs.declared.token.Node.{Node}
use Rattle.erl_tree.specs.declared.pattern.LiteralKind.{LiteralKind}
use Rattle.erl_tree.specs.declared.pattern.PatternKind.{PatternKind, out-PatternKind, map-PatternKind, fold_out-PatternKind}
use Rattle.erl_tree.specs.declared.pattern.PatternKind.TheOpen as P
use Rattle.erl_tree.specs.declared.pattern.PatternKind.TheShapes as R
use Rattle.erl_tree.specs.declared.expr.ExprKind.{ExprKind, out-ExprKind, map-ExprKind, fold_out-ExprKind}
use Rattle.erl_tree.specs.declared.expr.ExprKind.TheOpen as E
use Rattle.erl_tree.specs.declared.expr.ExprKind.TheShapes as S
use Rattle.erl_tree.specs.declared.expr.ItemKind.{ItemKind, out-ItemKind, map-ItemKind, fold_out-ItemKind}
use Rattle.erl_tree.specs.declared.expr.QualifierKind.{QualifierKind, out-QualifierKind, map-QualifierKind, fold_out-QualifierKind}
use Rattle.erl_tree.specs.declared.expr.AssocKind.{AssocKind, out-AssocKind, fold_out-AssocKind}
use Rattle.erl_tree.specs.declared.expr.CatchKind.{CatchKind, out-CatchKind, fold_out-CatchKind}
use Rattle.erl_tree.specs.declared.expr.ClauseKind.{ClauseKind, out-ClauseKind, map-ClauseKind, fold_out-ClauseKind}
use Rattle.erl_runs.specs.Names.{is_wildcard}
use Rattle.erl_scope_rules.specs.declared.role.Role.{Role}
use Rattle.erl_scope_rules.specs.declared.role.Role.TheVariants.{Met, Renewed}
use Rattle.erl_scope_rules.specs.Occurrences.{Part, no_part, in_turn, side_by_side, closed, optional, Variables, variables_of_each, variables_of_node, variables_of_optional, variables_layer, pattern_kind_variables, variables_of, row_variables, row, row_marks, Expression, part, parts, Step, steps, Clause, body, whole, comprehension, use_at, field_parts, assoc_parts, expr_layer, item_layer, qualifier_layer, assoc_layer, guard_part, clause_from, clause_layer, class_patterns, catch_layer, expr_kind_part, clause_kind_part, item_kind_step, qualifier_kind_step, assoc_kind_part, catch_kind_clause, item_step, qualifier_step, expr_part, field_part, assoc_part, clause_part}
use Rattle.erl_scope_variables.specs.Nodes.{entry_variables, field_variables, optional_variables, catch_node_part, body_of, tests_part, guard_tests}

-- ---- patterns

-- the variables of a pattern, by those of its parts
abbrev pub variables_at : P.PatternKind-F PatternKind → Variables
variables_at (P.Var x) place = if is_wildcard x then [] else (x, place) ∷ []
variables_at (P.Paren p) place = variables_of p
variables_at (P.Tuple ps) place = row_variables ps
variables_at (P.Cells ps tail) place = row_variables ps ++ optional_variables tail
variables_at (P.Map entries) place = variables_of_each entry_variables entries
variables_at (P.Rec name tag fields) place = variables_of_each field_variables fields
variables_at (P.Alias p q) place = variables_of p ++ variables_of q
variables_at _ place = []

patterns-are : (ps : List (Node PatternKind)) → variables_of_each variables_of_node (R.former-PatternKind-Tuple-0.map PatternKind Variables pattern_kind_variables ps) ≡ row_variables ps
patterns-are [] = refl
patterns-are (p ∷ ps) = ap (λ vs. variables_of p ++ vs) (patterns-are ps)

tail-is : (o : Option (Node PatternKind)) → variables_of_optional (R.former-PatternKind-Cells-1.map PatternKind Variables pattern_kind_variables o) ≡ optional_variables o
tail-is None = refl
tail-is (Some p) = refl

entries-are : (es : List (Node (Node LiteralKind × Node PatternKind))) → variables_of_each (λ e. variables_of_node e.kind.1) (R.former-PatternKind-Map-0.map PatternKind Variables pattern_kind_variables es) ≡ variables_of_each entry_variables es
entries-are [] = refl
entries-are (e ∷ es) = ap (λ vs. entry_variables e ++ vs) (entries-are es)

fields-are : (fs : List (Node (Name × Node PatternKind))) → variables_of_each (λ f. variables_of_node f.kind.1) (R.former-PatternKind-Rec-2.map PatternKind Variables pattern_kind_variables fs) ≡ variables_of_each field_variables fs
fields-are [] = refl
fields-are (f ∷ fs) = ap (λ vs. field_variables f ++ vs) (fields-are fs)

variables-same : (o : P.PatternKind-F PatternKind) (place : Place) → variables_layer (map-PatternKind PatternKind Variables pattern_kind_variables o) place ≡ variables_at o place
variables-same (P.Tuple ps) place = patterns-are ps
variables-same (P.Cells ps tail) place = λ j. patterns-are ps j ++ tail-is tail j
variables-same (P.Map entries) place = entries-are entries
variables-same (P.Rec name tag fields) place = fields-are fields
variables-same _ place = refl

pub variables-out : (k : PatternKind) (place : Place) → pattern_kind_variables k place ≡ variables_at (out-PatternKind k) place
unfolding pattern_kind_variables
variables-out k place = ap (λ (f : Variables). f place) (fold_out-PatternKind Variables variables_layer k) ∙ variables-same (out-PatternKind k) place

-- ---- one level

abbrev pub ExprLevel : Type 0
ExprLevel = E.ExprKind-F ExprKind ItemKind QualifierKind AssocKind CatchKind ClauseKind

abbrev pub ItemLevel : Type 0
ItemLevel = E.ItemKind-F ExprKind ItemKind QualifierKind AssocKind CatchKind ClauseKind

abbrev pub QualifierLevel : Type 0
QualifierLevel = E.QualifierKind-F ExprKind ItemKind QualifierKind AssocKind CatchKind ClauseKind

abbrev pub AssocLevel : Type 0
AssocLevel = E.AssocKind-F ExprKind ItemKind QualifierKind AssocKind CatchKind ClauseKind

abbrev pub CatchLevel : Type 0
CatchLevel = E.CatchKind-F ExprKind ItemKind QualifierKind AssocKind CatchKind ClauseKind

abbrev pub ClauseLevel : Type 0
ClauseLevel = E.ClauseKind-F ExprKind ItemKind QualifierKind AssocKind CatchKind ClauseKind

-- the part of an expression, by those of what it holds
abbrev pub part_at : ExprLevel → Expression
part_at (E.Var x) place = use_at x place
part_at (E.Paren e) place = expr_part e
part_at (E.Tuple es) place = in_turn (map expr_part es)
part_at (E.Cells es tail) place = in_turn (map expr_part es ++ optional expr_part tail ∷ [])
part_at (E.Comp e qs) place = comprehension (expr_part e) (map qualifier_step qs)
part_at (E.Unary op e) place = expr_part e
part_at (E.Binary op a b) place = in_turn (expr_part a ∷ expr_part b ∷ [])
part_at (E.Call prefix name args) place = in_turn (map expr_part args)
part_at (E.Apply f args) place = in_turn (expr_part f ∷ map expr_part args)
part_at (E.MapNew assocs) place = in_turn (map assoc_part assocs)
part_at (E.MapChange e assocs) place = in_turn (expr_part e ∷ map assoc_part assocs)
part_at (E.RecNew name tag fields) place = in_turn (map field_part fields)
part_at (E.RecChange e name tag fields) place = in_turn (expr_part e ∷ map field_part fields)
part_at (E.RecGet e name tag field) place = expr_part e
part_at (E.Begin items) place = whole (body_of items)
part_at (E.Case e cs) place = in_turn (expr_part e ∷ side_by_side (map (clause_part Met) cs) ∷ [])
part_at (E.If cs) place = side_by_side (map (clause_part Met) cs)
part_at (E.Fun cs) place = closed (side_by_side (map (clause_part Renewed) cs))
part_at (E.Try is cs catches after) place = in_turn (whole (body_of is) ∷ side_by_side (side_by_side (map (clause_part Met) cs) ∷ side_by_side (map catch_node_part catches) ∷ optional (λ ns. whole (body_of ns)) after ∷ []) ∷ [])
part_at _ place = no_part

abbrev pub item_at : ItemLevel → Step
item_at (E.Value e) = record { pattern = []; binds = []; expression = expr_part e }
item_at (E.Match p e) = record { pattern = row Met (p ∷ []); binds = row_marks Met (p ∷ []); expression = expr_part e }

abbrev pub qualifier_at : QualifierLevel → Step
qualifier_at (E.Generator p e) = record { pattern = row Renewed (p ∷ []); binds = row_marks Renewed (p ∷ []); expression = expr_part e }
qualifier_at (E.Filter e) = record { pattern = []; binds = []; expression = expr_part e }

abbrev pub assoc_at : AssocLevel → Part
assoc_at a = in_turn (expr_part a.key ∷ expr_part a.value ∷ [])

abbrev pub clause_at : ClauseLevel → Clause
clause_at c role front = clause_from (row role (front ++ c.patterns)) (row_marks role (front ++ c.patterns)) (optional guard_tests c.guard) (body_of c.body)

abbrev pub catch_at : CatchLevel → Clause
catch_at c role front = clause_kind_part c.clause.kind role (front ++ class_patterns c.class)

-- ---- rows of parts

parts-are : (es : List (Node ExprKind)) → parts (S.former-ExprKind-Tuple-0.map ExprKind Expression expr_kind_part es) ≡ map expr_part es
parts-are [] = refl
parts-are (e ∷ es) = ap (λ ps. expr_part e ∷ ps) (parts-are es)

optional-is : (o : Option (Node ExprKind)) → optional part (S.former-ExprKind-Cells-1.map ExprKind Expression expr_kind_part o) ≡ optional expr_part o
optional-is None = refl
optional-is (Some e) = refl

steps-are : (is : List (Node ItemKind)) → steps (S.former-ExprKind-Begin-0.map ItemKind Step item_kind_step is) ≡ map item_step is
steps-are [] = refl
steps-are (i ∷ is) = ap (λ ps. item_step i ∷ ps) (steps-are is)

qualifiers-are : (qs : List (Node QualifierKind)) → steps (S.former-ExprKind-Comp-1.map QualifierKind Step qualifier_kind_step qs) ≡ map qualifier_step qs
qualifiers-are [] = refl
qualifiers-are (q ∷ qs) = ap (λ ps. qualifier_step q ∷ ps) (qualifiers-are qs)

assocs-are : (as' : List (Node AssocKind)) → assoc_parts (S.former-ExprKind-MapNew-0.map AssocKind Part assoc_kind_part as') ≡ map assoc_part as'
assocs-are [] = refl
assocs-are (a ∷ as') = ap (λ ps. assoc_part a ∷ ps) (assocs-are as')

field_parts-are : (fs : List (Node (Name × Node ExprKind))) → field_parts (S.former-ExprKind-RecNew-2.map ExprKind Expression expr_kind_part fs) ≡ map field_part fs
field_parts-are [] = refl
field_parts-are (f ∷ fs) = ap (λ ps. field_part f ∷ ps) (field_parts-are fs)

clauses-are : (role : Role) (cs : List (Node ClauseKind)) → map (λ (n : Node Clause). n.kind role []) (S.former-ExprKind-Case-1.map ClauseKind Clause clause_kind_part cs) ≡ map (clause_part role) cs
clauses-are role [] = refl
clauses-are role (c ∷ cs) = ap (λ ps. clause_part role c ∷ ps) (clauses-are role cs)

catches-are : (cs : List (Node CatchKind)) → map (λ (n : Node Clause). n.kind Met []) (S.former-ExprKind-Try-2.map CatchKind Clause catch_kind_clause cs) ≡ map catch_node_part cs
catches-are [] = refl
catches-are (c ∷ cs) = ap (λ ps. catch_node_part c ∷ ps) (catches-are cs)

after-is : (o : Option (List (Node ItemKind))) → optional (λ (ns : List (Node Step)). whole (body (steps ns))) (S.former-ExprKind-Try-3.map ItemKind Step item_kind_step o) ≡ optional (λ ns. whole (body_of ns)) o
after-is None = refl
after-is (Some is) = ap (λ ss. whole (body ss)) (steps-are is)

tests-are : (ts : List (List (Node ExprKind))) → map (λ (es : List (Node Expression)). in_turn (parts es)) (S.former-ClauseKind-guard-at-8.map ExprKind Expression expr_kind_part ts) ≡ map tests_part ts
tests-are [] = refl
tests-are (es ∷ ts) = λ j. in_turn (parts-are es j) ∷ tests-are ts j

guard-is : (g : Option (Node (List (List (Node ExprKind))))) → optional guard_part (S.former-ClauseKind-guard.map ExprKind Expression expr_kind_part g) ≡ optional guard_tests g
guard-is None = refl
guard-is (Some g) = ap in_turn (tests-are g.kind)

-- ---- the equations

expr-same : (o : ExprLevel) (place : Place) → expr_layer (map-ExprKind ExprKind ItemKind QualifierKind AssocKind CatchKind ClauseKind Expression Step Step Part Clause Clause expr_kind_part item_kind_step qualifier_kind_step assoc_kind_part catch_kind_clause clause_kind_part o) place ≡ part_at o place
expr-same (E.Tuple es) place = λ j. in_turn (parts-are es j)
expr-same (E.Cells es tail) place = λ j. in_turn (parts-are es j ++ optional-is tail j ∷ [])
expr-same (E.Comp e qs) place = λ j. comprehension (expr_part e) (qualifiers-are qs j)
expr-same (E.Call prefix name args) place = λ j. in_turn (parts-are args j)
expr-same (E.Apply f args) place = λ j. in_turn (expr_part f ∷ parts-are args j)
expr-same (E.MapNew assocs) place = λ j. in_turn (assocs-are assocs j)
expr-same (E.MapChange e assocs) place = λ j. in_turn (expr_part e ∷ assocs-are assocs j)
expr-same (E.RecNew name tag fields) place = λ j. in_turn (field_parts-are fields j)
expr-same (E.RecChange e name tag fields) place = λ j. in_turn (expr_part e ∷ field_parts-are fields j)
expr-same (E.Begin items) place = λ j. whole (body (steps-are items j))
expr-same (E.Case e cs) place = λ j. in_turn (expr_part e ∷ side_by_side (clauses-are Met cs j) ∷ [])
expr-same (E.If cs) place = λ j. side_by_side (clauses-are Met cs j)
expr-same (E.Fun cs) place = λ j. closed (side_by_side (clauses-are Renewed cs j))
expr-same (E.Try is cs catches after) place = λ j. in_turn (whole (body (steps-are is j)) ∷ side_by_side (side_by_side (clauses-are Met cs j) ∷ side_by_side (catches-are catches j) ∷ after-is after j ∷ []) ∷ [])
expr-same _ place = refl

pub expr-out : (k : ExprKind) (place : Place) → expr_kind_part k place ≡ part_at (out-ExprKind k) place
unfolding expr_kind_part clause_kind_part item_kind_step qualifier_kind_step assoc_kind_part catch_kind_clause
expr-out k place = ap (λ (f : Expression). f place) (fold_out-ExprKind Expression Step Step Part Clause Clause expr_layer item_layer qualifier_layer assoc_layer catch_layer clause_layer k) ∙ expr-same (out-ExprKind k) place

item-same : (o : ItemLevel) → item_layer (map-ItemKind ExprKind ItemKind QualifierKind AssocKind CatchKind ClauseKind Expression Step Step Part Clause Clause expr_kind_part item_kind_step qualifier_kind_step assoc_kind_part catch_kind_clause clause_kind_part o) ≡ item_at o
item-same (E.Value e) = refl
item-same (E.Match p e) = refl

pub item-out : (k : ItemKind) → item_kind_step k ≡ item_at (out-ItemKind k)
unfolding expr_kind_part clause_kind_part item_kind_step qualifier_kind_step assoc_kind_part catch_kind_clause
item-out k = fold_out-ItemKind Expression Step Step Part Clause Clause expr_layer item_layer qualifier_layer assoc_layer catch_layer clause_layer k ∙ item-same (out-ItemKind k)

qualifier-same : (o : QualifierLevel) → qualifier_layer (map-QualifierKind ExprKind ItemKind QualifierKind AssocKind CatchKind ClauseKind Expression Step Step Part Clause Clause expr_kind_part item_kind_step qualifier_kind_step assoc_kind_part catch_kind_clause clause_kind_part o) ≡ qualifier_at o
qualifier-same (E.Generator p e) = refl
qualifier-same (E.Filter e) = refl

pub qualifier-out : (k : QualifierKind) → qualifier_kind_step k ≡ qualifier_at (out-QualifierKind k)
unfolding expr_kind_part clause_kind_part item_kind_step qualifier_kind_step assoc_kind_part catch_kind_clause
qualifier-out k = fold_out-QualifierKind Expression Step Step Part Clause Clause expr_layer item_layer qualifier_layer assoc_layer catch_layer clause_layer k ∙ qualifier-same (out-QualifierKind k)

pub assoc-out : (k : AssocKind) → assoc_kind_part k ≡ assoc_at (out-AssocKind k)
unfolding expr_kind_part clause_kind_part item_kind_step qualifier_kind_step assoc_kind_part catch_kind_clause
assoc-out k = fold_out-AssocKind Expression Step Step Part Clause Clause expr_layer item_layer qualifier_layer assoc_layer catch_layer clause_layer k

pub catch-out : (k : CatchKind) (role : Role) (front : List (Node PatternKind)) → catch_kind_clause k role front ≡ catch_at (out-CatchKind k) role front
unfolding expr_kind_part clause_kind_part item_kind_step qualifier_kind_step assoc_kind_part catch_kind_clause
catch-out k role front = ap (λ (f : Clause). f role front) (fold_out-CatchKind Expression Step Step Part Clause Clause expr_layer item_layer qualifier_layer assoc_layer catch_layer clause_layer k)

clause-same : (o : ClauseLevel) (role : Role) (front : List (Node PatternKind)) → clause_layer (map-ClauseKind ExprKind ItemKind QualifierKind AssocKind CatchKind ClauseKind Expression Step Step Part Clause Clause expr_kind_part item_kind_step qualifier_kind_step assoc_kind_part catch_kind_clause clause_kind_part o) role front ≡ clause_at o role front
clause-same o role front = λ j. clause_from (row role (front ++ o.patterns)) (row_marks role (front ++ o.patterns)) (guard-is o.guard j) (body (steps-are o.body j))

pub clause-out : (k : ClauseKind) (role : Role) (front : List (Node PatternKind)) → clause_kind_part k role front ≡ clause_at (out-ClauseKind k) role front
unfolding expr_kind_part clause_kind_part item_kind_step qualifier_kind_step assoc_kind_part catch_kind_clause
clause-out k role front = ap (λ (f : Clause). f role front) (fold_out-ClauseKind Expression Step Step Part Clause Clause expr_layer item_layer qualifier_layer assoc_layer catch_layer clause_layer k) ∙ clause-same (out-ClauseKind k) role front
