-- What stands in a node of a tree, by what stands in the nodes below it: one equation for each form of a pattern, an expression, an element of a body, a qualifier, an association and a clause.
use Rattle.std.proofs.Common.{◌≡◌, refl, ap, ◌∙◌, ℕ, ℤ, List, [], ◌∷◌, ◌++◌, map}
use Rattle.std.specs.Prelude.{Option, Some, None, if◌then◌else◌}
use Rattle.type_terms.specs.Keys.{Name}
use Rattle.erl_tree.specs.declared.token.Place.{Place}
use Rattle.erl_tree.specs.declared.token.Node.{Node}
use Rattle.erl_tree.specs.declared.pattern.LiteralKind.{LiteralKind}
use Rattle.erl_tree.specs.declared.pattern.PatternKind.{PatternKind, out-PatternKind, map-PatternKind, fold_out-PatternKind}
use Rattle.erl_tree.specs.declared.pattern.PatternKind.TheVariants as Y
use Rattle.erl_tree.specs.declared.pattern.PatternKind.TheOpen as P
use Rattle.erl_tree.specs.declared.pattern.PatternKind.TheShapes as R
use Rattle.erl_tree.specs.declared.expr.UnaryOp.{UnaryOp}
use Rattle.erl_tree.specs.declared.expr.BinaryOp.{BinaryOp}
use Rattle.erl_tree.specs.declared.expr.ExprKind.{ExprKind, out-ExprKind, map-ExprKind, fold_out-ExprKind}
use Rattle.erl_tree.specs.declared.expr.ExprKind.TheVariants as X
use Rattle.erl_tree.specs.declared.expr.ExprKind.TheOpen as E
use Rattle.erl_tree.specs.declared.expr.ExprKind.TheShapes as S
use Rattle.erl_tree.specs.declared.expr.ItemKind.{ItemKind, out-ItemKind, map-ItemKind, fold_out-ItemKind}
use Rattle.erl_tree.specs.declared.expr.ItemKind.TheVariants as I
use Rattle.erl_tree.specs.declared.expr.QualifierKind.{QualifierKind, out-QualifierKind, map-QualifierKind, fold_out-QualifierKind}
use Rattle.erl_tree.specs.declared.expr.QualifierKind.TheVariants as Q
use Rattle.erl_tree.specs.declared.expr.AssocKind.{AssocKind, out-AssocKind, roll-AssocKind, out-roll-AssocKind, fold_out-AssocKind}
use Rattle.erl_tree.specs.declared.expr.CatchKind.{CatchKind, out-CatchKind, roll-CatchKind, out-roll-CatchKind, fold_out-CatchKind}
use Rattle.erl_tree.specs.declared.expr.ClauseKind.{ClauseKind, out-ClauseKind, roll-ClauseKind, out-roll-ClauseKind, map-ClauseKind, fold_out-ClauseKind}
use Rattle.erl_runs.specs.Names.{is_wildcard}
use Rattle.erl_scope_rules.specs.declared.role.Role.{Role}
use Rattle.erl_scope_rules.specs.declared.role.Role.TheVariants.{Met, Renewed}
use Rattle.erl_scope_rules.specs.Occurrences.{Part, no_part, in_turn, side_by_side, closed, optional, Variables, variables_of_each, variables_of_node, variables_of_optional, variables_layer, pattern_kind_variables, variables_of, row, row_marks, Expression, part, Step, Clause, Body, body, whole, clause_from, comprehension, use_at, expr_layer, item_layer, qualifier_layer, assoc_layer, guard_part, clause_layer, class_patterns, catch_layer, expr_kind_part, item_kind_step, qualifier_kind_step, assoc_kind_part, catch_kind_clause, clause_kind_part, expr_part, item_step, qualifier_step, assoc_part, field_part, clause_part, catch_part}

-- one layer of a tree, of whose parts nothing is said
abbrev pub Trees : ((A B C D F G : Type 0) → Type 0) → Type 0
Trees layer = layer ExprKind ItemKind QualifierKind AssocKind CatchKind ClauseKind

-- ---- the variables of patterns

abbrev pub tail_variables : Option (Node PatternKind) → List (Name × Place)
tail_variables None = []
tail_variables (Some p) = variables_of p

-- those of one layer, by those of its parts
abbrev pub variables_in : P.PatternKind-F PatternKind → Variables
variables_in (P.Var x) place = if is_wildcard x then [] else (x, place) ∷ []
variables_in (P.Paren p) place = variables_of p
variables_in (P.Tuple ps) place = variables_of_each variables_of ps
variables_in (P.Cells ps tail) place = variables_of_each variables_of ps ++ tail_variables tail
variables_in (P.Map entries) place = variables_of_each (λ e. variables_of e.kind.1) entries
variables_in (P.Rec name tag fields) place = variables_of_each (λ f. variables_of f.kind.1) fields
variables_in (P.Alias p q) place = variables_of p ++ variables_of q
variables_in _ place = []

-- rows of patterns, each with its variables in the place of its kind
patterns-each : (ps : List (Node PatternKind)) → variables_of_each variables_of_node (R.former-PatternKind-Tuple-0.map PatternKind Variables pattern_kind_variables ps) ≡ variables_of_each variables_of ps
patterns-each [] = refl
patterns-each (p ∷ ps) = ap (λ vs. variables_of p ++ vs) (patterns-each ps)

pattern-tail : (tail : Option (Node PatternKind)) → variables_of_optional (R.former-PatternKind-Cells-1.map PatternKind Variables pattern_kind_variables tail) ≡ tail_variables tail
pattern-tail None = refl
pattern-tail (Some p) = refl

entries-each : (entries : List (Node (Node LiteralKind × Node PatternKind))) → variables_of_each (λ e. variables_of_node e.kind.1) (R.former-PatternKind-Map-0.map PatternKind Variables pattern_kind_variables entries) ≡ variables_of_each (λ e. variables_of e.kind.1) entries
entries-each [] = refl
entries-each (e ∷ es) = ap (λ vs. variables_of e.kind.1 ++ vs) (entries-each es)

pattern_fields-each : (fields : List (Node (Name × Node PatternKind))) → variables_of_each (λ f. variables_of_node f.kind.1) (R.former-PatternKind-Rec-2.map PatternKind Variables pattern_kind_variables fields) ≡ variables_of_each (λ f. variables_of f.kind.1) fields
pattern_fields-each [] = refl
pattern_fields-each (f ∷ fs) = ap (λ vs. variables_of f.kind.1 ++ vs) (pattern_fields-each fs)

variables-same : (l : P.PatternKind-F PatternKind) (place : Place) → variables_layer (map-PatternKind PatternKind Variables pattern_kind_variables l) place ≡ variables_in l place
variables-same (P.Tuple ps) place = patterns-each ps
variables-same (P.Cells ps tail) place = λ j. patterns-each ps j ++ pattern-tail tail j
variables-same (P.Map entries) place = entries-each entries
variables-same (P.Rec name tag fields) place = pattern_fields-each fields
variables-same _ place = refl

-- by the layer that a `match` sees
pub variables-out : (p : PatternKind) (place : Place) → pattern_kind_variables p place ≡ variables_in (out-PatternKind p) place
unfolding pattern_kind_variables
variables-out p place = ap (λ (f : Variables). f place) (fold_out-PatternKind Variables variables_layer p) ∙ variables-same (out-PatternKind p) place

-- by the form of a pattern
pub variables-Atom : (a : Name) (place : Place) → pattern_kind_variables (Y.Atom a) place ≡ []
variables-Atom a place = variables-out (Y.Atom a) place ∙ ap (λ l. variables_in l place) (Y.outs-Atom a)

pub variables-Int : (n : ℤ) (place : Place) → pattern_kind_variables (Y.Int n) place ≡ []
variables-Int n place = variables-out (Y.Int n) place ∙ ap (λ l. variables_in l place) (Y.outs-Int n)

pub variables-NegInt : (n : ℤ) (place : Place) → pattern_kind_variables (Y.NegInt n) place ≡ []
variables-NegInt n place = variables-out (Y.NegInt n) place ∙ ap (λ l. variables_in l place) (Y.outs-NegInt n)

pub variables-Char : (c : ℕ) (place : Place) → pattern_kind_variables (Y.Char c) place ≡ []
variables-Char c place = variables-out (Y.Char c) place ∙ ap (λ l. variables_in l place) (Y.outs-Char c)

pub variables-Str : (s : List ℕ) (place : Place) → pattern_kind_variables (Y.Str s) place ≡ []
variables-Str s place = variables-out (Y.Str s) place ∙ ap (λ l. variables_in l place) (Y.outs-Str s)

pub variables-Var : (x : Name) (place : Place) → pattern_kind_variables (Y.Var x) place ≡ (if is_wildcard x then [] else (x, place) ∷ [])
variables-Var x place = variables-out (Y.Var x) place ∙ ap (λ l. variables_in l place) (Y.outs-Var x)

pub variables-Paren : (p : Node PatternKind) (place : Place) → pattern_kind_variables (Y.Paren p) place ≡ variables_of p
variables-Paren p place = variables-out (Y.Paren p) place ∙ ap (λ l. variables_in l place) (Y.outs-Paren p)

pub variables-Tuple : (ps : List (Node PatternKind)) (place : Place) → pattern_kind_variables (Y.Tuple ps) place ≡ variables_of_each variables_of ps
variables-Tuple ps place = variables-out (Y.Tuple ps) place ∙ ap (λ l. variables_in l place) (Y.outs-Tuple ps)

pub variables-Cells : (ps : List (Node PatternKind)) (tail : Option (Node PatternKind)) (place : Place) → pattern_kind_variables (Y.Cells ps tail) place ≡ variables_of_each variables_of ps ++ tail_variables tail
variables-Cells ps tail place = variables-out (Y.Cells ps tail) place ∙ ap (λ l. variables_in l place) (Y.outs-Cells ps tail)

pub variables-Map : (entries : List (Node (Node LiteralKind × Node PatternKind))) (place : Place) → pattern_kind_variables (Y.Map entries) place ≡ variables_of_each (λ e. variables_of e.kind.1) entries
variables-Map entries place = variables-out (Y.Map entries) place ∙ ap (λ l. variables_in l place) (Y.outs-Map entries)

pub variables-Rec : (name tag : Name) (fields : List (Node (Name × Node PatternKind))) (place : Place) → pattern_kind_variables (Y.Rec name tag fields) place ≡ variables_of_each (λ f. variables_of f.kind.1) fields
variables-Rec name tag fields place = variables-out (Y.Rec name tag fields) place ∙ ap (λ l. variables_in l place) (Y.outs-Rec name tag fields)

pub variables-Alias : (p q : Node PatternKind) (place : Place) → pattern_kind_variables (Y.Alias p q) place ≡ variables_of p ++ variables_of q
variables-Alias p q place = variables-out (Y.Alias p q) place ∙ ap (λ l. variables_in l place) (Y.outs-Alias p q)

pub ruleset variables_equations = (variables-Atom, variables-Int, variables-NegInt, variables-Char, variables-Str, variables-Var, variables-Paren, variables-Tuple, variables-Cells, variables-Map, variables-Rec, variables-Alias)

-- the same, and where the form isn't known, by the layer: for code that looks at a pattern
pub ruleset variables_laws = (variables-Atom, variables-Int, variables-NegInt, variables-Char, variables-Str, variables-Var, variables-Paren, variables-Tuple, variables-Cells, variables-Map, variables-Rec, variables-Alias, variables-out)

-- ---- expressions, and what stands inside them

-- a guard
abbrev pub tests_part : List (Node ExprKind) → Part
tests_part tests = in_turn (map expr_part tests)

abbrev pub guard_at : Node (List (List (Node ExprKind))) → Part
guard_at g = in_turn (map tests_part g.kind)

-- elements of a body
abbrev pub body_in : List (Node ItemKind) → Body
body_in is = body (map item_step is)

abbrev pub body_part : List (Node ItemKind) → Part
body_part is = whole (body_in is)

-- clauses side by side
abbrev pub clauses_part : Role → List (Node ClauseKind) → Part
clauses_part role cs = side_by_side (map (clause_part role) cs)

abbrev pub catches_part : List (Node CatchKind) → Part
catches_part cs = side_by_side (map (catch_part Met) cs)

-- one layer of an expression, by its parts
abbrev pub expr_in : Trees E.ExprKind-F → Expression
expr_in (E.Var x) place = use_at x place
expr_in (E.Paren e) place = expr_part e
expr_in (E.Tuple es) place = in_turn (map expr_part es)
expr_in (E.Cells es tail) place = in_turn (map expr_part es ++ optional expr_part tail ∷ [])
expr_in (E.Comp e qs) place = comprehension (expr_part e) (map qualifier_step qs)
expr_in (E.Unary op e) place = expr_part e
expr_in (E.Binary op a b) place = in_turn (expr_part a ∷ expr_part b ∷ [])
expr_in (E.Call prefix name args) place = in_turn (map expr_part args)
expr_in (E.Apply f args) place = in_turn (expr_part f ∷ map expr_part args)
expr_in (E.MapNew assocs) place = in_turn (map assoc_part assocs)
expr_in (E.MapChange e assocs) place = in_turn (expr_part e ∷ map assoc_part assocs)
expr_in (E.RecNew name tag fields) place = in_turn (map field_part fields)
expr_in (E.RecChange e name tag fields) place = in_turn (expr_part e ∷ map field_part fields)
expr_in (E.RecGet e name tag field) place = expr_part e
expr_in (E.Begin is) place = body_part is
expr_in (E.Case e cs) place = in_turn (expr_part e ∷ clauses_part Met cs ∷ [])
expr_in (E.If cs) place = clauses_part Met cs
expr_in (E.Fun cs) place = closed (clauses_part Renewed cs)
expr_in (E.Try is cs catches after) place = in_turn (body_part is ∷ side_by_side (clauses_part Met cs ∷ catches_part catches ∷ optional body_part after ∷ []) ∷ [])
expr_in _ place = no_part

-- one layer of an element of a body
abbrev pub item_in : Trees E.ItemKind-F → Step
item_in (E.Value e) = record { pattern = []; binds = []; expression = expr_part e }
item_in (E.Match p e) = record { pattern = row Met (p ∷ []); binds = row_marks Met (p ∷ []); expression = expr_part e }

-- one layer of a qualifier
abbrev pub qualifier_in : Trees E.QualifierKind-F → Step
qualifier_in (E.Generator p e) = record { pattern = row Renewed (p ∷ []); binds = row_marks Renewed (p ∷ []); expression = expr_part e }
qualifier_in (E.Filter e) = record { pattern = []; binds = []; expression = expr_part e }

-- one layer of an association
abbrev pub assoc_in : Trees E.AssocKind-F → Part
assoc_in a = in_turn (expr_part a.key ∷ expr_part a.value ∷ [])

-- one layer of a clause
abbrev pub clause_in : Trees E.ClauseKind-F → Clause
clause_in c role front = clause_from (row role (front ++ c.patterns)) (row_marks role (front ++ c.patterns)) (optional guard_at c.guard) (body_in c.body)

-- one layer of a clause of a `catch` part
abbrev pub catch_in : Trees E.CatchKind-F → Clause
catch_in c role front = clause_kind_part c.clause.kind role (front ++ class_patterns c.class)

-- a node with what is said of its kind
abbrev put : {A B : Type 0} → (A → B) → Node A → Node B
put say n = record { place = n.place; marks = n.marks; kind = say n.kind }

-- lists of nodes, each with what is said of its kind in the place of the kind
nodes-map : {A B C : Type 0} (say : A → B) (of : Node B → C) (ns : List (Node A)) → map of (S.former-ExprKind-Tuple-0.map A B say ns) ≡ map (λ n. of (put say n)) ns
nodes-map say of [] = refl
nodes-map say of (n ∷ ns) = ap (λ xs. of (put say n) ∷ xs) (nodes-map say of ns)

exprs-map : (es : List (Node ExprKind)) → map part (S.former-ExprKind-Tuple-0.map ExprKind Expression expr_kind_part es) ≡ map expr_part es
exprs-map es = nodes-map expr_kind_part part es

items-map : (is : List (Node ItemKind)) → map (λ (n : Node Step). n.kind) (S.former-ExprKind-Tuple-0.map ItemKind Step item_kind_step is) ≡ map item_step is
items-map is = nodes-map item_kind_step (λ n. n.kind) is

qualifiers-map : (qs : List (Node QualifierKind)) → map (λ (n : Node Step). n.kind) (S.former-ExprKind-Tuple-0.map QualifierKind Step qualifier_kind_step qs) ≡ map qualifier_step qs
qualifiers-map qs = nodes-map qualifier_kind_step (λ n. n.kind) qs

assocs-map : (as' : List (Node AssocKind)) → map (λ (n : Node Part). n.kind) (S.former-ExprKind-Tuple-0.map AssocKind Part assoc_kind_part as') ≡ map assoc_part as'
assocs-map as' = nodes-map assoc_kind_part (λ n. n.kind) as'

clauses-map : (role : Role) (cs : List (Node ClauseKind)) → map (λ (n : Node Clause). n.kind role []) (S.former-ExprKind-Tuple-0.map ClauseKind Clause clause_kind_part cs) ≡ map (clause_part role) cs
clauses-map role cs = nodes-map clause_kind_part (λ n. n.kind role []) cs

catches-map : (cs : List (Node CatchKind)) → map (λ (n : Node Clause). n.kind Met []) (S.former-ExprKind-Tuple-0.map CatchKind Clause catch_kind_clause cs) ≡ map (catch_part Met) cs
catches-map cs = nodes-map catch_kind_clause (λ n. n.kind Met []) cs

fields-map : (fs : List (Node (Name × Node ExprKind))) → map (λ (f : Node (Name × Node Expression)). part f.kind.1) (S.former-ExprKind-RecNew-2.map ExprKind Expression expr_kind_part fs) ≡ map field_part fs
fields-map [] = refl
fields-map (f ∷ fs) = ap (λ ps. field_part f ∷ ps) (fields-map fs)

tail-optional : (tail : Option (Node ExprKind)) → optional part (S.former-ExprKind-Cells-1.map ExprKind Expression expr_kind_part tail) ≡ optional expr_part tail
tail-optional None = refl
tail-optional (Some e) = refl

after-optional : (after : Option (List (Node ItemKind))) → optional (λ (ns : List (Node Step)). whole (body (map (λ (n : Node Step). n.kind) ns))) (S.former-ExprKind-Try-3.map ItemKind Step item_kind_step after) ≡ optional body_part after
after-optional None = refl
after-optional (Some is) = ap (λ ss. whole (body ss)) (items-map is)

tests-map : (alternatives : List (List (Node ExprKind))) → map (λ (tests : List (Node Expression)). in_turn (map part tests)) (S.former-ClauseKind-guard-at-8.map ExprKind Expression expr_kind_part alternatives) ≡ map tests_part alternatives
tests-map [] = refl
tests-map (tests ∷ alternatives) = λ j. in_turn (exprs-map tests j) ∷ tests-map alternatives j

guard-optional : (g : Option (Node (List (List (Node ExprKind))))) → optional guard_part (S.former-ClauseKind-guard.map ExprKind Expression expr_kind_part g) ≡ optional guard_at g
guard-optional None = refl
guard-optional (Some g) = ap in_turn (tests-map g.kind)

expr-same : (l : Trees E.ExprKind-F) (place : Place) → expr_layer (map-ExprKind ExprKind ItemKind QualifierKind AssocKind CatchKind ClauseKind Expression Step Step Part Clause Clause expr_kind_part item_kind_step qualifier_kind_step assoc_kind_part catch_kind_clause clause_kind_part l) place ≡ expr_in l place
expr-same (E.Tuple es) place = ap in_turn (exprs-map es)
expr-same (E.Cells es tail) place = λ j. in_turn (exprs-map es j ++ tail-optional tail j ∷ [])
expr-same (E.Comp e qs) place = ap (λ ss. comprehension (expr_part e) ss) (qualifiers-map qs)
expr-same (E.Call prefix name args) place = ap in_turn (exprs-map args)
expr-same (E.Apply f args) place = ap (λ ps. in_turn (expr_part f ∷ ps)) (exprs-map args)
expr-same (E.MapNew assocs) place = ap in_turn (assocs-map assocs)
expr-same (E.MapChange e assocs) place = ap (λ ps. in_turn (expr_part e ∷ ps)) (assocs-map assocs)
expr-same (E.RecNew name tag fields) place = ap in_turn (fields-map fields)
expr-same (E.RecChange e name tag fields) place = ap (λ ps. in_turn (expr_part e ∷ ps)) (fields-map fields)
expr-same (E.Begin is) place = ap (λ ss. whole (body ss)) (items-map is)
expr-same (E.Case e cs) place = ap (λ ps. in_turn (expr_part e ∷ side_by_side ps ∷ [])) (clauses-map Met cs)
expr-same (E.If cs) place = ap side_by_side (clauses-map Met cs)
expr-same (E.Fun cs) place = ap (λ ps. closed (side_by_side ps)) (clauses-map Renewed cs)
expr-same (E.Try is cs catches after) place = λ j. in_turn (whole (body (items-map is j)) ∷ side_by_side (side_by_side (clauses-map Met cs j) ∷ side_by_side (catches-map catches j) ∷ after-optional after j ∷ []) ∷ [])
expr-same _ place = refl

item-same : (l : Trees E.ItemKind-F) → item_layer (map-ItemKind ExprKind ItemKind QualifierKind AssocKind CatchKind ClauseKind Expression Step Step Part Clause Clause expr_kind_part item_kind_step qualifier_kind_step assoc_kind_part catch_kind_clause clause_kind_part l) ≡ item_in l
item-same (E.Value e) = refl
item-same (E.Match p e) = refl

qualifier-same : (l : Trees E.QualifierKind-F) → qualifier_layer (map-QualifierKind ExprKind ItemKind QualifierKind AssocKind CatchKind ClauseKind Expression Step Step Part Clause Clause expr_kind_part item_kind_step qualifier_kind_step assoc_kind_part catch_kind_clause clause_kind_part l) ≡ qualifier_in l
qualifier-same (E.Generator p e) = refl
qualifier-same (E.Filter e) = refl

clause-same : (c : Trees E.ClauseKind-F) (role : Role) (front : List (Node PatternKind)) → clause_layer (map-ClauseKind ExprKind ItemKind QualifierKind AssocKind CatchKind ClauseKind Expression Step Step Part Clause Clause expr_kind_part item_kind_step qualifier_kind_step assoc_kind_part catch_kind_clause clause_kind_part c) role front ≡ clause_in c role front
clause-same c role front = λ j. clause_from (row role (front ++ c.patterns)) (row_marks role (front ++ c.patterns)) (guard-optional c.guard j) (body (items-map c.body j))

-- by the layer that a `match` sees
pub expr-out : (e : ExprKind) (place : Place) → expr_kind_part e place ≡ expr_in (out-ExprKind e) place
unfolding expr_kind_part item_kind_step qualifier_kind_step assoc_kind_part catch_kind_clause clause_kind_part
expr-out e place = ap (λ (f : Expression). f place) (fold_out-ExprKind Expression Step Step Part Clause Clause expr_layer item_layer qualifier_layer assoc_layer catch_layer clause_layer e) ∙ expr-same (out-ExprKind e) place

pub item-out : (i : ItemKind) → item_kind_step i ≡ item_in (out-ItemKind i)
unfolding expr_kind_part item_kind_step qualifier_kind_step assoc_kind_part catch_kind_clause clause_kind_part
item-out i = fold_out-ItemKind Expression Step Step Part Clause Clause expr_layer item_layer qualifier_layer assoc_layer catch_layer clause_layer i ∙ item-same (out-ItemKind i)

pub qualifier-out : (q : QualifierKind) → qualifier_kind_step q ≡ qualifier_in (out-QualifierKind q)
unfolding expr_kind_part item_kind_step qualifier_kind_step assoc_kind_part catch_kind_clause clause_kind_part
qualifier-out q = fold_out-QualifierKind Expression Step Step Part Clause Clause expr_layer item_layer qualifier_layer assoc_layer catch_layer clause_layer q ∙ qualifier-same (out-QualifierKind q)

pub assoc-out : (a : AssocKind) → assoc_kind_part a ≡ assoc_in (out-AssocKind a)
unfolding expr_kind_part item_kind_step qualifier_kind_step assoc_kind_part catch_kind_clause clause_kind_part
assoc-out a = fold_out-AssocKind Expression Step Step Part Clause Clause expr_layer item_layer qualifier_layer assoc_layer catch_layer clause_layer a

pub catch-out : (c : CatchKind) (role : Role) (front : List (Node PatternKind)) → catch_kind_clause c role front ≡ catch_in (out-CatchKind c) role front
unfolding expr_kind_part item_kind_step qualifier_kind_step assoc_kind_part catch_kind_clause clause_kind_part
catch-out c role front = ap (λ (f : Clause). f role front) (fold_out-CatchKind Expression Step Step Part Clause Clause expr_layer item_layer qualifier_layer assoc_layer catch_layer clause_layer c)

pub clause-out : (c : ClauseKind) (role : Role) (front : List (Node PatternKind)) → clause_kind_part c role front ≡ clause_in (out-ClauseKind c) role front
unfolding expr_kind_part item_kind_step qualifier_kind_step assoc_kind_part catch_kind_clause clause_kind_part
clause-out c role front = ap (λ (f : Clause). f role front) (fold_out-ClauseKind Expression Step Step Part Clause Clause expr_layer item_layer qualifier_layer assoc_layer catch_layer clause_layer c) ∙ clause-same (out-ClauseKind c) role front

-- by the form of an expression
pub part-Atom : (a : Name) (place : Place) → expr_kind_part (X.Atom a) place ≡ no_part
part-Atom a place = expr-out (X.Atom a) place ∙ ap (λ l. expr_in l place) (X.outs-Atom a)

pub part-Int : (n : ℤ) (place : Place) → expr_kind_part (X.Int n) place ≡ no_part
part-Int n place = expr-out (X.Int n) place ∙ ap (λ l. expr_in l place) (X.outs-Int n)

pub part-Char : (c : ℕ) (place : Place) → expr_kind_part (X.Char c) place ≡ no_part
part-Char c place = expr-out (X.Char c) place ∙ ap (λ l. expr_in l place) (X.outs-Char c)

pub part-Str : (s : List ℕ) (place : Place) → expr_kind_part (X.Str s) place ≡ no_part
part-Str s place = expr-out (X.Str s) place ∙ ap (λ l. expr_in l place) (X.outs-Str s)

pub part-Var : (x : Name) (place : Place) → expr_kind_part (X.Var x) place ≡ use_at x place
part-Var x place = expr-out (X.Var x) place ∙ ap (λ l. expr_in l place) (X.outs-Var x)

pub part-Paren : (e : Node ExprKind) (place : Place) → expr_kind_part (X.Paren e) place ≡ expr_part e
part-Paren e place = expr-out (X.Paren e) place ∙ ap (λ l. expr_in l place) (X.outs-Paren e)

pub part-Tuple : (es : List (Node ExprKind)) (place : Place) → expr_kind_part (X.Tuple es) place ≡ in_turn (map expr_part es)
part-Tuple es place = expr-out (X.Tuple es) place ∙ ap (λ l. expr_in l place) (X.outs-Tuple es)

pub part-Cells : (es : List (Node ExprKind)) (tail : Option (Node ExprKind)) (place : Place) → expr_kind_part (X.Cells es tail) place ≡ in_turn (map expr_part es ++ optional expr_part tail ∷ [])
part-Cells es tail place = expr-out (X.Cells es tail) place ∙ ap (λ l. expr_in l place) (X.outs-Cells es tail)

pub part-Comp : (e : Node ExprKind) (qs : List (Node QualifierKind)) (place : Place) → expr_kind_part (X.Comp e qs) place ≡ comprehension (expr_part e) (map qualifier_step qs)
part-Comp e qs place = expr-out (X.Comp e qs) place ∙ ap (λ l. expr_in l place) (X.outs-Comp e qs)

pub part-Unary : (op : UnaryOp) (e : Node ExprKind) (place : Place) → expr_kind_part (X.Unary op e) place ≡ expr_part e
part-Unary op e place = expr-out (X.Unary op e) place ∙ ap (λ l. expr_in l place) (X.outs-Unary op e)

pub part-Binary : (op : BinaryOp) (a b : Node ExprKind) (place : Place) → expr_kind_part (X.Binary op a b) place ≡ in_turn (expr_part a ∷ expr_part b ∷ [])
part-Binary op a b place = expr-out (X.Binary op a b) place ∙ ap (λ l. expr_in l place) (X.outs-Binary op a b)

pub part-Call : (prefix : Option Name) (name : Name) (args : List (Node ExprKind)) (place : Place) → expr_kind_part (X.Call prefix name args) place ≡ in_turn (map expr_part args)
part-Call prefix name args place = expr-out (X.Call prefix name args) place ∙ ap (λ l. expr_in l place) (X.outs-Call prefix name args)

pub part-Apply : (f : Node ExprKind) (args : List (Node ExprKind)) (place : Place) → expr_kind_part (X.Apply f args) place ≡ in_turn (expr_part f ∷ map expr_part args)
part-Apply f args place = expr-out (X.Apply f args) place ∙ ap (λ l. expr_in l place) (X.outs-Apply f args)

pub part-MapNew : (assocs : List (Node AssocKind)) (place : Place) → expr_kind_part (X.MapNew assocs) place ≡ in_turn (map assoc_part assocs)
part-MapNew assocs place = expr-out (X.MapNew assocs) place ∙ ap (λ l. expr_in l place) (X.outs-MapNew assocs)

pub part-MapChange : (e : Node ExprKind) (assocs : List (Node AssocKind)) (place : Place) → expr_kind_part (X.MapChange e assocs) place ≡ in_turn (expr_part e ∷ map assoc_part assocs)
part-MapChange e assocs place = expr-out (X.MapChange e assocs) place ∙ ap (λ l. expr_in l place) (X.outs-MapChange e assocs)

pub part-RecNew : (name tag : Name) (fields : List (Node (Name × Node ExprKind))) (place : Place) → expr_kind_part (X.RecNew name tag fields) place ≡ in_turn (map field_part fields)
part-RecNew name tag fields place = expr-out (X.RecNew name tag fields) place ∙ ap (λ l. expr_in l place) (X.outs-RecNew name tag fields)

pub part-RecChange : (e : Node ExprKind) (name tag : Name) (fields : List (Node (Name × Node ExprKind))) (place : Place) → expr_kind_part (X.RecChange e name tag fields) place ≡ in_turn (expr_part e ∷ map field_part fields)
part-RecChange e name tag fields place = expr-out (X.RecChange e name tag fields) place ∙ ap (λ l. expr_in l place) (X.outs-RecChange e name tag fields)

pub part-RecGet : (e : Node ExprKind) (name tag field : Name) (place : Place) → expr_kind_part (X.RecGet e name tag field) place ≡ expr_part e
part-RecGet e name tag field place = expr-out (X.RecGet e name tag field) place ∙ ap (λ l. expr_in l place) (X.outs-RecGet e name tag field)

pub part-Begin : (is : List (Node ItemKind)) (place : Place) → expr_kind_part (X.Begin is) place ≡ body_part is
part-Begin is place = expr-out (X.Begin is) place ∙ ap (λ l. expr_in l place) (X.outs-Begin is)

pub part-Case : (e : Node ExprKind) (cs : List (Node ClauseKind)) (place : Place) → expr_kind_part (X.Case e cs) place ≡ in_turn (expr_part e ∷ clauses_part Met cs ∷ [])
part-Case e cs place = expr-out (X.Case e cs) place ∙ ap (λ l. expr_in l place) (X.outs-Case e cs)

pub part-If : (cs : List (Node ClauseKind)) (place : Place) → expr_kind_part (X.If cs) place ≡ clauses_part Met cs
part-If cs place = expr-out (X.If cs) place ∙ ap (λ l. expr_in l place) (X.outs-If cs)

pub part-FunName : (name : Name) (n : ℤ) (place : Place) → expr_kind_part (X.FunName name n) place ≡ no_part
part-FunName name n place = expr-out (X.FunName name n) place ∙ ap (λ l. expr_in l place) (X.outs-FunName name n)

pub part-Fun : (cs : List (Node ClauseKind)) (place : Place) → expr_kind_part (X.Fun cs) place ≡ closed (clauses_part Renewed cs)
part-Fun cs place = expr-out (X.Fun cs) place ∙ ap (λ l. expr_in l place) (X.outs-Fun cs)

pub part-Try : (is : List (Node ItemKind)) (cs : List (Node ClauseKind)) (catches : List (Node CatchKind)) (after : Option (List (Node ItemKind))) (place : Place) → expr_kind_part (X.Try is cs catches after) place ≡ in_turn (body_part is ∷ side_by_side (clauses_part Met cs ∷ catches_part catches ∷ optional body_part after ∷ []) ∷ [])
part-Try is cs catches after place = expr-out (X.Try is cs catches after) place ∙ ap (λ l. expr_in l place) (X.outs-Try is cs catches after)

-- by the form of an element of a body, a qualifier, an association and a clause
pub step-Value : (e : Node ExprKind) → item_kind_step (I.Value e) ≡ record { pattern = []; binds = []; expression = expr_part e }
step-Value e = item-out (I.Value e) ∙ ap (λ l. item_in l) (I.outs-Value e)

pub step-Match : (p : Node PatternKind) (e : Node ExprKind) → item_kind_step (I.Match p e) ≡ record { pattern = row Met (p ∷ []); binds = row_marks Met (p ∷ []); expression = expr_part e }
step-Match p e = item-out (I.Match p e) ∙ ap (λ l. item_in l) (I.outs-Match p e)

pub step-Generator : (p : Node PatternKind) (e : Node ExprKind) → qualifier_kind_step (Q.Generator p e) ≡ record { pattern = row Renewed (p ∷ []); binds = row_marks Renewed (p ∷ []); expression = expr_part e }
step-Generator p e = qualifier-out (Q.Generator p e) ∙ ap (λ l. qualifier_in l) (Q.outs-Generator p e)

pub step-Filter : (e : Node ExprKind) → qualifier_kind_step (Q.Filter e) ≡ record { pattern = []; binds = []; expression = expr_part e }
step-Filter e = qualifier-out (Q.Filter e) ∙ ap (λ l. qualifier_in l) (Q.outs-Filter e)

pub part-roll_assoc : (l : Trees E.AssocKind-F) → assoc_kind_part (roll-AssocKind l) ≡ assoc_in l
part-roll_assoc l = assoc-out (roll-AssocKind l) ∙ ap (λ (k : Trees E.AssocKind-F). assoc_in k) (out-roll-AssocKind l)

pub part-roll_catch : (l : Trees E.CatchKind-F) (role : Role) (front : List (Node PatternKind)) → catch_kind_clause (roll-CatchKind l) role front ≡ catch_in l role front
part-roll_catch l role front = catch-out (roll-CatchKind l) role front ∙ ap (λ (k : Trees E.CatchKind-F). catch_in k role front) (out-roll-CatchKind l)

pub part-roll_clause : (l : Trees E.ClauseKind-F) (role : Role) (front : List (Node PatternKind)) → clause_kind_part (roll-ClauseKind l) role front ≡ clause_in l role front
part-roll_clause l role front = clause-out (roll-ClauseKind l) role front ∙ ap (λ (k : Trees E.ClauseKind-F). clause_in k role front) (out-roll-ClauseKind l)

pub ruleset part_equations = (part-Atom, part-Int, part-Char, part-Str, part-Var, part-Paren, part-Tuple, part-Cells, part-Comp, part-Unary, part-Binary, part-Call, part-Apply, part-MapNew, part-MapChange, part-RecNew, part-RecChange, part-RecGet, part-Begin, part-Case, part-If, part-FunName, part-Fun, part-Try, step-Value, step-Match, step-Generator, step-Filter, part-roll_assoc, part-roll_catch, part-roll_clause)

-- the same, and where the form isn't known, by the layer: for code that looks at a tree
pub ruleset part_laws = (part-Atom, part-Int, part-Char, part-Str, part-Var, part-Paren, part-Tuple, part-Cells, part-Comp, part-Unary, part-Binary, part-Call, part-Apply, part-MapNew, part-MapChange, part-RecNew, part-RecChange, part-RecGet, part-Begin, part-Case, part-If, part-FunName, part-Fun, part-Try, step-Value, step-Match, step-Generator, step-Filter, part-roll_assoc, part-roll_catch, part-roll_clause, expr-out, item-out, qualifier-out, assoc-out, catch-out, clause-out)
