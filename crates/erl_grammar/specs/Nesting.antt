-- How deep patterns and expressions are nested. A leaf that is the whole stands at level 1, and what stands in a node is one level deeper; in a list of cells each element is one level deeper than the one before, and the tail is as deep as the last element. Only patterns and expressions count, the class of a `catch` clause among them: elements of bodies, clauses, guards, qualifiers, associations, fields, entries and keys of map patterns add no level.
use Rattle.std.specs.Prelude.{◌≡◌, ℕ, zero, suc, List, [], ◌∷◌, ◌++◌, Option, Some, None}
use Rattle.erl_tree.specs.declared.token.Place.{Place}
use Rattle.erl_tree.specs.declared.token.Node.{Node}
use Rattle.erl_tree.specs.declared.pattern.PatternKind.{PatternKind, fold-PatternKind}
use Rattle.erl_tree.specs.declared.pattern.PatternKind.TheOpen as P
use Rattle.erl_tree.specs.declared.expr.ExprKind.{ExprKind, fold-ExprKind}
use Rattle.erl_tree.specs.declared.expr.ItemKind.{ItemKind, fold-ItemKind}
use Rattle.erl_tree.specs.declared.expr.ClauseKind.{ClauseKind, fold-ClauseKind}
use Rattle.erl_tree.specs.declared.expr.QualifierKind.{QualifierKind, fold-QualifierKind}
use Rattle.erl_tree.specs.declared.expr.AssocKind.{AssocKind, fold-AssocKind}
use Rattle.erl_tree.specs.declared.expr.CatchKind.{CatchKind, fold-CatchKind}
use Rattle.erl_tree.specs.declared.expr.ExprKind.TheOpen as E

-- where a part of a tree has nodes that are nested deeper than so many levels: their places, in text order
abbrev pub Deep : Type 0
Deep = ℕ → List Place

-- a node that counts as a level
abbrev pub deep_node : Node Deep → Deep
deep_node n zero = n.place ∷ n.kind zero
deep_node n (suc levels) = n.kind levels

-- a node that counts as none
abbrev pub deep_part : Node Deep → Deep
deep_part n levels = n.kind levels

-- each of some parts
abbrev pub deep_all : {A : Type 0} → (A → Deep) → List A → Deep
deep_all deep [] levels = []
deep_all deep (x ∷ xs) levels = deep x levels ++ deep_all deep xs levels

-- a part, where there is one
abbrev pub deep_optional : {A : Type 0} → (A → Deep) → Option A → Deep
deep_optional deep None levels = []
deep_optional deep (Some x) levels = deep x levels

-- the pattern of an entry or of a field, the expression of a field
abbrev pub deep_second : {A B : Type 0} → (B → Deep) → Node (A × B) → Deep
deep_second deep n levels = deep n.kind.1 levels

-- one level fewer, as far as there is one
abbrev pub fewer : ℕ → ℕ
fewer zero = zero
fewer (suc levels) = levels

-- the elements and the tail of a list
abbrev pub deep_cells : {A : Type 0} → (A → Deep) → List A → Option A → Deep
deep_cells deep [] tail levels = deep_optional deep tail levels
deep_cells deep (e ∷ []) tail levels = deep e levels ++ deep_optional deep tail levels
deep_cells deep (e ∷ f ∷ es) tail levels = deep e levels ++ deep_cells deep (f ∷ es) tail (fewer levels)

-- ---- patterns

-- what stands in a pattern's node
abbrev pub deep_in_pattern : P.PatternKind-F Deep → Deep
deep_in_pattern (P.Paren p) levels = deep_node p levels
deep_in_pattern (P.Tuple ps) levels = deep_all deep_node ps levels
deep_in_pattern (P.Cells ps tail) levels = deep_cells deep_node ps tail levels
deep_in_pattern (P.Map entries) levels = deep_all (deep_second deep_node) entries levels
deep_in_pattern (P.Rec name tag fields) levels = deep_all (deep_second deep_node) fields levels
deep_in_pattern (P.Alias p q) levels = deep_node p levels ++ deep_node q levels
deep_in_pattern _ levels = []

unfoldable pub pattern_kind_deep : PatternKind → Deep
pattern_kind_deep p = fold-PatternKind Deep deep_in_pattern p

-- the places of a pattern's nodes that are nested deeper than so many levels
abbrev pub pattern_deep : Node PatternKind → Deep
pattern_deep p = deep_node (record { place = p.place; marks = p.marks; kind = pattern_kind_deep p.kind })

-- ---- expressions

-- a guard
abbrev pub deep_guard : {A : Type 0} → (A → Deep) → Node (List (List A)) → Deep
deep_guard deep g levels = deep_all (deep_all deep) g.kind levels

-- what stands in a clause's node
abbrev pub deep_in_clause : E.ClauseKind-F Deep Deep Deep Deep Deep Deep → Deep
deep_in_clause c levels = deep_all pattern_deep c.patterns levels ++ (deep_optional (deep_guard deep_node) c.guard levels ++ deep_all deep_part c.body levels)

-- what stands in an expression's node
abbrev pub deep_in_expr : E.ExprKind-F Deep Deep Deep Deep Deep Deep → Deep
deep_in_expr (E.Paren e) levels = deep_node e levels
deep_in_expr (E.Tuple es) levels = deep_all deep_node es levels
deep_in_expr (E.Cells es tail) levels = deep_cells deep_node es tail levels
deep_in_expr (E.Comp e qualifiers) levels = deep_node e levels ++ deep_all deep_part qualifiers levels
deep_in_expr (E.Unary op e) levels = deep_node e levels
deep_in_expr (E.Binary op a b) levels = deep_node a levels ++ deep_node b levels
deep_in_expr (E.Call prefix name args) levels = deep_all deep_node args levels
deep_in_expr (E.Apply f args) levels = deep_node f levels ++ deep_all deep_node args levels
deep_in_expr (E.MapNew assocs) levels = deep_all deep_part assocs levels
deep_in_expr (E.MapChange e assocs) levels = deep_node e levels ++ deep_all deep_part assocs levels
deep_in_expr (E.RecNew name tag fields) levels = deep_all (deep_second deep_node) fields levels
deep_in_expr (E.RecChange e name tag fields) levels = deep_node e levels ++ deep_all (deep_second deep_node) fields levels
deep_in_expr (E.RecGet e name tag field) levels = deep_node e levels
deep_in_expr (E.Begin items) levels = deep_all deep_part items levels
deep_in_expr (E.Case e clauses) levels = deep_node e levels ++ deep_all deep_part clauses levels
deep_in_expr (E.If clauses) levels = deep_all deep_part clauses levels
deep_in_expr (E.Fun clauses) levels = deep_all deep_part clauses levels
deep_in_expr (E.Try body of_clauses catches after) levels = deep_all deep_part body levels ++ (deep_all deep_part of_clauses levels ++ (deep_all deep_part catches levels ++ deep_optional (deep_all deep_part) after levels))
deep_in_expr _ levels = []

-- an element of a body
abbrev pub deep_in_item : E.ItemKind-F Deep Deep Deep Deep Deep Deep → Deep
deep_in_item (E.Value e) levels = deep_node e levels
deep_in_item (E.Match p e) levels = pattern_deep p levels ++ deep_node e levels

-- a qualifier
abbrev pub deep_in_qualifier : E.QualifierKind-F Deep Deep Deep Deep Deep Deep → Deep
deep_in_qualifier (E.Generator p e) levels = pattern_deep p levels ++ deep_node e levels
deep_in_qualifier (E.Filter e) levels = deep_node e levels

-- an association
abbrev pub deep_in_assoc : E.AssocKind-F Deep Deep Deep Deep Deep Deep → Deep
deep_in_assoc a levels = deep_node a.key levels ++ deep_node a.value levels

-- a clause of a `catch` part
abbrev pub deep_in_catch : E.CatchKind-F Deep Deep Deep Deep Deep Deep → Deep
deep_in_catch c levels = deep_optional pattern_deep c.class levels ++ deep_part c.clause levels

-- what takes one level of each kind of node, as the folds do
abbrev pub OfDeepLayers : Type 0 → Type 0
OfDeepLayers R = (E.ExprKind-F Deep Deep Deep Deep Deep Deep → Deep)
    → (E.ItemKind-F Deep Deep Deep Deep Deep Deep → Deep)
    → (E.QualifierKind-F Deep Deep Deep Deep Deep Deep → Deep)
    → (E.AssocKind-F Deep Deep Deep Deep Deep Deep → Deep)
    → (E.CatchKind-F Deep Deep Deep Deep Deep Deep → Deep)
    → (E.ClauseKind-F Deep Deep Deep Deep Deep Deep → Deep)
    → R

-- what is nested deep in each level
abbrev pub deep_by_layers : {R : Type 0} → OfDeepLayers R → R
deep_by_layers of = of deep_in_expr deep_in_item deep_in_qualifier deep_in_assoc deep_in_catch deep_in_clause

unfoldable pub expr_kind_deep : ExprKind → Deep
expr_kind_deep e = deep_by_layers (fold-ExprKind Deep Deep Deep Deep Deep Deep) e

unfoldable pub item_kind_deep : ItemKind → Deep
item_kind_deep i = deep_by_layers (fold-ItemKind Deep Deep Deep Deep Deep Deep) i

unfoldable pub qualifier_kind_deep : QualifierKind → Deep
qualifier_kind_deep q = deep_by_layers (fold-QualifierKind Deep Deep Deep Deep Deep Deep) q

unfoldable pub assoc_kind_deep : AssocKind → Deep
assoc_kind_deep a = deep_by_layers (fold-AssocKind Deep Deep Deep Deep Deep Deep) a

unfoldable pub catch_kind_deep : CatchKind → Deep
catch_kind_deep c = deep_by_layers (fold-CatchKind Deep Deep Deep Deep Deep Deep) c

unfoldable pub clause_kind_deep : ClauseKind → Deep
clause_kind_deep c = deep_by_layers (fold-ClauseKind Deep Deep Deep Deep Deep Deep) c

-- the places of an expression's nodes that are nested deeper than so many levels
abbrev pub expr_deep : Node ExprKind → Deep
expr_deep e = deep_node (record { place = e.place; marks = e.marks; kind = expr_kind_deep e.kind })

-- the same of an element of a body, which counts as no level
abbrev pub item_deep : Node ItemKind → Deep
item_deep i levels = item_kind_deep i.kind levels

-- of a qualifier
abbrev pub qualifier_deep : Node QualifierKind → Deep
qualifier_deep q levels = qualifier_kind_deep q.kind levels

-- of an association
abbrev pub assoc_deep : Node AssocKind → Deep
assoc_deep a levels = assoc_kind_deep a.kind levels

-- of a clause of a `catch` part
abbrev pub catch_deep : Node CatchKind → Deep
catch_deep c levels = catch_kind_deep c.kind levels

-- of a clause
abbrev pub clause_deep : Node ClauseKind → Deep
clause_deep c levels = clause_kind_deep c.kind levels

-- the most levels
abbrev pub nesting_limit : ℕ
nesting_limit = 256

-- a pattern nested at most so many levels deep
abbrev pub IsPatternWithin : ℕ → Node PatternKind → Type 0
IsPatternWithin levels p = pattern_deep p levels ≡ []

-- an expression nested at most so many levels deep
abbrev pub IsExprWithin : ℕ → Node ExprKind → Type 0
IsExprWithin levels e = expr_deep e levels ≡ []
