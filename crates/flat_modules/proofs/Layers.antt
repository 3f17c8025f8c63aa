-- What the test for flat modules says of one level of a type or an expression.
use Rattle.std.proofs.Common.{◌≡◌, refl, ap, sym, ◌∙◌, List, [], ◌∷◌, Bool, true, false, ◌&&◌, is_none}
use Rattle.std.specs.Prelude.{Option, None}
use Rattle.std.specs.List.{list_all}
use Rattle.std.proofs.lemmas.Bool.{and_parts, and_from, true≢false}
use Rattle.type_terms.specs.Keys.{Name}
use Rattle.erl_tree.specs.declared.token.Node.{Node}
use Rattle.erl_tree.specs.declared.pattern.LiteralKind.{LiteralKind}
use Rattle.erl_tree.specs.declared.type_expr.TypeKind.{TypeKind, out-TypeKind, map-TypeKind, fold_out-TypeKind}
use Rattle.erl_tree.specs.declared.type_expr.TypeKind.TheVariants as YV
use Rattle.erl_tree.specs.declared.type_expr.TypeKind.TheOpen as Y
use Rattle.erl_tree.specs.declared.type_expr.MapPart.{MapPart}
use Rattle.erl_tree.specs.declared.expr.BinaryOp.{BinaryOp}
use Rattle.erl_tree.specs.declared.expr.ExprKind.{ExprKind, out-ExprKind, map-ExprKind, fold_out-ExprKind}
use Rattle.erl_tree.specs.declared.expr.ExprKind.TheVariants as EV
use Rattle.erl_tree.specs.declared.expr.ExprKind.TheOpen as E
use Rattle.erl_tree.specs.declared.expr.ExprKind.TheShapes as S
use Rattle.erl_tree.specs.declared.expr.ItemKind.{ItemKind}
use Rattle.erl_tree.specs.declared.expr.ClauseKind.{ClauseKind}
use Rattle.erl_tree.specs.declared.expr.QualifierKind.{QualifierKind}
use Rattle.erl_tree.specs.declared.expr.AssocKind.{AssocKind}
use Rattle.erl_tree.specs.declared.expr.CatchKind.{CatchKind}
use Rattle.flat_modules.specs.Flat.{known, has_none, is_flat_end, flat_type_layer, is_flat_type_kind, is_flat_type, is_flat_operator, flat_expr_layer, is_flat_expr_kind, is_flat_expr}

-- ---- types

-- one level of a type, of whose parts nothing is said
abbrev pub TypeLayer : Type 0
TypeLayer = Y.TypeKind-F TypeKind MapPart

-- what the test says of one level, by what it says of its parts
abbrev pub flat_type_of : TypeLayer → Bool
flat_type_of (Y.Atom a) = true
flat_type_of (Y.Int n) = true
flat_type_of (Y.NegInt n) = true
flat_type_of (Y.Paren t) = is_flat_type t
flat_type_of (Y.Or t u) = is_flat_type t && is_flat_type u
flat_type_of (Y.Range low high) = is_flat_end low.kind && is_flat_end high.kind
flat_type_of (Y.Use prefix name args) = is_none prefix && has_none args
flat_type_of _ = false

none_in_layer : (args : List (Node TypeKind)) → has_none (S.former-ExprKind-Tuple-0.map TypeKind Bool is_flat_type_kind args) ≡ has_none args
none_in_layer [] = refl
none_in_layer (t ∷ ts) = refl

type_same : (l : TypeLayer) → flat_type_layer (map-TypeKind TypeKind MapPart Bool (Unit {0}) is_flat_type_kind (λ part. tt) l) ≡ flat_type_of l
type_same (Y.Use prefix name args) = ap (λ b. is_none prefix && b) (none_in_layer args)
type_same _ = refl

pub flat_type-out : (k : TypeKind) → is_flat_type_kind k ≡ flat_type_of (out-TypeKind k)
unfolding is_flat_type_kind
flat_type-out k = fold_out-TypeKind Bool (Unit {0}) flat_type_layer (λ part. tt) k ∙ type_same (out-TypeKind k)

pub flat_type-Atom : (a : Name) → is_flat_type_kind (YV.Atom a) ≡ true
flat_type-Atom a = flat_type-out (YV.Atom a) ∙ ap flat_type_of (YV.outs-Atom a)

pub flat_type-Paren : (t : Node TypeKind) → is_flat_type_kind (YV.Paren t) ≡ is_flat_type t
flat_type-Paren t = flat_type-out (YV.Paren t) ∙ ap flat_type_of (YV.outs-Paren t)

pub flat_type-Or : (t u : Node TypeKind) → is_flat_type_kind (YV.Or t u) ≡ (is_flat_type t && is_flat_type u)
flat_type-Or t u = flat_type-out (YV.Or t u) ∙ ap flat_type_of (YV.outs-Or t u)

pub flat_type-Range : (low high : Node LiteralKind) → is_flat_type_kind (YV.Range low high) ≡ (is_flat_end low.kind && is_flat_end high.kind)
flat_type-Range low high = flat_type-out (YV.Range low high) ∙ ap flat_type_of (YV.outs-Range low high)

pub flat_type-Use : (prefix : Option Name) (name : Name) (args : List (Node TypeKind)) → is_flat_type_kind (YV.Use prefix name args) ≡ (is_none prefix && has_none args)
flat_type-Use prefix name args = flat_type-out (YV.Use prefix name args) ∙ ap flat_type_of (YV.outs-Use prefix name args)

pub ruleset type_laws = (flat_type-Paren, flat_type-Or, flat_type-Range, flat_type-Use, flat_type-out)

-- the parts of one level of a type that passes the test
abbrev pub FlatType : TypeLayer → Type 0
FlatType (Y.Atom a) = Unit {0}
FlatType (Y.Int n) = Unit {0}
FlatType (Y.NegInt n) = Unit {0}
FlatType (Y.Paren t) = is_flat_type t ≡ true
FlatType (Y.Or t u) = (is_flat_type t ≡ true) × (is_flat_type u ≡ true)
FlatType (Y.Range low high) = (is_flat_end low.kind ≡ true) × (is_flat_end high.kind ≡ true)
FlatType (Y.Use None name []) = Unit {0}
FlatType _ = ⊥

type_parts : (l : TypeLayer) → flat_type_of l ≡ true → FlatType l
type_parts (Y.Atom a) h = tt
type_parts (Y.Int n) h = tt
type_parts (Y.NegInt n) h = tt
type_parts (Y.Paren t) h = h
type_parts (Y.Or t u) h = and_parts _ _ h
type_parts (Y.Range low high) h = and_parts _ _ h
type_parts (Y.Use None name []) h = tt
type_parts _ h = absurd (true≢false (sym h))

parts_type : (l : TypeLayer) → FlatType l → flat_type_of l ≡ true
parts_type (Y.Atom a) h = refl
parts_type (Y.Int n) h = refl
parts_type (Y.NegInt n) h = refl
parts_type (Y.Paren t) h = h
parts_type (Y.Or t u) h = and_from _ _ h.0 h.1
parts_type (Y.Range low high) h = and_from _ _ h.0 h.1
parts_type (Y.Use None name []) h = refl
parts_type _ h = absurd h

-- of a kind with such a level
pub type-parts : (k : TypeKind) (l : TypeLayer) → out-TypeKind k ≡ l → is_flat_type_kind k ≡ true → FlatType l
type-parts k l e h = type_parts l (sym (flat_type-out k ∙ ap flat_type_of e) ∙ h)

pub type-passes : (k : TypeKind) (l : TypeLayer) → out-TypeKind k ≡ l → FlatType l → is_flat_type_kind k ≡ true
type-passes k l e h = flat_type-out k ∙ (ap flat_type_of e ∙ parts_type l h)

-- ---- expressions

-- one level of an expression, of whose parts nothing is said
abbrev pub ExprLayer : Type 0
ExprLayer = E.ExprKind-F ExprKind ItemKind QualifierKind AssocKind CatchKind ClauseKind

-- what the test says of one level, by what it says of its parts
abbrev pub flat_expr_of : ExprLayer → Bool
flat_expr_of (E.Int n) = true
flat_expr_of (E.Atom a) = true
flat_expr_of (E.Var x) = true
flat_expr_of (E.Paren e) = is_flat_expr e
flat_expr_of (E.Binary op a b) = is_flat_operator op && (is_flat_expr a && is_flat_expr b)
flat_expr_of (E.Call prefix name args) = is_none prefix && list_all is_flat_expr args
flat_expr_of _ = false

all_in_layer : (args : List (Node ExprKind)) → list_all known (S.former-ExprKind-Tuple-0.map ExprKind Bool is_flat_expr_kind args) ≡ list_all is_flat_expr args
all_in_layer [] = refl
all_in_layer (e ∷ es) = ap (λ b. is_flat_expr e && b) (all_in_layer es)

expr_same : (l : ExprLayer) → flat_expr_layer (map-ExprKind ExprKind ItemKind QualifierKind AssocKind CatchKind ClauseKind Bool (Unit {0}) (Unit {0}) (Unit {0}) (Unit {0}) (Unit {0}) is_flat_expr_kind (λ i. tt) (λ q. tt) (λ a. tt) (λ c. tt) (λ c. tt) l) ≡ flat_expr_of l
expr_same (E.Call prefix name args) = ap (λ b. is_none prefix && b) (all_in_layer args)
expr_same _ = refl

pub flat_expr-out : (k : ExprKind) → is_flat_expr_kind k ≡ flat_expr_of (out-ExprKind k)
unfolding is_flat_expr_kind
flat_expr-out k = fold_out-ExprKind Bool (Unit {0}) (Unit {0}) (Unit {0}) (Unit {0}) (Unit {0}) flat_expr_layer (λ i. tt) (λ q. tt) (λ a. tt) (λ c. tt) (λ c. tt) k ∙ expr_same (out-ExprKind k)

pub flat_expr-Paren : (e : Node ExprKind) → is_flat_expr_kind (EV.Paren e) ≡ is_flat_expr e
flat_expr-Paren e = flat_expr-out (EV.Paren e) ∙ ap flat_expr_of (EV.outs-Paren e)

pub flat_expr-Binary : (op : BinaryOp) (a b : Node ExprKind) → is_flat_expr_kind (EV.Binary op a b) ≡ (is_flat_operator op && (is_flat_expr a && is_flat_expr b))
flat_expr-Binary op a b = flat_expr-out (EV.Binary op a b) ∙ ap flat_expr_of (EV.outs-Binary op a b)

pub flat_expr-Call : (prefix : Option Name) (name : Name) (args : List (Node ExprKind)) → is_flat_expr_kind (EV.Call prefix name args) ≡ (is_none prefix && list_all is_flat_expr args)
flat_expr-Call prefix name args = flat_expr-out (EV.Call prefix name args) ∙ ap flat_expr_of (EV.outs-Call prefix name args)

pub ruleset expr_laws = (flat_expr-Paren, flat_expr-Binary, flat_expr-Call, flat_expr-out)

-- the parts of one level of an expression that passes the test
abbrev pub FlatExpr : ExprLayer → Type 0
FlatExpr (E.Int n) = Unit {0}
FlatExpr (E.Atom a) = Unit {0}
FlatExpr (E.Var x) = Unit {0}
FlatExpr (E.Paren e) = is_flat_expr e ≡ true
FlatExpr (E.Binary op a b) = (is_flat_operator op ≡ true) × (is_flat_expr a ≡ true) × (is_flat_expr b ≡ true)
FlatExpr (E.Call None name args) = list_all is_flat_expr args ≡ true
FlatExpr _ = ⊥

operation_parts : (op : BinaryOp) (a b : Node ExprKind) → flat_expr_of (E.Binary op a b) ≡ true → FlatExpr (E.Binary op a b)
operation_parts op a b h =
    let p : (is_flat_operator op ≡ true) × ((is_flat_expr a && is_flat_expr b) ≡ true) = and_parts _ _ h in
    let q : (is_flat_expr a ≡ true) × (is_flat_expr b ≡ true) = and_parts _ _ p.1 in
    (p.0, q.0, q.1)

expr_parts : (l : ExprLayer) → flat_expr_of l ≡ true → FlatExpr l
expr_parts (E.Int n) h = tt
expr_parts (E.Atom a) h = tt
expr_parts (E.Var x) h = tt
expr_parts (E.Paren e) h = h
expr_parts (E.Binary op a b) h = operation_parts op a b h
expr_parts (E.Call None name args) h = h
expr_parts _ h = absurd (true≢false (sym h))

parts_expr : (l : ExprLayer) → FlatExpr l → flat_expr_of l ≡ true
parts_expr (E.Int n) h = refl
parts_expr (E.Atom a) h = refl
parts_expr (E.Var x) h = refl
parts_expr (E.Paren e) h = h
parts_expr (E.Binary op a b) h = and_from _ _ h.0 (and_from _ _ h.1 h.2)
parts_expr (E.Call None name args) h = h
parts_expr _ h = absurd h

-- of a kind with such a level
pub expr-parts : (k : ExprKind) (l : ExprLayer) → out-ExprKind k ≡ l → is_flat_expr_kind k ≡ true → FlatExpr l
expr-parts k l e h = expr_parts l (sym (flat_expr-out k ∙ ap flat_expr_of e) ∙ h)

pub expr-passes : (k : ExprKind) (l : ExprLayer) → out-ExprKind k ≡ l → FlatExpr l → is_flat_expr_kind k ≡ true
expr-passes k l e h = flat_expr-out k ∙ (ap flat_expr_of e ∙ parts_expr l h)
