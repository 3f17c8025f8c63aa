-- The equations of the limit on integers of expressions, and what each form of a flat module's expression has.
use Rattle.std.proofs.Common.{◌≡◌, refl, sym, ◌∙◌, ap, ℤ, List, [], ◌∷◌}
use Rattle.std.specs.Prelude.{Bool, true, ◌&&◌, Option, Some, None}
use Rattle.std.proofs.lemmas.Bool.{and_parts}
use Rattle.type_terms.specs.Keys.{Name}
use Rattle.erl_tree.specs.declared.token.Node.{Node}
use Rattle.erl_tree.specs.declared.expr.BinaryOp.{BinaryOp}
use Rattle.erl_tree.specs.declared.expr.ExprKind.{ExprKind, out-ExprKind, roll-ExprKind, roll-out-ExprKind, fold-ExprKind, fold-roll-ExprKind}
use Rattle.erl_tree.specs.declared.expr.ItemKind.{ItemKind}
use Rattle.erl_tree.specs.declared.expr.ClauseKind.{ClauseKind}
use Rattle.erl_tree.specs.declared.expr.QualifierKind.{QualifierKind}
use Rattle.erl_tree.specs.declared.expr.AssocKind.{AssocKind}
use Rattle.erl_tree.specs.declared.expr.CatchKind.{CatchKind}
use Rattle.erl_tree.specs.declared.expr.ExprKind.TheVariants as X
use Rattle.erl_tree.specs.declared.expr.ExprKind.TheOpen as E
use Rattle.erl_tree.specs.declared.expr.ExprKind.TheShapes as S
use Rattle.erl_tree.specs.Lists.{Every}
use Rattle.flat_modules.specs.Grammar.{IsExpr}
use Rattle.flat_modules.proofs.GrammarLaws.{IsArithmetic, flat_layer, expr-layer, expr-layer-at}
use Rattle.cert_checker.specs.FlatTypes.{is_limited, all_limited, limited_expr_layer, is_limited_expr, IsFlatExpr}

-- ---- the limits of expressions

abbrev IsLimitedExpr : Node ExprKind → Type 0
IsLimitedExpr e = is_limited_expr e.kind ≡ true

pub limited-Int : (n : ℤ) → is_limited_expr (X.Int n) ≡ is_limited n
unfolding is_limited_expr
limited-Int n = ap (λ k. is_limited_expr k) (sym (X.rolls-Int n)) ∙ fold-roll-ExprKind Bool (Unit {0}) (Unit {0}) (Unit {0}) (Unit {0}) (Unit {0}) limited_expr_layer (λ i. tt) (λ q. tt) (λ a. tt) (λ c. tt) (λ c. tt) (E.Int n)

pub limited-Atom : (a : Name) → is_limited_expr (X.Atom a) ≡ true
unfolding is_limited_expr
limited-Atom a = ap (λ k. is_limited_expr k) (sym (X.rolls-Atom a)) ∙ fold-roll-ExprKind Bool (Unit {0}) (Unit {0}) (Unit {0}) (Unit {0}) (Unit {0}) limited_expr_layer (λ i. tt) (λ q. tt) (λ a. tt) (λ c. tt) (λ c. tt) (E.Atom a)

pub limited-Var : (x : Name) → is_limited_expr (X.Var x) ≡ true
unfolding is_limited_expr
limited-Var x = ap (λ k. is_limited_expr k) (sym (X.rolls-Var x)) ∙ fold-roll-ExprKind Bool (Unit {0}) (Unit {0}) (Unit {0}) (Unit {0}) (Unit {0}) limited_expr_layer (λ i. tt) (λ q. tt) (λ a. tt) (λ c. tt) (λ c. tt) (E.Var x)

pub limited-Paren : (e : Node ExprKind) → is_limited_expr (X.Paren e) ≡ is_limited_expr e.kind
unfolding is_limited_expr
limited-Paren e = ap (λ k. is_limited_expr k) (sym (X.rolls-Paren e)) ∙ fold-roll-ExprKind Bool (Unit {0}) (Unit {0}) (Unit {0}) (Unit {0}) (Unit {0}) limited_expr_layer (λ i. tt) (λ q. tt) (λ a. tt) (λ c. tt) (λ c. tt) (E.Paren e)

pub limited-Binary : (op : BinaryOp) (a b : Node ExprKind) → is_limited_expr (X.Binary op a b) ≡ (is_limited_expr a.kind && is_limited_expr b.kind)
unfolding is_limited_expr
limited-Binary op a b = ap (λ k. is_limited_expr k) (sym (X.rolls-Binary op a b)) ∙ fold-roll-ExprKind Bool (Unit {0}) (Unit {0}) (Unit {0}) (Unit {0}) (Unit {0}) limited_expr_layer (λ i. tt) (λ q. tt) (λ a. tt) (λ c. tt) (λ c. tt) (E.Binary op a b)

-- whether each integer of all of some expressions is in the limit
abbrev pub are_limited : List (Node ExprKind) → Bool
are_limited [] = true
are_limited (e ∷ es) = is_limited_expr e.kind && are_limited es

limited-each : (es : List (Node ExprKind)) → all_limited (S.former-ExprKind-Tuple-0.map ExprKind Bool (fold-ExprKind Bool (Unit {0}) (Unit {0}) (Unit {0}) (Unit {0}) (Unit {0}) limited_expr_layer (λ i. tt) (λ q. tt) (λ a. tt) (λ c. tt) (λ c. tt)) es) ≡ are_limited es
unfolding is_limited_expr
limited-each [] = refl
limited-each (e ∷ es) = ap (λ b. is_limited_expr e.kind && b) (limited-each es)

pub limited-Call : (name : Name) (args : List (Node ExprKind)) → is_limited_expr (X.Call None name args) ≡ are_limited args
unfolding is_limited_expr
limited-Call name args = ap (λ k. is_limited_expr k) (sym (X.rolls-Call None name args)) ∙ (fold-roll-ExprKind Bool (Unit {0}) (Unit {0}) (Unit {0}) (Unit {0}) (Unit {0}) limited_expr_layer (λ i. tt) (λ q. tt) (λ a. tt) (λ c. tt) (λ c. tt) (E.Call None name args) ∙ limited-each args)

-- ---- what each form has

flat-each : (es : List (Node ExprKind)) → Every IsExpr es → are_limited es ≡ true → Every IsFlatExpr es
flat-each [] w l = tt
flat-each (e ∷ es) w l = let p : (is_limited_expr e.kind ≡ true) × (are_limited es ≡ true) = and_parts _ _ l in (record { well_formed = w.0; limited = p.0 }, flat-each es w.1 p.1)

pub flat-Int : (e : Node ExprKind) (n : ℤ) → IsFlatExpr e → e.kind ≡ X.Int n → is_limited n ≡ true
flat-Int e n f q = sym (ap is_limited_expr q ∙ limited-Int n) ∙ f.limited

pub flat-Paren : (e u : Node ExprKind) → IsFlatExpr e → e.kind ≡ X.Paren u → IsFlatExpr u
flat-Paren e u f q = record { well_formed = expr-layer-at e (E.Paren u) (ap out-ExprKind q ∙ X.outs-Paren u) f.well_formed; limited = sym (ap is_limited_expr q ∙ limited-Paren u) ∙ f.limited }

pub flat-Binary : (e a b : Node ExprKind) (op : BinaryOp) → IsFlatExpr e → e.kind ≡ X.Binary op a b → IsFlatExpr a × IsFlatExpr b
flat-Binary e a b op f q =
    let w : IsArithmetic op × IsExpr a × IsExpr b = expr-layer-at e (E.Binary op a b) (ap out-ExprKind q ∙ X.outs-Binary op a b) f.well_formed in
    let l : (is_limited_expr a.kind ≡ true) × (is_limited_expr b.kind ≡ true) = and_parts _ _ (sym (ap is_limited_expr q ∙ limited-Binary op a b) ∙ f.limited) in
    (record { well_formed = w.1; limited = l.0 }, record { well_formed = w.2; limited = l.1 })

-- a call by name has no prefix
pub flat-Call : (e : Node ExprKind) (prefix : Option Name) (name : Name) (args : List (Node ExprKind)) → IsFlatExpr e → e.kind ≡ X.Call prefix name args → (e.kind ≡ X.Call None name args) × Every IsFlatExpr args
flat-Call e prefix name args f q = go prefix q (expr-layer-at e (E.Call prefix name args) (ap out-ExprKind q ∙ X.outs-Call prefix name args) f.well_formed)
  where
    go : (prefix : Option Name) → e.kind ≡ X.Call prefix name args → flat_layer (E.Call prefix name args) → (e.kind ≡ X.Call None name args) × Every IsFlatExpr args
    go None q w = (q, flat-each args w (sym (ap is_limited_expr q ∙ limited-Call name args) ∙ f.limited))
    go (Some p) q w = absurd w

-- an expression of a flat module is of one of the forms
pub expr-forms : (e : Node ExprKind) → IsFlatExpr e → ((a : Name) → e.kind ≡ X.Atom a → ⊥) → ((n : ℤ) → e.kind ≡ X.Int n → ⊥) → ((x : Name) → e.kind ≡ X.Var x → ⊥) → ((u : Node ExprKind) → e.kind ≡ X.Paren u → ⊥) → ((op : BinaryOp) (a b : Node ExprKind) → e.kind ≡ X.Binary op a b → ⊥) → ((prefix : Option Name) (name : Name) (args : List (Node ExprKind)) → e.kind ≡ X.Call prefix name args → ⊥) → ⊥
expr-forms e f atom int var paren binary call = go (out-ExprKind e.kind) refl (expr-layer e f.well_formed)
  where
    back : (l : E.ExprKind-F ExprKind ItemKind QualifierKind AssocKind CatchKind ClauseKind) → out-ExprKind e.kind ≡ l → e.kind ≡ roll-ExprKind l
    back l q = sym (roll-out-ExprKind e.kind) ∙ ap roll-ExprKind q

    go : (l : E.ExprKind-F ExprKind ItemKind QualifierKind AssocKind CatchKind ClauseKind) → out-ExprKind e.kind ≡ l → flat_layer l → ⊥
    go (E.Atom a) q h = atom a (back (E.Atom a) q ∙ X.rolls-Atom a)
    go (E.Int n) q h = int n (back (E.Int n) q ∙ X.rolls-Int n)
    go (E.Var x) q h = var x (back (E.Var x) q ∙ X.rolls-Var x)
    go (E.Paren u) q h = paren u (back (E.Paren u) q ∙ X.rolls-Paren u)
    go (E.Binary op a b) q h = binary op a b (back (E.Binary op a b) q ∙ X.rolls-Binary op a b)
    go (E.Call p n as_) q h = call p n as_ (back (E.Call p n as_) q ∙ X.rolls-Call p n as_)
    go _ q h = absurd h
