-- The equations of the tokens of types and expressions: one for each form of a flat module.
use Rattle.std.proofs.Common.{◌≡◌, refl, ap, sym, ◌∙◌, ℤ, List, [], ◌∷◌, ◌++◌, map}
use Rattle.std.specs.Prelude.{None, codes}
use Rattle.type_terms.specs.Keys.{Name}
use Rattle.erl_tree.specs.declared.token.Place.{Place}
use Rattle.erl_tree.specs.declared.token.Node.{Node}
use Rattle.erl_tree.specs.declared.token.Token.TheVariants as T
use Rattle.erl_tree.specs.declared.pattern.LiteralKind.{LiteralKind}
use Rattle.erl_tree.specs.declared.type_expr.TypeKind.{TypeKind, fold-roll-TypeKind}
use Rattle.erl_tree.specs.declared.type_expr.TypeKind.TheVariants as Y
use Rattle.erl_tree.specs.declared.type_expr.TypeKind.TheOpen as L
use Rattle.erl_tree.specs.declared.expr.BinaryOp.{BinaryOp}
use Rattle.erl_tree.specs.declared.expr.ExprKind.{ExprKind, fold-ExprKind, fold-roll-ExprKind}
use Rattle.erl_tree.specs.declared.expr.ExprKind.TheVariants as X
use Rattle.erl_tree.specs.declared.expr.ExprKind.TheOpen as E
use Rattle.erl_tree.specs.declared.expr.ExprKind.TheShapes as S
use Rattle.flat_modules.specs.Spelling.{at, atom, mark, Shown, shown, literal_tokens, type_layer, type_shown, type_tokens, arguments_tokens, operator_text, operation_tokens, expr_layer, expr_shown, expr_tokens}

-- ---- the tokens of types

pub type_shown-Atom : (a : Name) (p : Place) → type_shown (Y.Atom a) (p ∷ []) ≡ atom a p ∷ []
unfolding type_shown
type_shown-Atom a p = ap (λ k. type_shown k (p ∷ [])) (sym (Y.rolls-Atom a)) ∙ ap (λ (f : Shown). f (p ∷ [])) (fold-roll-TypeKind Shown (Unit {0}) type_layer (λ part. tt) (L.Atom a))

pub type_shown-Int : (n : ℤ) (p : Place) → type_shown (Y.Int n) (p ∷ []) ≡ at (T.Int n) p ∷ []
unfolding type_shown
type_shown-Int n p = ap (λ k. type_shown k (p ∷ [])) (sym (Y.rolls-Int n)) ∙ ap (λ (f : Shown). f (p ∷ [])) (fold-roll-TypeKind Shown (Unit {0}) type_layer (λ part. tt) (L.Int n))

pub type_shown-NegInt : (n : ℤ) (h p : Place) → type_shown (Y.NegInt n) (h ∷ p ∷ []) ≡ mark (codes "-") h ∷ at (T.Int n) p ∷ []
unfolding type_shown
type_shown-NegInt n h p = ap (λ k. type_shown k (h ∷ p ∷ [])) (sym (Y.rolls-NegInt n)) ∙ ap (λ (f : Shown). f (h ∷ p ∷ [])) (fold-roll-TypeKind Shown (Unit {0}) type_layer (λ part. tt) (L.NegInt n))

pub type_shown-Paren : (t : Node TypeKind) (o c : Place) → type_shown (Y.Paren t) (o ∷ c ∷ []) ≡ mark (codes "(") o ∷ (type_tokens t ++ mark (codes ")") c ∷ [])
unfolding type_shown
type_shown-Paren t o c = ap (λ k. type_shown k (o ∷ c ∷ [])) (sym (Y.rolls-Paren t)) ∙ ap (λ (f : Shown). f (o ∷ c ∷ [])) (fold-roll-TypeKind Shown (Unit {0}) type_layer (λ part. tt) (L.Paren t))

pub type_shown-Or : (t u : Node TypeKind) (m : Place) → type_shown (Y.Or t u) (m ∷ []) ≡ type_tokens t ++ mark (codes "|") m ∷ type_tokens u
unfolding type_shown
type_shown-Or t u m = ap (λ k. type_shown k (m ∷ [])) (sym (Y.rolls-Or t u)) ∙ ap (λ (f : Shown). f (m ∷ [])) (fold-roll-TypeKind Shown (Unit {0}) type_layer (λ part. tt) (L.Or t u))

pub type_shown-Range : (low high : Node LiteralKind) (m : Place) → type_shown (Y.Range low high) (m ∷ []) ≡ literal_tokens low ++ mark (codes "..") m ∷ literal_tokens high
unfolding type_shown
type_shown-Range low high m = ap (λ k. type_shown k (m ∷ [])) (sym (Y.rolls-Range low high)) ∙ ap (λ (f : Shown). f (m ∷ [])) (fold-roll-TypeKind Shown (Unit {0}) type_layer (λ part. tt) (L.Range low high))

pub type_shown-Use : (name : Name) (p o c : Place) → type_shown (Y.Use None name []) (p ∷ o ∷ c ∷ []) ≡ atom name p ∷ mark (codes "(") o ∷ mark (codes ")") c ∷ []
unfolding type_shown
type_shown-Use name p o c = ap (λ k. type_shown k (p ∷ o ∷ c ∷ [])) (sym (Y.rolls-Use None name [])) ∙ ap (λ (f : Shown). f (p ∷ o ∷ c ∷ [])) (fold-roll-TypeKind Shown (Unit {0}) type_layer (λ part. tt) (L.Use None name []))

pub ruleset type_tokens_laws = (type_shown-Atom, type_shown-Int, type_shown-NegInt, type_shown-Paren, type_shown-Or, type_shown-Range, type_shown-Use)

-- ---- the tokens of expressions

shown_args : (es : List (Node ExprKind)) → map shown (S.former-ExprKind-Tuple-0.map ExprKind Shown (fold-ExprKind Shown (Unit {0}) (Unit {0}) (Unit {0}) (Unit {0}) (Unit {0}) expr_layer (λ i. tt) (λ q. tt) (λ a. tt) (λ c. tt) (λ c. tt)) es) ≡ map expr_tokens es
unfolding expr_shown
shown_args [] = refl
shown_args (e ∷ es) = ap (λ ts. expr_tokens e ∷ ts) (shown_args es)

pub expr_shown-Int : (n : ℤ) (p : Place) → expr_shown (X.Int n) (p ∷ []) ≡ at (T.Int n) p ∷ []
unfolding expr_shown
expr_shown-Int n p = ap (λ k. expr_shown k (p ∷ [])) (sym (X.rolls-Int n)) ∙ ap (λ (f : Shown). f (p ∷ [])) (fold-roll-ExprKind Shown (Unit {0}) (Unit {0}) (Unit {0}) (Unit {0}) (Unit {0}) expr_layer (λ i. tt) (λ q. tt) (λ a. tt) (λ c. tt) (λ c. tt) (E.Int n))

pub expr_shown-Atom : (a : Name) (p : Place) → expr_shown (X.Atom a) (p ∷ []) ≡ atom a p ∷ []
unfolding expr_shown
expr_shown-Atom a p = ap (λ k. expr_shown k (p ∷ [])) (sym (X.rolls-Atom a)) ∙ ap (λ (f : Shown). f (p ∷ [])) (fold-roll-ExprKind Shown (Unit {0}) (Unit {0}) (Unit {0}) (Unit {0}) (Unit {0}) expr_layer (λ i. tt) (λ q. tt) (λ a. tt) (λ c. tt) (λ c. tt) (E.Atom a))

pub expr_shown-Var : (x : Name) (p : Place) → expr_shown (X.Var x) (p ∷ []) ≡ at (T.Var x) p ∷ []
unfolding expr_shown
expr_shown-Var x p = ap (λ k. expr_shown k (p ∷ [])) (sym (X.rolls-Var x)) ∙ ap (λ (f : Shown). f (p ∷ [])) (fold-roll-ExprKind Shown (Unit {0}) (Unit {0}) (Unit {0}) (Unit {0}) (Unit {0}) expr_layer (λ i. tt) (λ q. tt) (λ a. tt) (λ c. tt) (λ c. tt) (E.Var x))

pub expr_shown-Paren : (e : Node ExprKind) (o c : Place) → expr_shown (X.Paren e) (o ∷ c ∷ []) ≡ mark (codes "(") o ∷ (expr_tokens e ++ mark (codes ")") c ∷ [])
unfolding expr_shown
expr_shown-Paren e o c = ap (λ k. expr_shown k (o ∷ c ∷ [])) (sym (X.rolls-Paren e)) ∙ ap (λ (f : Shown). f (o ∷ c ∷ [])) (fold-roll-ExprKind Shown (Unit {0}) (Unit {0}) (Unit {0}) (Unit {0}) (Unit {0}) expr_layer (λ i. tt) (λ q. tt) (λ a. tt) (λ c. tt) (λ c. tt) (E.Paren e))

pub expr_shown-Binary : (op : BinaryOp) (a b : Node ExprKind) (m : Place) → expr_shown (X.Binary op a b) (m ∷ []) ≡ operation_tokens (operator_text op) (expr_tokens a) m (expr_tokens b)
unfolding expr_shown
expr_shown-Binary op a b m = ap (λ k. expr_shown k (m ∷ [])) (sym (X.rolls-Binary op a b)) ∙ ap (λ (f : Shown). f (m ∷ [])) (fold-roll-ExprKind Shown (Unit {0}) (Unit {0}) (Unit {0}) (Unit {0}) (Unit {0}) expr_layer (λ i. tt) (λ q. tt) (λ a. tt) (λ c. tt) (λ c. tt) (E.Binary op a b))

pub expr_shown-Call : (name : Name) (args : List (Node ExprKind)) (n o : Place) (ms : List Place) → expr_shown (X.Call None name args) (n ∷ o ∷ ms) ≡ atom name n ∷ mark (codes "(") o ∷ arguments_tokens (map expr_tokens args) ms
unfolding expr_shown
expr_shown-Call name args n o ms = ap (λ k. expr_shown k (n ∷ o ∷ ms)) (sym (X.rolls-Call None name args)) ∙ (ap (λ (f : Shown). f (n ∷ o ∷ ms)) (fold-roll-ExprKind Shown (Unit {0}) (Unit {0}) (Unit {0}) (Unit {0}) (Unit {0}) expr_layer (λ i. tt) (λ q. tt) (λ a. tt) (λ c. tt) (λ c. tt) (E.Call None name args)) ∙ ap (λ ts. atom name n ∷ mark (codes "(") o ∷ arguments_tokens ts ms) (shown_args args))

pub ruleset expr_tokens_laws = (expr_shown-Int, expr_shown-Atom, expr_shown-Var, expr_shown-Paren, expr_shown-Binary, expr_shown-Call)
