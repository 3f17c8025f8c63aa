-- Expressions of flat modules: they pass the test, and are well formed in the grammar of all modules, with the same tokens.
use Rattle.std.proofs.Common.{◌≡◌, refl, ap, sym, subst, ◌∙◌, ℕ, ◌≤◌, List, [], ◌∷◌, ◌++◌, map, inl, inr, true, arith}
use Rattle.std.specs.Prelude.{None, codes}
use Rattle.std.specs.List.{list_all}
use Rattle.std.proofs.lemmas.Bool.{and_from, true≢false}
use Rattle.type_terms.specs.Keys.{Name}
use Rattle.erl_tree.specs.Lists.{Every, Among}
use Rattle.erl_tree.specs.declared.token.Place.{Place}
use Rattle.erl_tree.specs.declared.token.Placed.{Placed}
use Rattle.erl_tree.specs.declared.token.Node.{Node}
use Rattle.erl_tree.specs.declared.expr.BinaryOp.{BinaryOp}
use Rattle.erl_tree.specs.declared.expr.BinaryOp.TheVariants.{Add, Sub, Mul}
use Rattle.erl_tree.specs.declared.expr.ExprKind.{ExprKind}
use Rattle.erl_tree.specs.declared.expr.ExprKind.TheVariants as X
use Rattle.erl_tree.specs.declared.expr.ExprKind.TheOpen as E
use Rattle.flat_modules.specs.Grammar.{node}
use Rattle.flat_modules.specs.Grammar as F
use Rattle.flat_modules.specs.Spelling.{mark, operator_text, operation_tokens}
use Rattle.flat_modules.specs.Spelling as FS
use Rattle.flat_modules.proofs.TreeLaws as FL
use Rattle.erl_grammar.specs.declared.head.Head.TheVariants.{Plain, OfCall}
use Rattle.erl_grammar.specs.Operators.{operator_token}
use Rattle.erl_grammar.specs.Pieces.{own, inner, fill, commas}
use Rattle.erl_grammar.specs.Pieces as P
use Rattle.erl_grammar.specs.Guards.{is_call_in_profile}
use Rattle.erl_grammar.specs.Grammar as G
use Rattle.erl_grammar.specs.Spelling as GS
use Rattle.erl_grammar.proofs.SpellingLaws as GL
use Rattle.erl_grammar.proofs.Layers.{each}
use Rattle.flat_modules.specs.Flat.{is_flat_operator, is_flat_expr}
use Rattle.flat_modules.specs.Calls.{whole, in_parens, in_left, in_right, in_argument, CallsInProfile}
use Rattle.flat_modules.proofs.Layers.{expr-passes}
use Rattle.flat_modules.proofs.Lists.{HaveArgumentMarks, argument-marks, arguments-filled}
use Rattle.flat_modules.proofs.TypeLaws.{joined}

-- ---- operators

additive : (op : BinaryOp) → F.IsAdditive op → is_flat_operator op ≡ true
additive Add h = refl
additive Sub h = refl
additive _ h = absurd h

sum-whole : (op : BinaryOp) (a b : Node ExprKind) (m : Place) → F.IsAdditive op → (least : ℕ) → least ≤ 5 → G.IsExpr 5 a → G.IsExpr 6 b → G.IsExpr least (node a.place (m ∷ []) (X.Binary op a b))
sum-whole Add a b m o least l h k = G.operation least Add a b m l h k
sum-whole Sub a b m o least l h k = G.operation least Sub a b m l h k
sum-whole _ a b m o least l h k = absurd o

operator-joined : (op : BinaryOp) → is_flat_operator op ≡ true → (ts us vs ws : List Placed) (m : Place) → ts ≡ vs → us ≡ ws → operation_tokens (operator_text op) ts m us ≡ fill (inner vs ∷ own (operator_token op) ∷ inner ws ∷ []) (m ∷ [])
operator-joined Add h ts us vs ws m e f = joined (mark (codes "+") m) e f
operator-joined Sub h ts us vs ws m e f = joined (mark (codes "-") m) e f
operator-joined Mul h ts us vs ws m e f = joined (mark (codes "*") m) e f
operator-joined _ h ts us vs ws m e f = absurd (true≢false (sym h))

operation-tokens : (op : BinaryOp) (a b : Node ExprKind) (m : Place) → is_flat_operator op ≡ true → FS.expr_tokens a ≡ GS.expr_tokens a → FS.expr_tokens b ≡ GS.expr_tokens b → FS.expr_shown (X.Binary op a b) (m ∷ []) ≡ GS.expr_shown (X.Binary op a b) (m ∷ [])
operation-tokens op a b m o e f = FL.expr_shown-Binary op a b m ∙ (operator-joined op o (FS.expr_tokens a) (FS.expr_tokens b) (GS.expr_tokens a) (GS.expr_tokens b) m e f ∙ sym (GL.expr_shown-Binary op a b (m ∷ [])))

-- ---- well formed

call-whole : (n o : Place) (ms : List Place) (name : Name) (args : List (Node ExprKind)) → HaveArgumentMarks args ms → is_call_in_profile name args ≡ true → Every (G.IsExpr 0) args → (least : ℕ) → G.IsExpr least (node n (n ∷ o ∷ ms) (X.Call None name args))
call-whole n o ms name args r i h least =
    subst (λ ns. G.IsExpr least (node n (n ∷ o ∷ ns) (X.Call None name args))) (sym r.in_turn)
    (G.postfix least OfCall _ (G.call n o r.close r.separators name args i r.between (each (G.IsExpr 0) args h)))

mutual
  pub expr-whole : (e : Node ExprKind) → F.IsExpr e → CallsInProfile e → (least : ℕ) → least ≤ 5 → G.IsExpr least e
  expr-whole _ (F.one_product e h) c least l = product-whole e h c least (omega arith)
  expr-whole _ (F.sum op a b m o h k) c least l =
      sum-whole op a b m o least l
      (expr-whole a h (λ name args i. c name args (in_left a.place (m ∷ []) op a b i)) 5 (omega arith))
      (product-whole b k (λ name args i. c name args (in_right a.place (m ∷ []) op a b i)) 6 (omega arith))

  product-whole : (e : Node ExprKind) → F.IsProduct e → CallsInProfile e → (least : ℕ) → least ≤ 6 → G.IsExpr least e
  product-whole _ (F.one_operand e h) c least l = operand-whole e h c least
  product-whole _ (F.product a b m h k) c least l =
      G.operation least Mul a b m l
      (product-whole a h (λ name args i. c name args (in_left a.place (m ∷ []) Mul a b i)) 6 (omega arith))
      (operand-whole b k (λ name args i. c name args (in_right a.place (m ∷ []) Mul a b i)) 7)

  operand-whole : (e : Node ExprKind) → F.IsOperand e → CallsInProfile e → (least : ℕ) → G.IsExpr least e
  operand-whole _ (F.integer p n) c least = G.postfix least Plain _ (G.integer p n)
  operand-whole _ (F.atom p a) c least = G.postfix least Plain _ (G.atom p a)
  operand-whole _ (F.variable p x) c least = G.postfix least Plain _ (G.variable p x)
  operand-whole _ (F.parens o q e h) c least = G.postfix least Plain _ (G.parens o q e (expr-whole e h (λ name args i. c name args (in_parens o (o ∷ q ∷ []) e i)) 0 (omega arith)))
  operand-whole _ (F.call n o ms name args h) c least =
      call-whole n o ms name args (argument-marks args ms h) (c name args (whole n (n ∷ o ∷ ms)))
      (args-whole args ms h (λ e i inner_name inner_args s. c inner_name inner_args (in_argument n (n ∷ o ∷ ms) name args e i s))) least

  args-whole : (args : List (Node ExprKind)) (ms : List Place) → F.AreArguments args ms → ((e : Node ExprKind) → Among e args → CallsInProfile e) → Every (G.IsExpr 0) args
  args-whole _ _ (F.no_arguments q) c = tt
  args-whole _ _ (F.last_argument e q h) c = (expr-whole e h (c e (inl refl)) 0 (omega arith), tt)
  args-whole _ _ (F.more_arguments e f es m ms h r) c = (expr-whole e h (c e (inl refl)) 0 (omega arith), args-whole (f ∷ es) ms r (λ g i. c g (inr i)))

-- ---- the same tokens

mutual
  pub expr-tokens : (e : Node ExprKind) → F.IsExpr e → FS.expr_tokens e ≡ GS.expr_tokens e
  expr-tokens _ (F.one_product e h) = product-tokens e h
  expr-tokens _ (F.sum op a b m o h k) = operation-tokens op a b m (additive op o) (expr-tokens a h) (product-tokens b k)

  product-tokens : (e : Node ExprKind) → F.IsProduct e → FS.expr_tokens e ≡ GS.expr_tokens e
  product-tokens _ (F.one_operand e h) = operand-tokens e h
  product-tokens _ (F.product a b m h k) = operation-tokens Mul a b m refl (product-tokens a h) (operand-tokens b k)

  operand-tokens : (e : Node ExprKind) → F.IsOperand e → FS.expr_tokens e ≡ GS.expr_tokens e
  operand-tokens _ (F.integer p n) = FL.expr_shown-Int n p ∙ sym (GL.expr_shown-Int n (p ∷ []))
  operand-tokens _ (F.atom p a) = FL.expr_shown-Atom a p ∙ sym (GL.expr_shown-Atom a (p ∷ []))
  operand-tokens _ (F.variable p x) = FL.expr_shown-Var x p ∙ sym (GL.expr_shown-Var x (p ∷ []))
  operand-tokens _ (F.parens o q e h) = FL.expr_shown-Paren e o q ∙ (ap (λ ts. mark (codes "(") o ∷ (ts ++ mark (codes ")") q ∷ [])) (expr-tokens e h) ∙ sym (GL.expr_shown-Paren e (o ∷ q ∷ [])))
  operand-tokens _ (F.call n o ms name args h) =
      FL.expr_shown-Call name args n o ms ∙ (ap (λ ts. FS.atom name n ∷ mark (codes "(") o ∷ ts) (arguments-filled FS.expr_tokens args ms h ∙ ap (λ xs. fill (commas xs ++ P.mark (codes ")") ∷ []) ms) (args-tokens args ms h))
      ∙ sym (GL.expr_shown-Call None name args (n ∷ o ∷ ms)))

  args-tokens : (args : List (Node ExprKind)) (ms : List Place) → F.AreArguments args ms → map FS.expr_tokens args ≡ map GS.expr_tokens args
  args-tokens _ _ (F.no_arguments q) = refl
  args-tokens _ _ (F.last_argument e q h) = ap (λ ts. ts ∷ []) (expr-tokens e h)
  args-tokens _ _ (F.more_arguments e f es m ms h r) = ap (λ ts. ts ∷ map FS.expr_tokens (f ∷ es)) (expr-tokens e h) ∙ ap (λ xs. GS.expr_tokens e ∷ xs) (args-tokens (f ∷ es) ms r)

-- ---- the test

mutual
  pub expr-passing : (e : Node ExprKind) → F.IsExpr e → is_flat_expr e ≡ true
  expr-passing _ (F.one_product e h) = product-passing e h
  expr-passing _ (F.sum op a b m o h k) = expr-passes (X.Binary op a b) (E.Binary op a b) (X.outs-Binary op a b) (additive op o, expr-passing a h, product-passing b k)

  product-passing : (e : Node ExprKind) → F.IsProduct e → is_flat_expr e ≡ true
  product-passing _ (F.one_operand e h) = operand-passing e h
  product-passing _ (F.product a b m h k) = expr-passes (X.Binary Mul a b) (E.Binary Mul a b) (X.outs-Binary Mul a b) (refl, product-passing a h, operand-passing b k)

  operand-passing : (e : Node ExprKind) → F.IsOperand e → is_flat_expr e ≡ true
  operand-passing _ (F.integer p n) = expr-passes (X.Int n) (E.Int n) (X.outs-Int n) tt
  operand-passing _ (F.atom p a) = expr-passes (X.Atom a) (E.Atom a) (X.outs-Atom a) tt
  operand-passing _ (F.variable p x) = expr-passes (X.Var x) (E.Var x) (X.outs-Var x) tt
  operand-passing _ (F.parens o q e h) = expr-passes (X.Paren e) (E.Paren e) (X.outs-Paren e) (expr-passing e h)
  operand-passing _ (F.call n o ms name args h) = expr-passes (X.Call None name args) (E.Call None name args) (X.outs-Call None name args) (args-passing args ms h)

  args-passing : (args : List (Node ExprKind)) (ms : List Place) → F.AreArguments args ms → list_all is_flat_expr args ≡ true
  args-passing _ _ (F.no_arguments q) = refl
  args-passing _ _ (F.last_argument e q h) = and_from _ _ (expr-passing e h) refl
  args-passing _ _ (F.more_arguments e f es m ms h r) = and_from _ _ (expr-passing e h) (args-passing (f ∷ es) ms r)
