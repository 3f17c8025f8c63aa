-- Expressions of all modules: those that pass the test are well formed in the grammar of flat modules.
use Rattle.std.proofs.Common.{◌≡◌, sym, ℕ, ◌≤◌, [], ◌∷◌, ◌++◌, true, arith}
use Rattle.std.specs.Prelude.{Some, None, codes}
use Rattle.std.proofs.lemmas.Bool.{true≢false}
use Rattle.erl_tree.specs.declared.token.Place.{Place}
use Rattle.erl_tree.specs.declared.token.Node.{Node}
use Rattle.erl_tree.specs.declared.expr.BinaryOp.{BinaryOp}
use Rattle.erl_tree.specs.declared.expr.BinaryOp.TheVariants.{Add, Sub, Mul}
use Rattle.erl_tree.specs.declared.expr.ExprKind.{ExprKind}
use Rattle.erl_tree.specs.declared.expr.ExprKind.TheVariants as X
use Rattle.erl_tree.specs.declared.expr.ExprKind.TheOpen as E
use Rattle.flat_modules.specs.Grammar.{node}
use Rattle.flat_modules.specs.Grammar as F
use Rattle.erl_grammar.specs.declared.head.Head.{Head}
use Rattle.erl_grammar.specs.Operators.{priority, left_priority, right_priority}
use Rattle.erl_grammar.specs.Grammar as G
use Rattle.flat_modules.specs.Flat.{is_flat_operator, is_flat_expr}
use Rattle.flat_modules.proofs.Layers.{FlatExpr, expr-parts}
use Rattle.flat_modules.proofs.Lists.{all-among, arguments-made}

-- an expression of a flat module; a product or an operand, where it binds at least so tightly
abbrev IsFlatAt : ℕ → Node ExprKind → Type 0
IsFlatAt least e = F.IsExpr e × (6 ≤ least → F.IsProduct e) × (7 ≤ least → F.IsOperand e)

operand-at : (least : ℕ) (e : Node ExprKind) → F.IsOperand e → IsFlatAt least e
operand-at least e h = (F.one_product e (F.one_operand e h), (λ l. F.one_operand e h), λ l. h)

sum-at : (least : ℕ) (op : BinaryOp) (a b : Node ExprKind) (m : Place) → F.IsAdditive op → least ≤ 5 → IsFlatAt 5 a → IsFlatAt 6 b → IsFlatAt least (node a.place (m ∷ []) (X.Binary op a b))
sum-at least op a b m o l h k = (F.sum op a b m o h.0 (k.1 (omega arith)), (λ g. absurd (omega arith)), λ g. absurd (omega arith))

product-at : (least : ℕ) (a b : Node ExprKind) (m : Place) → least ≤ 6 → IsFlatAt 6 a → IsFlatAt 7 b → IsFlatAt least (node a.place (m ∷ []) (X.Binary Mul a b))
product-at least a b m l h k =
    let p : F.IsProduct (node a.place (m ∷ []) (X.Binary Mul a b)) = F.product a b m (h.1 (omega arith)) (k.2 (omega arith)) in
    (F.one_product _ p, (λ g. p), λ g. absurd (omega arith))

operation-at : (least : ℕ) (op : BinaryOp) (a b : Node ExprKind) (m : Place) → least ≤ priority op → is_flat_operator op ≡ true → IsFlatAt (left_priority op) a → IsFlatAt (right_priority op) b → IsFlatAt least (node a.place (m ∷ []) (X.Binary op a b))
operation-at least Add a b m l o h k = sum-at least Add a b m tt l h k
operation-at least Sub a b m l o h k = sum-at least Sub a b m tt l h k
operation-at least Mul a b m l o h k = product-at least a b m l h k
operation-at least _ a b m l o h k = absurd (true≢false (sym o))

mutual
  expr-at : (least : ℕ) (e : Node ExprKind) → G.IsExpr least e → is_flat_expr e ≡ true → IsFlatAt least e
  expr-at _ _ (G.operation least op a b m l h k) f =
      let p : FlatExpr (E.Binary op a b) = expr-parts (X.Binary op a b) (E.Binary op a b) (X.outs-Binary op a b) f in
      operation-at least op a b m l p.0 (expr-at (left_priority op) a h p.1) (expr-at (right_priority op) b k p.2)
  expr-at _ _ (G.unary least op p e l h) f = absurd (expr-parts (X.Unary op e) (E.Unary op e) (X.outs-Unary op e) f)
  expr-at _ _ (G.postfix least head e h) f = operand-at least e (postfix-flat head e h f)

  postfix-flat : (head : Head) (e : Node ExprKind) → G.IsPostfix head e → is_flat_expr e ≡ true → F.IsOperand e
  postfix-flat _ _ (G.atom p a) f = F.atom p a
  postfix-flat _ _ (G.integer p n) f = F.integer p n
  postfix-flat _ _ (G.variable p x) f = F.variable p x
  postfix-flat _ _ (G.parens o c e h) f = F.parens o c e (expr-at 0 e h (expr-parts (X.Paren e) (E.Paren e) (X.outs-Paren e) f)).0
  postfix-flat _ _ (G.call n o c ms name args i g h) f =
      F.call n o (ms ++ c ∷ []) name args
      (arguments-made args ms c g (λ e j. (expr-at 0 e (h e j) (all-among is_flat_expr args (expr-parts (X.Call None name args) (E.Call None name args) (X.outs-Call None name args) f) e j)).0))
  postfix-flat _ _ (G.character p c) f = absurd (expr-parts (X.Char c) (E.Char c) (X.outs-Char c) f)
  postfix-flat _ _ (G.string p s) f = absurd (expr-parts (X.Str s) (E.Str s) (X.outs-Str s) f)
  postfix-flat _ _ (G.tuple o c ms es g h) f = absurd (expr-parts (X.Tuple es) (E.Tuple es) (X.outs-Tuple es) f)
  postfix-flat _ _ (G.list o c ms es g h) f = absurd (expr-parts (X.Cells es None) (E.Cells es None) (X.outs-Cells es None) f)
  postfix-flat _ _ (G.cells o b c ms e t es g h k) f = absurd (expr-parts (X.Cells (e ∷ es) (Some t)) (E.Cells (e ∷ es) (Some t)) (X.outs-Cells (e ∷ es) (Some t)) f)
  postfix-flat _ _ (G.comprehension o b c ms e q qs h g k) f = absurd (expr-parts (X.Comp e (q ∷ qs)) (E.Comp e (q ∷ qs)) (X.outs-Comp e (q ∷ qs)) f)
  postfix-flat _ _ (G.prefixed_call p d n o c ms name args i g h) f =
      absurd (expr-parts (X.Call (Some (codes "erlang")) name args) (E.Call (Some (codes "erlang")) name args) (X.outs-Call (Some (codes "erlang")) name args) f)
  postfix-flat _ _ (G.variable_applied p o c ms x args g h) f = absurd (expr-parts (X.Apply (node p (p ∷ []) (X.Var x)) args) (E.Apply (node p (p ∷ []) (X.Var x)) args) (X.outs-Apply (node p (p ∷ []) (X.Var x)) args) f)
  postfix-flat _ _ (G.parens_applied p q o c ms e args k g h) f =
      absurd (expr-parts (X.Apply (node p (p ∷ q ∷ []) (X.Paren e)) args) (E.Apply (node p (p ∷ q ∷ []) (X.Paren e)) args) (X.outs-Apply (node p (p ∷ q ∷ []) (X.Paren e)) args) f)
  postfix-flat _ _ (G.new_map h o c ms assocs g k) f = absurd (expr-parts (X.MapNew assocs) (E.MapNew assocs) (X.outs-MapNew assocs) f)
  postfix-flat _ _ (G.changed_map head h o c ms e assocs t k g r) f = absurd (expr-parts (X.MapChange e assocs) (E.MapChange e assocs) (X.outs-MapChange e assocs) f)
  postfix-flat _ _ (G.new_record h n o c ms name fields g k) f = absurd (expr-parts (X.RecNew name name fields) (E.RecNew name name fields) (X.outs-RecNew name name fields) f)
  postfix-flat _ _ (G.changed_record head h n o c ms e name fields t k g r) f = absurd (expr-parts (X.RecChange e name name fields) (E.RecChange e name name fields) (X.outs-RecChange e name name fields) f)
  postfix-flat _ _ (G.record_field head h n d q e name field t k) f = absurd (expr-parts (X.RecGet e name name field) (E.RecGet e name name field) (X.outs-RecGet e name name field) f)
  postfix-flat _ _ (G.begin_end b q ms i is g h) f = absurd (expr-parts (X.Begin (i ∷ is)) (E.Begin (i ∷ is)) (X.outs-Begin (i ∷ is)) f)
  postfix-flat _ _ (G.case_of p o q ms subject c cs h g k) f = absurd (expr-parts (X.Case subject (c ∷ cs)) (E.Case subject (c ∷ cs)) (X.outs-Case subject (c ∷ cs)) f)
  postfix-flat _ _ (G.if_end p q ms c cs g k) f = absurd (expr-parts (X.If (c ∷ cs)) (E.If (c ∷ cs)) (X.outs-If (c ∷ cs)) f)
  postfix-flat _ _ (G.fun_name p n s a name arity) f = absurd (expr-parts (X.FunName name arity) (E.FunName name arity) (X.outs-FunName name arity) f)
  postfix-flat _ _ (G.fun_end p q ms c cs g k) f = absurd (expr-parts (X.Fun (c ∷ cs)) (E.Fun (c ∷ cs)) (X.outs-Fun (c ∷ cs)) f)
  postfix-flat _ _ (G.try_end p q ms os cs ns i body of_clauses catches after g h j k l r t u v) f =
      absurd (expr-parts (X.Try (i ∷ body) of_clauses catches after) (E.Try (i ∷ body) of_clauses catches after) (X.outs-Try (i ∷ body) of_clauses catches after) f)

pub expr-flat : (e : Node ExprKind) → G.IsExpr 0 e → is_flat_expr e ≡ true → F.IsExpr e
expr-flat e h f = (expr-at 0 e h f).0
