-- What one layer of a well-formed expression says of its parts.
use Rattle.std.proofs.Common.{◌≡◌, ap, sym, subst, ℕ, ◌≤◌, List, [], ◌∷◌, inl, inr}
use Rattle.std.specs.Prelude.{Some, None, true, codes}
use Rattle.erl_tree.specs.Lists.{Every, Among}
use Rattle.erl_tree.specs.declared.token.Node.{Node}
use Rattle.erl_tree.specs.declared.expr.ExprKind.{ExprKind, out-ExprKind}
use Rattle.erl_tree.specs.declared.expr.ExprKind.TheVariants as X
use Rattle.erl_tree.specs.declared.expr.ExprKind.TheOpen as E
use Rattle.erl_tree.specs.declared.expr.ItemKind.{ItemKind}
use Rattle.erl_tree.specs.declared.expr.ClauseKind.{ClauseKind}
use Rattle.erl_tree.specs.declared.expr.QualifierKind.{QualifierKind}
use Rattle.erl_tree.specs.declared.expr.AssocKind.{AssocKind}
use Rattle.erl_tree.specs.declared.expr.CatchKind.{CatchKind}
use Rattle.erl_grammar.specs.declared.head.Head.{Head}
use Rattle.erl_grammar.specs.declared.head.Head.TheVariants.{Plain, OfMap, OfRecord, OfCall}
use Rattle.erl_grammar.specs.Operators.{unary_priority, priority, left_priority, right_priority}
use Rattle.erl_grammar.specs.Guards.{is_call_in_profile}
use Rattle.erl_grammar.specs.Grammar.{node, takes_map, takes_record, HasCatchOrAfter, IsExpr, operation, unary, postfix, IsPostfix, atom, integer, character, string, variable, parens, tuple, list, cells, comprehension, call, prefixed_call, variable_applied, parens_applied, new_map, changed_map, new_record, changed_record, record_field, begin_end, case_of, if_end, fun_name, fun_end, try_end}

-- what holds of every element of a list holds of one that is among them
pub each : {A : Type 0} (P : A → Type 0) (xs : List A) → Every P xs → (x : A) → Among x xs → P x
each P [] h x i = absurd i
each P (y ∷ ys) h x (inl q) = subst P (sym q) h.0
each P (y ∷ ys) h x (inr i) = each P ys h.1 x i

-- one layer of an expression, of whose parts nothing is said
abbrev pub Layer : Type 0
Layer = E.ExprKind-F ExprKind ItemKind QualifierKind AssocKind CatchKind ClauseKind

-- what may follow an expression, by its outermost form
abbrev pub head_of : Layer → Head
head_of (E.Call prefix name args) = OfCall
head_of (E.Apply f args) = OfCall
head_of (E.MapNew assocs) = OfMap
head_of (E.MapChange e assocs) = OfMap
head_of (E.RecNew name tag fields) = OfRecord
head_of (E.RecChange e name tag fields) = OfRecord
head_of (E.RecGet e name tag field) = OfRecord
head_of _ = Plain

-- what is applied: a variable, or an expression in parentheses
abbrev pub applied_layer : Layer → Type 0
applied_layer (E.Var x) = Unit {0}
applied_layer (E.Paren e) = IsExpr 0 e
applied_layer _ = ⊥

-- one layer of an expression without an operator outside of brackets
abbrev pub postfix_layer : Layer → Type 0
postfix_layer (E.Unary op e) = ⊥
postfix_layer (E.Binary op a b) = ⊥
postfix_layer (E.Call prefix name args) = is_call_in_profile name args ≡ true
postfix_layer (E.Apply f args) = applied_layer (out-ExprKind f.kind)
postfix_layer (E.MapChange e assocs) = (takes_map (head_of (out-ExprKind e.kind)) ≡ true) × IsPostfix (head_of (out-ExprKind e.kind)) e
postfix_layer (E.RecChange e name tag fields) = (takes_record (head_of (out-ExprKind e.kind)) ≡ true) × IsPostfix (head_of (out-ExprKind e.kind)) e
postfix_layer (E.RecGet e name tag field) = (takes_record (head_of (out-ExprKind e.kind)) ≡ true) × IsPostfix (head_of (out-ExprKind e.kind)) e
postfix_layer (E.Try body of_clauses catches after) = HasCatchOrAfter catches after
postfix_layer _ = Unit {0}

-- one layer of an expression that binds at least so tightly
abbrev pub expr_layer : ℕ → Layer → Type 0
expr_layer least (E.Unary op e) = (least ≤ unary_priority) × IsExpr unary_priority e
expr_layer least (E.Binary op a b) = (least ≤ priority op) × IsExpr (left_priority op) a × IsExpr (right_priority op) b
expr_layer least l = postfix_layer l

-- what may follow an expression is as its outermost form says
pub postfix-head : (head : Head) (e : Node ExprKind) → IsPostfix head e → head ≡ head_of (out-ExprKind e.kind)
postfix-head _ _ (atom p a) = ap head_of (sym (X.outs-Atom a))
postfix-head _ _ (integer p n) = ap head_of (sym (X.outs-Int n))
postfix-head _ _ (character p c) = ap head_of (sym (X.outs-Char c))
postfix-head _ _ (string p s) = ap head_of (sym (X.outs-Str s))
postfix-head _ _ (variable p x) = ap head_of (sym (X.outs-Var x))
postfix-head _ _ (parens o c e h) = ap head_of (sym (X.outs-Paren e))
postfix-head _ _ (tuple o c ms es g h) = ap head_of (sym (X.outs-Tuple es))
postfix-head _ _ (list o c ms es g h) = ap head_of (sym (X.outs-Cells es None))
postfix-head _ _ (cells o b c ms e t es g h k) = ap head_of (sym (X.outs-Cells (e ∷ es) (Some t)))
postfix-head _ _ (comprehension o b c ms e q qs h g k) = ap head_of (sym (X.outs-Comp e (q ∷ qs)))
postfix-head _ _ (call n o c ms name args i g h) = ap head_of (sym (X.outs-Call None name args))
postfix-head _ _ (prefixed_call p d n o c ms name args i g h) = ap head_of (sym (X.outs-Call (Some (codes "erlang")) name args))
postfix-head _ _ (variable_applied p o c ms x args g h) = ap head_of (sym (X.outs-Apply (node p (p ∷ []) (X.Var x)) args))
postfix-head _ _ (parens_applied p q o c ms f args k g h) = ap head_of (sym (X.outs-Apply (node p (p ∷ q ∷ []) (X.Paren f)) args))
postfix-head _ _ (new_map h o c ms assocs g k) = ap head_of (sym (X.outs-MapNew assocs))
postfix-head _ _ (changed_map head h o c ms e assocs t k g r) = ap head_of (sym (X.outs-MapChange e assocs))
postfix-head _ _ (new_record h n o c ms name fields g k) = ap head_of (sym (X.outs-RecNew name name fields))
postfix-head _ _ (changed_record head h n o c ms e name fields t k g r) = ap head_of (sym (X.outs-RecChange e name name fields))
postfix-head _ _ (record_field head h n d f e name field t k) = ap head_of (sym (X.outs-RecGet e name name field))
postfix-head _ _ (begin_end b e ms i is g h) = ap head_of (sym (X.outs-Begin (i ∷ is)))
postfix-head _ _ (case_of p o e ms subject c cs h g k) = ap head_of (sym (X.outs-Case subject (c ∷ cs)))
postfix-head _ _ (if_end p e ms c cs g k) = ap head_of (sym (X.outs-If (c ∷ cs)))
postfix-head _ _ (fun_name p n s a name arity) = ap head_of (sym (X.outs-FunName name arity))
postfix-head _ _ (fun_end p e ms c cs g k) = ap head_of (sym (X.outs-Fun (c ∷ cs)))
postfix-head _ _ (try_end p e ms os cs ns i body of_clauses catches after g h j k l q r t x) = ap head_of (sym (X.outs-Try (i ∷ body) of_clauses catches after))

-- the same, in a statement on that
with-head : (P : Head → Type 0) (head : Head) (e : Node ExprKind) → IsPostfix head e → P head → P (head_of (out-ExprKind e.kind))
with-head P head e t h = subst P (postfix-head head e t) h

pub postfix-layer : (head : Head) (e : Node ExprKind) → IsPostfix head e → postfix_layer (out-ExprKind e.kind)
postfix-layer _ _ (atom p a) = subst postfix_layer (sym (X.outs-Atom a)) tt
postfix-layer _ _ (integer p n) = subst postfix_layer (sym (X.outs-Int n)) tt
postfix-layer _ _ (character p c) = subst postfix_layer (sym (X.outs-Char c)) tt
postfix-layer _ _ (string p s) = subst postfix_layer (sym (X.outs-Str s)) tt
postfix-layer _ _ (variable p x) = subst postfix_layer (sym (X.outs-Var x)) tt
postfix-layer _ _ (parens o c e h) = subst postfix_layer (sym (X.outs-Paren e)) tt
postfix-layer _ _ (tuple o c ms es g h) = subst postfix_layer (sym (X.outs-Tuple es)) tt
postfix-layer _ _ (list o c ms es g h) = subst postfix_layer (sym (X.outs-Cells es None)) tt
postfix-layer _ _ (cells o b c ms e t es g h k) = subst postfix_layer (sym (X.outs-Cells (e ∷ es) (Some t))) tt
postfix-layer _ _ (comprehension o b c ms e q qs h g k) = subst postfix_layer (sym (X.outs-Comp e (q ∷ qs))) tt
postfix-layer _ _ (call n o c ms name args i g h) = subst postfix_layer (sym (X.outs-Call None name args)) i
postfix-layer _ _ (prefixed_call p d n o c ms name args i g h) = subst postfix_layer (sym (X.outs-Call (Some (codes "erlang")) name args)) i
postfix-layer _ _ (variable_applied p o c ms x args g h) = subst postfix_layer (sym (X.outs-Apply (node p (p ∷ []) (X.Var x)) args)) (subst applied_layer (sym (X.outs-Var x)) tt)
postfix-layer _ _ (parens_applied p q o c ms f args k g h) = subst postfix_layer (sym (X.outs-Apply (node p (p ∷ q ∷ []) (X.Paren f)) args)) (subst applied_layer (sym (X.outs-Paren f)) k)
postfix-layer _ _ (new_map h o c ms assocs g k) = subst postfix_layer (sym (X.outs-MapNew assocs)) tt
postfix-layer _ _ (changed_map head h o c ms e assocs t k g r) = subst postfix_layer (sym (X.outs-MapChange e assocs)) (with-head (λ q. takes_map q ≡ true) head e k t, with-head (λ h. IsPostfix h e) head e k k)
postfix-layer _ _ (new_record h n o c ms name fields g k) = subst postfix_layer (sym (X.outs-RecNew name name fields)) tt
postfix-layer _ _ (changed_record head h n o c ms e name fields t k g r) = subst postfix_layer (sym (X.outs-RecChange e name name fields)) (with-head (λ q. takes_record q ≡ true) head e k t, with-head (λ h. IsPostfix h e) head e k k)
postfix-layer _ _ (record_field head h n d f e name field t k) = subst postfix_layer (sym (X.outs-RecGet e name name field)) (with-head (λ q. takes_record q ≡ true) head e k t, with-head (λ h. IsPostfix h e) head e k k)
postfix-layer _ _ (begin_end b e ms i is g h) = subst postfix_layer (sym (X.outs-Begin (i ∷ is))) tt
postfix-layer _ _ (case_of p o e ms subject c cs h g k) = subst postfix_layer (sym (X.outs-Case subject (c ∷ cs))) tt
postfix-layer _ _ (if_end p e ms c cs g k) = subst postfix_layer (sym (X.outs-If (c ∷ cs))) tt
postfix-layer _ _ (fun_name p n s a name arity) = subst postfix_layer (sym (X.outs-FunName name arity)) tt
postfix-layer _ _ (fun_end p e ms c cs g k) = subst postfix_layer (sym (X.outs-Fun (c ∷ cs))) tt
postfix-layer _ _ (try_end p e ms os cs ns i body of_clauses catches after g h j k l q r t x) = subst postfix_layer (sym (X.outs-Try (i ∷ body) of_clauses catches after)) x

postfix-expr : (least : ℕ) (l : Layer) → postfix_layer l → expr_layer least l
postfix-expr least (E.Unary op e) h = absurd h
postfix-expr least (E.Binary op a b) h = absurd h
postfix-expr least _ h = h

pub expr-layer : (least : ℕ) (e : Node ExprKind) → IsExpr least e → expr_layer least (out-ExprKind e.kind)
expr-layer _ _ (operation least op a b m l h k) = subst (expr_layer least) (sym (X.outs-Binary op a b)) (l, h, k)
expr-layer _ _ (unary least op p e l h) = subst (expr_layer least) (sym (X.outs-Unary op e)) (l, h)
expr-layer _ _ (postfix least head e t) = postfix-expr least (out-ExprKind e.kind) (postfix-layer head e t)
