-- A text that is one expression: what is found is the expression with these tokens, each well-formed expression is found or is nested too deep, and no tokens are those of two.
use Rattle.std.proofs.Common.{◌≡◌, ℕ, zero, suc, ◌+◌, ◌≤◌, Bool, true, false, List, [], ◌∷◌, ◌++◌, refl, ap, sym, ◌∙◌, subst, inl, inr, append_assoc, append-nil, arith}
use Rattle.std.specs.Prelude.{◌⊎◌, None, Ok, Err, if◌then◌else◌, codes}
use Rattle.type_terms.specs.Keys.{Name}
use Rattle.erl_tree.specs.Lists.{Among}
use Rattle.erl_tree.specs.declared.token.Place.{Place}
use Rattle.erl_tree.specs.declared.token.Placed.{Placed}
use Rattle.erl_tree.specs.declared.token.Token.{Token}
use Rattle.erl_tree.specs.declared.token.Token.TheVariants as T
use Rattle.erl_grammar.specs.Pieces.{at}
use Rattle.erl_grammar.specs.Spelling.{expr_tokens}
use Rattle.erl_grammar.specs.Nesting.{expr_deep}
use Rattle.erl_grammar.specs.Grammar.{IsExpr}
use Rattle.erl_grammar.proofs.DepthLaws.{Bounded, expr_bounded}
use Rattle.erl_parser_tokens.specs.declared.fault.ParseFault.{ParseFault}
use Rattle.erl_parser_tokens.specs.declared.fault.ParseFault.TheVariants as faults
use Rattle.erl_parser_tokens.specs.declared.height.Height.{Height}
use Rattle.erl_parser_tokens.specs.declared.height.Measured.{Measured}
use Rattle.erl_parser_tokens.specs.Heights.{measured}
use Rattle.erl_parser_tokens.specs.Tokens.{Answer, ◌>>=◌, in_case, first_place, unexpected, end}
use Rattle.erl_parser_exprs.specs.Answers.{IsText}
use Rattle.erl_parser_tokens.specs.Outside.{HasOutside}
use Rattle.erl_parser_exprs.specs.Operations.{Expr}
use Rattle.erl_parser_exprs.specs.Expressions.{read_expr, read_whole_expr}
use Rattle.erl_parser_tokens.proofs.Then.{behind_part, Right, right_ok, right_fault, right_as, right_behind, right_then, right_case, IsRead, Again, AgainBy, again_ok, again_some, again_read, again_shallow, IsPart, IsDeep}
use Rattle.erl_parser_tokens.proofs.TokenLaws.{end-takes, end-again}
use Rattle.erl_parser_exprs.proofs.Endings.{closes-expr, end_of_text-closes}
use Rattle.erl_parser_exprs.proofs.LevelLaws.{read_expr-right, read_expr-again}

-- the expression that was found
pub record Found (d : ℕ) (ts : List Placed) (e : Expr) : Type 0 where
  pub formed : IsExpr 0 e
  pub shallow : expr_deep e d ≡ []
  pub text : IsText e ts

-- the end of the text stands there, and nothing behind it
pub record IsLast (ts : List Placed) : Type 0 where
  pub end : Place
  pub text : ts ≡ at T.End end ∷ []

closed-right : {A : Type 0} (x : A) (us : List Placed) → Right (λ y. (y ≡ x) × IsLast us) us (in_case (end us) (unexpected us) (λ p. Ok x))
closed-right x us = right_case (λ n. right_fault {f = faults.Unexpected (first_place us)} tt) (λ e s. right_ok (refl, record { end = e; text = end-takes us e s }))

found : (d : ℕ) (ts us : List Placed) (e : Measured Expr) (x : Expr) → IsRead (IsExpr 0) expr_tokens expr_deep d ts (e, us) → x ≡ e.tree → IsLast us → Found d ts x
found d ts us e x r g i = subst (Found d ts) (sym g) (record { formed = r.formed; shallow = r.measures.shallow d r.within; text = record { end = i.end; text = r.takes ∙ ap (λ vs. expr_tokens e.tree ++ vs) i.text } })

-- what is found is well formed and has exactly these tokens, and a form outside of the profile is answered only where it stands
pub read_whole_expr-right : (d : ℕ) (ts : List Placed) → Right (Found d ts) ts (read_whole_expr d ts)
unfolding read_whole_expr
read_whole_expr-right d ts = right_then (read_expr-right d ts) λ e r. right_as (λ x g. found d ts e.1 e.0 x r g.0 g.1) (right_behind (behind_part (expr_tokens e.0.tree) r.takes) (closed-right e.0.tree e.1))

-- the same of an answer that is known
pub read_whole_expr-found : (d : ℕ) (ts : List Placed) (e : Expr) → read_whole_expr d ts ≡ Ok e → Found d ts e
read_whole_expr-found d ts e g = (subst (λ z. Right (Found d ts) ts z) g (read_whole_expr-right d ts)).holds

-- a form outside of the profile is answered only where it stands
pub read_whole_expr-outside : (d : ℕ) (ts : List Placed) (p : Place) (form : Name) → read_whole_expr d ts ≡ Err (faults.OutOfProfile p form) → HasOutside ts p form
read_whole_expr-outside d ts p form g = (subst (λ z. Right (Found d ts) ts z) g (read_whole_expr-right d ts)).holds

-- a well-formed expression is what is answered, or a node of it is nested too deep
read_whole_expr-again : (d : ℕ) (e : Expr) (p : Place) → IsExpr 0 e → Again (λ x. x ≡ e) (λ q. Among q (expr_deep e d)) (read_whole_expr d (expr_tokens e ++ at T.End p ∷ []))
unfolding read_whole_expr
read_whole_expr-again d e p i = again_read _ (read_expr-again d e (at T.End p ∷ []) i (closes-expr end_of_text-closes p [])) (λ q a. a) λ h. again_some _ _ (end-again p) (again_ok refl)

pub again_text : (d : ℕ) (ts : List Placed) (e : Expr) → IsExpr 0 e → IsText e ts → Again (λ x. x ≡ e) (λ q. Among q (expr_deep e d)) (read_whole_expr d ts)
again_text d ts e i t = subst (λ us. Again (λ x. x ≡ e) (λ q. Among q (expr_deep e d)) (read_whole_expr d us)) (sym t.text) (read_whole_expr-again d e t.end i)

either : (e : Expr) (D : Place → Type 0) (answer : Answer Expr) → Again (λ x. x ≡ e) D answer → (answer ≡ Ok e) ⊎ ((p : Place) × D p × (answer ≡ Err (faults.TooDeep p)))
either e D (Ok x) a = inl (ap (λ y. Ok y) a.holds)
either e D (Err (faults.TooDeep p)) a = inr (p, a.holds, refl)
either e D (Err _) a = absurd a.holds

-- where these are the tokens of a well-formed expression, the answer is that expression, or the place of a node of it that is nested too deep. So another fault is answered only where no well-formed expression has these tokens
pub read_whole_expr-complete : (d : ℕ) (ts : List Placed) (e : Expr) → IsExpr 0 e → IsText e ts → (read_whole_expr d ts ≡ Ok e) ⊎ ((p : Place) × Among p (expr_deep e d) × (read_whole_expr d ts ≡ Err (faults.TooDeep p)))
read_whole_expr-complete d ts e i t = either e (λ q. Among q (expr_deep e d)) (read_whole_expr d ts) (again_text d ts e i t)

-- a well-formed expression that is nested at most so deep is found
pub read_whole_expr-finds : (d : ℕ) (ts : List Placed) (e : Expr) → IsExpr 0 e → IsText e ts → expr_deep e d ≡ [] → read_whole_expr d ts ≡ Ok e
read_whole_expr-finds d ts e i t s = let r = again_shallow (λ p a. elim (subst (Among p) s a) [ ]) (again_text d ts e i t) in r.1 ∙ ap (λ x. Ok x) r.2

same_by : (d : ℕ) (ts : List Placed) (e f : Expr) → IsExpr 0 e → IsText e ts → read_whole_expr d ts ≡ Ok f → f ≡ e
same_by d ts e f i t g = (subst (λ z. Again (λ x. x ≡ e) (λ q. Among q (expr_deep e d)) z) g (again_text d ts e i t)).holds

-- what stands there fits nowhere: no well-formed expression has these tokens
pub read_whole_expr-unexpected : (d : ℕ) (ts : List Placed) (p : Place) → read_whole_expr d ts ≡ Err (faults.Unexpected p) → (e : Expr) → IsExpr 0 e → IsText e ts → ⊥
read_whole_expr-unexpected d ts p g e i t = (subst (λ z. Again (λ x. x ≡ e) (λ q. Among q (expr_deep e d)) z) g (again_text d ts e i t)).holds

-- nor where a form outside of the profile is answered
pub read_whole_expr-outside_only : (d : ℕ) (ts : List Placed) (p : Place) (form : Name) → read_whole_expr d ts ≡ Err (faults.OutOfProfile p form) → (e : Expr) → IsExpr 0 e → IsText e ts → ⊥
read_whole_expr-outside_only d ts p form g e i t = (subst (λ z. Again (λ x. x ≡ e) (λ q. Among q (expr_deep e d)) z) g (again_text d ts e i t)).holds

-- no text is that of two well-formed expressions
pub one_text : (ts : List Placed) (e f : Expr) → IsExpr 0 e → IsExpr 0 f → IsText e ts → IsText f ts → e ≡ f
one_text ts e f i j t u = let b = expr_bounded i in same_by b.bound ts f e j u (read_whole_expr-finds b.bound ts e i t (b.empty b.bound (omega arith)))

-- no tokens are those of two well-formed expressions
pub one_expression : (e f : Expr) → IsExpr 0 e → IsExpr 0 f → expr_tokens e ≡ expr_tokens f → e ≡ f
one_expression e f i j g = one_text (expr_tokens e ++ at T.End e.place ∷ []) e f i j (record { end = e.place; text = refl }) (record { end = e.place; text = ap (λ ts. ts ++ at T.End e.place ∷ []) g })
