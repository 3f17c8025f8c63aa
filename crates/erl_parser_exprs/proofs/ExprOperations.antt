-- Going on with the operators that wait gives what reading gives: the steps of the loop over signs, operands and operators.
use Rattle.std.proofs.Common.{◌≡◌, ◌≢◌, ◌∙◌, ℕ, zero, suc, ◌-◌, ◌≤◌, ◌<◌, List, [], ◌∷◌, length, drop, Option, Some, None, Result, Ok, Err, Bool, true, false, Bor, refl, sym, ap, subst, arith}
use Rattle.std.specs.Prelude.{nat_le, IfOk, if◌then◌else◌}
use Rattle.erl_tree.specs.declared.token.Place.{Place}
use Rattle.erl_tree.specs.declared.token.Placed.{Placed}
use Rattle.erl_tree.specs.declared.expr.UnaryOp.{UnaryOp}
use Rattle.erl_tree.specs.declared.expr.BinaryOp.{BinaryOp}
use Rattle.erl_grammar.specs.Operators.{priority, left_priority}
use Rattle.erl_parser_tokens.specs.declared.height.Measured.{Measured}
use Rattle.erl_parser_exprs.specs.declared.operators.Waiting.{Waiting}
use Rattle.erl_parser_exprs.specs.declared.operators.Waiting.TheVariants.{Sign, Operator}
use Rattle.erl_parser_tokens.specs.declared.fault.ParseFault.{ParseFault}
use Rattle.erl_parser_tokens.specs.declared.fault.ParseFault.TheVariants as faults
use Rattle.erl_parser_tokens.specs.Tokens.{Answer, ◌>>=◌, in_case, Gives, Fails, outside, sign, operator, outside_behind, ended}
use Rattle.erl_parser_tokens.specs.Parts.{within}
use Rattle.erl_parser_exprs.specs.Operations.{Expr, operand, Pending, reduced, whole, postfix_priority, behind_operator, read_operations}
use Rattle.erl_parser_exprs.specs.Expressions.{expr_levels, read_postfix, read_expr}
use Rattle.erl_parser_exprs.specs.Waiting.{taken}
use Rattle.erl_parser_tokens.proofs.LoopLaws.{fails_by, first_fails}
use Rattle.erl_parser_exprs.proofs.ExprLevels.{no_levels, levels_are, levels_length, levels_dropped}

-- reading on with these operators that wait gives all
abbrev pub GoingOperations : ℕ → List Waiting → List Placed → Answer (Measured Expr × List Placed) → Type 0
GoingOperations limit ws rest total = (k : ℕ) × (length rest < k) × (total ≡ read_operations read_postfix (expr_levels limit) k ws rest)

pub operations_begin : (limit : ℕ) (ws : List Waiting) (ts : List Placed) → ws ≡ [] → GoingOperations limit ws ts (read_expr limit ts)
operations_begin limit ws ts e = (suc (length ts), omega arith, rw e refl)

two_tests : {A B : Type 0} (b c : Bool) (x : A) (d u : ParseFault) (go : A → Answer B) → (if b then (if c then go x else Err d) else Err u) ≡ ((if b then (if c then Ok x else Err d) else Err u) >>= go)
two_tests true true x d u go = refl
two_tests true false x d u go = refl
two_tests false c x d u go = refl

levels_behind : (limit s : ℕ) → length (drop s (expr_levels limit)) ≡ limit - s
levels_behind limit s = ap length (levels_dropped s limit) ∙ levels_length (limit - s)

-- an operator behind an operand waits, or is a fault
behind_taken : {B : Type 0} (limit : ℕ) (op : BinaryOp) (m : Place) (r : Pending) (go : List Waiting → Answer B) → behind_operator (expr_levels limit) op m r go ≡ (taken limit op m r >>= go)
behind_taken limit op m r go =
    ap (λ n. if nat_le (left_priority op) r.operand.binds then within n r.operand.expr (go (Operator r.operand.expr op m ∷ r.waiting)) else Err (faults.Unexpected m)) (levels_behind limit (suc (length r.waiting)))
    ∙ two_tests (nat_le (left_priority op) r.operand.binds) (nat_le r.operand.expr.height.depth (limit - suc (length r.waiting))) (Operator r.operand.expr op m ∷ r.waiting) (faults.TooDeep r.operand.expr.height.deepest) (faults.Unexpected m) go

module _ (limit : ℕ) (ws : List Waiting) (rest : List Placed) (total : Answer (Measured Expr × List Placed)) where
  sign_read : (k : ℕ) (op : UnaryOp) (p : Place) (more : List Placed) (d : ℕ) → d ≡ limit - length ws → sign rest ≡ Some ((op, p), more) → d ≢ 0
      → read_operations read_postfix (expr_levels limit) (suc k) ws rest ≡ read_operations read_postfix (expr_levels limit) k (Sign op p ∷ ws) more
  unfolding read_operations
  sign_read k op p more d e h n = rw (h, levels_dropped (length ws) limit, ← e, levels_are d n) refl

  pub sign_step : (op : UnaryOp) (p : Place) (more : List Placed) (d : ℕ) (vs : List Waiting) → GoingOperations limit ws rest total → d ≡ limit - length ws → sign rest ≡ Some ((op, p), more) → d ≢ 0 → length more < length rest → vs ≡ Sign op p ∷ ws → GoingOperations limit vs more total
  sign_step op p more d vs (zero, i, g) e h n l v = absurd (omega arith)
  sign_step op p more d vs (suc k, i, g) e h n l v = (k, omega arith, rw v (g ∙ sign_read k op p more d e h n))

  sign_deep : (k : ℕ) (op : UnaryOp) (p : Place) (more : List Placed) (d : ℕ) → d ≡ limit - length ws → sign rest ≡ Some ((op, p), more) → d ≡ 0 → read_operations read_postfix (expr_levels limit) (suc k) ws rest ≡ Err (faults.TooDeep p)
  unfolding read_operations
  sign_deep k op p more d e h n = rw (h, levels_dropped (length ws) limit, ← e, no_levels d n) refl

  pub sign_too_deep : (op : UnaryOp) (p : Place) (more : List Placed) (d : ℕ) → GoingOperations limit ws rest total → d ≡ limit - length ws → sign rest ≡ Some ((op, p), more) → d ≡ 0 → total ≡ Err (faults.TooDeep p)
  sign_too_deep op p more d (zero, i, g) e h n = absurd (omega arith)
  sign_too_deep op p more d (suc k, i, g) e h n = g ∙ sign_deep k op p more d e h n

  abbrev after_operand : ℕ → Measured Expr × List Placed → Answer (Measured Expr × List Placed)
  after_operand k e = in_case (operator e.1) (ended (whole ws (operand e.0 postfix_priority)) e.1)
      (λ o. behind_operator (expr_levels limit) o.0.0 o.0.1 (reduced (priority o.0.0) ws (operand e.0 postfix_priority)) (λ vs. read_operations read_postfix (expr_levels limit) k vs o.1))

  operand_next : (k : ℕ) (d : ℕ) → d ≡ limit - length ws → sign rest ≡ None → read_operations read_postfix (expr_levels limit) (suc k) ws rest ≡ (read_postfix (expr_levels d) rest >>= after_operand k)
  unfolding read_operations
  operand_next k d e h = rw (h, levels_dropped (length ws) limit, ← e) refl

  pub operand_fails : (f : ParseFault) (d : ℕ) → GoingOperations limit ws rest total → d ≡ limit - length ws → sign rest ≡ None → Fails f (read_postfix (expr_levels d) rest) → Fails f total
  operand_fails f d (zero, i, g) e h r = absurd (omega arith)
  operand_fails f d (suc k, i, g) e h r = fails_by f (g ∙ operand_next k d e h) (first_fails f (read_postfix (expr_levels d) rest) (after_operand k) r)

  module _ (x : Measured Expr) (behind : List Placed) where
    operator_read : (k : ℕ) (d : ℕ) (op : BinaryOp) (m : Place) (more : List Placed) → d ≡ limit - length ws → sign rest ≡ None → read_postfix (expr_levels d) rest ≡ Ok (x, behind) → operator behind ≡ Some ((op, m), more)
        → read_operations read_postfix (expr_levels limit) (suc k) ws rest ≡ (taken limit op m (reduced (priority op) ws (operand x postfix_priority)) >>= λ vs. read_operations read_postfix (expr_levels limit) k vs more)
    unfolding read_operations
    operator_read k d op m more e h r o = rw (h, levels_dropped (length ws) limit, ← e, r, o) (behind_taken limit op m (reduced (priority op) ws (operand x postfix_priority)) (λ vs. read_operations read_postfix (expr_levels limit) k vs more))

    pub operator_step : (d : ℕ) (op : BinaryOp) (m : Place) (more : List Placed) (vs : List Waiting)
        → GoingOperations limit ws rest total → d ≡ limit - length ws → sign rest ≡ None → read_postfix (expr_levels d) rest ≡ Ok (x, behind) → operator behind ≡ Some ((op, m), more)
        → taken limit op m (reduced (priority op) ws (operand x postfix_priority)) ≡ Ok vs → length more < length rest → GoingOperations limit vs more total
    operator_step d op m more vs (zero, i, g) e h r o t l = absurd (omega arith)
    operator_step d op m more vs (suc k, i, g) e h r o t l = (k, omega arith, g ∙ (operator_read k d op m more e h r o ∙ rw t refl))

    pub operator_fails : (f : ParseFault) (d : ℕ) (op : BinaryOp) (m : Place) (more : List Placed)
        → GoingOperations limit ws rest total → d ≡ limit - length ws → sign rest ≡ None → read_postfix (expr_levels d) rest ≡ Ok (x, behind) → operator behind ≡ Some ((op, m), more)
        → Fails f (taken limit op m (reduced (priority op) ws (operand x postfix_priority))) → Fails f total
    operator_fails f d op m more (zero, i, g) e h r o t = absurd (omega arith)
    operator_fails f d op m more (suc k, i, g) e h r o t =
        fails_by f (g ∙ operator_read k d op m more e h r o) (first_fails f (taken limit op m (reduced (priority op) ws (operand x postfix_priority))) (λ vs. read_operations read_postfix (expr_levels limit) k vs more) t)

    operand_read : (k : ℕ) (d : ℕ) → d ≡ limit - length ws → sign rest ≡ None → read_postfix (expr_levels d) rest ≡ Ok (x, behind) → operator behind ≡ None
        → read_operations read_postfix (expr_levels limit) (suc k) ws rest ≡ ended (whole ws (operand x postfix_priority)) behind
    unfolding read_operations
    operand_read k d e h r o = rw (h, levels_dropped (length ws) limit, ← e, r, o) refl

    pub operand_ends : (d : ℕ) (w : Measured Expr) (p : Pending) → GoingOperations limit ws rest total → d ≡ limit - length ws → sign rest ≡ None → read_postfix (expr_levels d) rest ≡ Ok (x, behind) → operator behind ≡ None
        → p ≡ reduced zero ws (operand x postfix_priority) → w ≡ p.operand.expr → total ≡ ended w behind
    operand_ends d w p (zero, i, g) e h r o q v = absurd (omega arith)
    operand_ends d w p (suc k, i, g) e h r o q v = g ∙ (operand_read k d e h r o ∙ rw (v, q) refl)

-- ---- where an expression ends

-- what was read, or this where nothing was
first_of : Answer (Measured Expr × List Placed) → Measured Expr → Measured Expr
first_of (Ok x) e = x.0
first_of (Err f) e = e

by_form : (form : Option (List ℕ)) (e : Measured Expr) (ts : List Placed) (p : Place) → first_of (in_case form (Ok (e, ts)) (λ f. outside f p)) e ≡ e
unfolding first_of
by_form None e ts p = refl
by_form (Some f) e ts p = refl

kept : (e : Measured Expr) (ts : List Placed) → first_of (ended e ts) e ≡ e
unfolding first_of ended
kept e [] = refl
kept e (t ∷ ts) = by_form (outside_behind t.token) e (t ∷ ts) t.place

same_expr : (e : Measured Expr) (ts : List Placed) (x : Measured Expr) (rest : List Placed) → ended e ts ≡ Ok (x, rest) → x ≡ e
unfolding first_of
same_expr e ts x rest h = sym (ap (λ a. first_of a e) h) ∙ kept e ts

-- what ends has as many levels as before
pub ended_low : (limit : ℕ) (e : Measured Expr) (ts : List Placed) (r : Result (Measured Expr × Bor (List Placed)) ParseFault) → Gives (λ x. (x.0, x.1.now)) r (ended e ts) → e.height.depth ≤ limit → IfOk r (λ x. x.0.height.depth ≤ limit)
ended_low limit e ts (Ok x) h l = let same = same_expr e ts x.0 x.1.now h in subst (λ (y : Measured Expr). y.height.depth ≤ limit) (sym same) l
ended_low limit e ts (Err f) h l = tt
