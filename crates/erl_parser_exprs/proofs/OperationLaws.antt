-- Operators: what is read is well formed and takes exactly its tokens.
use Rattle.std.proofs.Common.{◌≡◌, ℕ, zero, suc, ◌-◌, ◌≤◌, ◌<◌, Bool, true, false, List, [], ◌∷◌, ◌++◌, length, refl, ap, sym, ◌∙◌, subst, leb-true, leb-false, append_assoc, append-nil, length-drop, arith}
use Rattle.std.specs.Prelude.{drop, nat_le, if◌then◌else◌}
use Rattle.erl_tree.specs.declared.token.Place.{Place}
use Rattle.erl_tree.specs.declared.token.Placed.{Placed}
use Rattle.erl_tree.specs.declared.expr.UnaryOp.{UnaryOp}
use Rattle.erl_tree.specs.declared.expr.BinaryOp.{BinaryOp}
use Rattle.erl_tree.specs.declared.expr.ExprKind.TheVariants as X
use Rattle.erl_grammar.specs.declared.head.Head.{Head}
use Rattle.erl_grammar.specs.Pieces.{at}
use Rattle.erl_grammar.specs.Operators.{unary_token, operator_token, priority, unary_priority, left_priority}
use Rattle.erl_grammar.specs.Spelling.{expr_tokens}
use Rattle.erl_grammar.specs.Nesting.{expr_kind_deep, expr_deep}
use Rattle.erl_grammar.specs.Grammar.{node, IsExpr, operation, unary, postfix, IsPostfix}
use Rattle.erl_grammar.proofs.SpellingLaws.{expr_shown-Unary, expr_shown-Binary}
use Rattle.erl_grammar.proofs.NestingLaws.{expr_kind_deep-Unary, expr_kind_deep-Binary}
use Rattle.erl_parser_tokens.specs.declared.height.Height.{Height}
use Rattle.erl_parser_tokens.specs.declared.height.Measured.{Measured}
use Rattle.erl_parser_exprs.specs.declared.operators.Waiting.{Waiting}
use Rattle.erl_parser_exprs.specs.declared.operators.Waiting.TheVariants.{Sign, Operator}
use Rattle.erl_parser_tokens.specs.Heights.{higher, above}
use Rattle.erl_parser_tokens.specs.Tokens.{Answer, Reads, in_case, ended, operator}
use Rattle.erl_parser_exprs.specs.Operations.{Expr, Operand, operand, asks, strength, joined, Pending, pending, reduced, whole, postfix_priority, with_room, behind_operator, read_operations, read_expr_with}
use Rattle.erl_parser_tokens.proofs.Right.{Measures}
use Rattle.erl_parser_tokens.proofs.HeightLaws.{measures_as, both_measured, node_measured, higher_within, above_within}
use Rattle.erl_parser_tokens.proofs.Then.{behind_part, Right, right_fault, right_as, right_behind, right_next, right_case, right_if, right_within, IsRead}
use Rattle.erl_parser_tokens.proofs.TokenLaws.{ended-right, sign-takes, operator-takes}
use Rattle.erl_parser_exprs.proofs.PriorityLaws.{bounded, right_priority-more}

-- ---- nodes with operators

-- an operand behind a sign
abbrev pub sign_node : UnaryOp → Place → Expr → Expr
sign_node op p e = node p (p ∷ []) (X.Unary op e)

-- two operands with an operator between them
abbrev pub operator_node : BinaryOp → Expr → Place → Expr → Expr
operator_node op a m b = node a.place (m ∷ []) (X.Binary op a b)

pub sign_text : (op : UnaryOp) (p : Place) (e : Expr) → expr_tokens (sign_node op p e) ≡ at (unary_token op) p ∷ expr_tokens e
sign_text op p e = expr_shown-Unary op e (p ∷ []) ∙ ap (λ ts. at (unary_token op) p ∷ ts) (append-nil (expr_tokens e))

pub operator_text : (op : BinaryOp) (a : Expr) (m : Place) (b : Expr) → expr_tokens (operator_node op a m b) ≡ expr_tokens a ++ at (operator_token op) m ∷ expr_tokens b
operator_text op a m b = expr_shown-Binary op a b (m ∷ []) ∙ ap (λ ts. expr_tokens a ++ at (operator_token op) m ∷ ts) (append-nil (expr_tokens b))

pub sign_measured : (op : UnaryOp) (p : Place) (e : Expr) (h : Height) → Measures (expr_deep e) h → Measures (expr_deep (sign_node op p e)) (above p h)
sign_measured op p e h m = node_measured (node p (p ∷ []) (expr_kind_deep (X.Unary op e))) h (measures_as (λ levels. expr_kind_deep-Unary op e levels) m)

pub operator_measured : (op : BinaryOp) (a : Expr) (m : Place) (b : Expr) (h k : Height) → Measures (expr_deep a) h → Measures (expr_deep b) k → Measures (expr_deep (operator_node op a m b)) (above a.place (higher h k))
operator_measured op a m b h k l r = node_measured (node a.place (m ∷ []) (expr_kind_deep (X.Binary op a b))) (higher h k) (measures_as (λ levels. expr_kind_deep-Binary op a b levels) (both_measured l r))

-- an expression has a level at least
pub expr_measured-positive : (e : Expr) (h : Height) → Measures (expr_deep e) h → 1 ≤ h.depth
expr_measured-positive e h m = by h.depth refl
  where
    by : (d : ℕ) → h.depth ≡ d → 1 ≤ h.depth
    by zero g = absurd (some (m.shallow zero (omega arith)))
      where
        some : e.place ∷ expr_kind_deep e.kind 0 ≡ [] → ⊥
        some c = absurd cc
    by (suc d) g = omega arith

-- what binds so tightly, binds less tightly too
pub expr_looser : {least less : ℕ} {e : Expr} → less ≤ least → IsExpr least e → IsExpr less e
expr_looser {less = less} l (operation least op a b m h f g) = operation less op a b m (omega arith) f g
expr_looser {less = less} l (unary least op p e h f) = unary less op p e (omega arith) f
expr_looser {less = less} l (postfix least head e h) = postfix less head e h

-- ---- operators that wait

-- how tightly the right side of the last one binds at least
abbrev pub asked : List Waiting → ℕ
asked [] = 0
asked (w ∷ ws) = asks w

-- the tokens of an operator that waits, with its left side
abbrev pub front_tokens : Waiting → List Placed
front_tokens (Sign op p) = at (unary_token op) p ∷ []
front_tokens (Operator left op m) = expr_tokens left.tree ++ at (operator_token op) m ∷ []

abbrev pub waiting_tokens : List Waiting → List Placed
waiting_tokens [] = []
waiting_tokens (w ∷ ws) = waiting_tokens ws ++ front_tokens w

-- an operator that waits for the right side of a node with at most so many levels
abbrev pub IsWaiting : ℕ → Waiting → Type 0
IsWaiting d (Sign op p) = 1 ≤ d
IsWaiting d (Operator left op m) = IsExpr (left_priority op) left.tree × Measures (expr_deep left.tree) left.height × (left.height.depth < d)

-- the operators that wait, where the whole has at most so many levels
abbrev pub AreWaiting : ℕ → List Waiting → Type 0
AreWaiting n [] = Unit {0}
AreWaiting n (w ∷ ws) = IsWaiting (n - length ws) w × (asked ws ≤ strength w) × AreWaiting n ws

-- an operand behind operators that wait
pub record IsOperand (n : ℕ) (ws : List Waiting) (o : Operand) : Type 0 where
  pub formed : IsExpr o.binds o.expr.tree
  pub fits : asked ws ≤ o.binds
  pub measures : Measures (expr_deep o.expr.tree) o.expr.height
  pub within : o.expr.height.depth ≤ n - length ws

-- operators that wait and an operand, with these tokens
pub record ArePending (n : ℕ) (ts : List Placed) (limit : ℕ) (r : Pending) : Type 0 where
  pub waits : AreWaiting n r.waiting
  pub operates : IsOperand n r.waiting r.operand
  pub takes : ts ≡ waiting_tokens r.waiting ++ expr_tokens r.operand.expr.tree
  pub low : asked r.waiting ≤ limit

pub asks-positive : (w : Waiting) → 1 ≤ asks w
asks-positive (Sign op p) = omega arith
asks-positive (Operator left op m) = omega (arith, right_priority-more op, (bounded op).positive)

asked-most : (ws : List Waiting) → asked ws ≤ 7
asked-most [] = omega arith
asked-most (Sign op p ∷ ws) = omega arith
asked-most (Operator left op m ∷ ws) = (bounded op).right_most

-- an operator takes its right side
joined_is : (n : ℕ) (w : Waiting) (ws : List Waiting) (o : Operand) → AreWaiting n (w ∷ ws) → IsOperand n (w ∷ ws) o → IsOperand n ws (operand (joined w o.expr) (strength w))
joined_is n (Sign op p) ws o a i = record {
  formed = unary unary_priority op p o.expr.tree (omega arith) (expr_looser i.fits i.formed);
  fits = a.1;
  measures = sign_measured op p o.expr.tree o.expr.height i.measures;
  within = omega (arith, a.0, i.within, above_within p o.expr.height (n - length (Sign op p ∷ ws)) i.within);
}
joined_is n (Operator left op m) ws o a i = record {
  formed = operation (priority op) op left.tree o.expr.tree m (omega arith) a.0.0 (expr_looser i.fits i.formed);
  fits = a.1;
  measures = operator_measured op left.tree m o.expr.tree left.height o.expr.height a.0.1 i.measures;
  within = omega (arith, a.0.2, i.within, above_within left.tree.place (higher left.height o.expr.height) (n - length (Operator left op m ∷ ws)) (higher_within left.height o.expr.height (n - length (Operator left op m ∷ ws)) (omega (arith, a.0.2)) i.within));
}

joined_text : (w : Waiting) (e : Measured Expr) → front_tokens w ++ expr_tokens e.tree ≡ expr_tokens (joined w e).tree
joined_text (Sign op p) e = sym (sign_text op p e.tree)
joined_text (Operator left op m) e = append_assoc (expr_tokens left.tree) (at (operator_token op) m ∷ []) (expr_tokens e.tree) ∙ sym (operator_text op left.tree m e.tree)

waiting_text : (w : Waiting) (ws : List Waiting) (e : Measured Expr) → waiting_tokens (w ∷ ws) ++ expr_tokens e.tree ≡ waiting_tokens ws ++ expr_tokens (joined w e).tree
waiting_text w ws e = append_assoc (waiting_tokens ws) (front_tokens w) (expr_tokens e.tree) ∙ ap (λ ts. waiting_tokens ws ++ ts) (joined_text w e)

pub reduced_is : (n limit : ℕ) (ws : List Waiting) (o : Operand) → AreWaiting n ws → IsOperand n ws o → ArePending n (waiting_tokens ws ++ expr_tokens o.expr.tree) limit (reduced limit ws o)
unfolding reduced
reduced_is n limit [] o a i = record { waits = tt; operates = i; takes = refl; low = omega arith }
reduced_is n limit (w ∷ ws) o a i = by (nat_le (suc limit) (asks w)) refl (rw (waiting_text w ws o.expr) (reduced_is n limit ws (operand (joined w o.expr) (strength w)) a.2 (joined_is n w ws o a i)))
  where
    by : (b : Bool) → nat_le (suc limit) (asks w) ≡ b → ArePending n (waiting_tokens (w ∷ ws) ++ expr_tokens o.expr.tree) limit (reduced limit ws (operand (joined w o.expr) (strength w)))
        → ArePending n (waiting_tokens (w ∷ ws) ++ expr_tokens o.expr.tree) limit (if b then reduced limit ws (operand (joined w o.expr) (strength w)) else pending (w ∷ ws) o)
    by true e r = r
    by false e r = record { waits = a; operates = i; takes = refl; low = omega (arith, leb-false (suc limit) (asks w) e) }

-- the whole, with these tokens
pub record IsWhole (n : ℕ) (ts : List Placed) (e : Measured Expr) : Type 0 where
  pub formed : IsExpr 0 e.tree
  pub takes : ts ≡ expr_tokens e.tree
  pub measures : Measures (expr_deep e.tree) e.height
  pub within : e.height.depth ≤ n

none_waits : (n : ℕ) (ts : List Placed) (ws : List Waiting) (o : Operand) → ArePending n ts 0 (pending ws o) → IsWhole n ts o.expr
none_waits n ts [] o r = record { formed = expr_looser (omega arith) r.operates.formed; takes = r.takes; measures = r.operates.measures; within = omega (arith, r.operates.within) }
none_waits n ts (w ∷ ws) o r = absurd (omega (arith, r.low, asks-positive w))

pub whole_is : (n : ℕ) (ws : List Waiting) (o : Operand) → AreWaiting n ws → IsOperand n ws o → IsWhole n (waiting_tokens ws ++ expr_tokens o.expr.tree) (whole ws o)
whole_is n ws o a i = none_waits n (waiting_tokens ws ++ expr_tokens o.expr.tree) (reduced 0 ws o).waiting (reduced 0 ws o).operand (reduced_is n 0 ws o a i)

-- ---- the reader

-- a node that begins there has a level
room_right : {L X : Type 0} {G : X → Type 0} {ts : List Placed} (ls : List L) (p : Place) (answer : Answer X) → (1 ≤ length ls → Right G ts answer) → Right G ts (with_room ls p answer)
room_right [] p answer k = right_fault tt
room_right (l ∷ ls) p answer k = k (omega arith)

-- an expression without operators
abbrev pub IsAnyPostfix : Expr → Type 0
IsAnyPostfix e = (head : Head) × IsPostfix head e

tokens_text : (front e us : List Placed) (t : Placed) → (front ++ e) ++ (t ∷ us) ≡ (front ++ (e ++ t ∷ [])) ++ us
tokens_text front e us t = append_assoc front e (t ∷ us) ∙ sym (append_assoc front (e ++ t ∷ []) us ∙ ap (λ ts. front ++ ts) (append_assoc e (t ∷ []) us))

module _ {L : Type 0} (inner : List L → Reads (Measured Expr)) (levels : List L) (inner_right : (s : ℕ) (ts : List Placed) → Right (IsRead IsAnyPostfix expr_tokens expr_deep (length (drop s levels)) ts) ts (inner (drop s levels) ts)) where
  -- an expression was read
  abbrev IsExprRead : List Placed → Measured Expr × List Placed → Type 0
  IsExprRead all q = IsRead (IsExpr 0) expr_tokens expr_deep (length levels) all q

  end_right : (all : List Placed) (ws : List Waiting) (o : Operand) (us : List Placed) → AreWaiting (length levels) ws → IsOperand (length levels) ws o → all ≡ (waiting_tokens ws ++ expr_tokens o.expr.tree) ++ us
      → Right (IsExprRead all) all (ended (whole ws o) us)
  end_right all ws o us a i e =
      let w = whole_is (length levels) ws o a i in
      let g : IsExprRead all (whole ws o, us) = record { formed = w.formed; takes = e ∙ ap (λ ts. ts ++ us) w.takes; measures = w.measures; within = w.within } in
      right_as (λ q h. subst (IsExprRead all) (sym h) g) (right_behind (behind_part [] g.takes) (ended-right (whole ws o) (whole ws o).tree us w.formed))

  -- reading goes on rightly
  abbrev GoesOn : ℕ → Type 0
  GoesOn k = (ws : List Waiting) (ts all : List Placed) → AreWaiting (length levels) ws → all ≡ waiting_tokens ws ++ ts → Right (IsExprRead all) all (read_operations inner levels k ws ts)

  operator_right : (k : ℕ) → GoesOn k → (all : List Placed) (op : BinaryOp) (m : Place) (r : Pending) (ts us : List Placed) → ArePending (length levels) ts (priority op) r → all ≡ ts ++ at (operator_token op) m ∷ us
      → Right (IsExprRead all) all (behind_operator levels op m r (λ vs. read_operations inner levels k vs us))
  operator_right k go all op m r ts us p e = right_if
      (λ b. right_within (length (drop (suc (length r.waiting)) levels)) r.operand.expr (λ l. go (Operator r.operand.expr op m ∷ r.waiting) us all
      ((expr_looser (leb-true _ _ b) p.operates.formed, p.operates.measures, omega (arith, l, length-drop (suc (length r.waiting)) levels, expr_measured-positive r.operand.expr.tree r.operand.expr.height p.operates.measures)), p.low, p.waits)
      (e ∙ (ap (λ vs. vs ++ at (operator_token op) m ∷ us) p.takes ∙ tokens_text (waiting_tokens r.waiting) (expr_tokens r.operand.expr.tree) us (at (operator_token op) m)))))
      (λ b. right_fault tt)

  sign_right : (k : ℕ) → GoesOn k → (all : List Placed) (op : UnaryOp) (p : Place) (ws : List Waiting) (us : List Placed) → AreWaiting (length levels) ws → all ≡ waiting_tokens ws ++ at (unary_token op) p ∷ us
      → Right (IsExprRead all) all (with_room (drop (length ws) levels) p (read_operations inner levels k (Sign op p ∷ ws) us))
  sign_right k go all op p ws us a e = room_right (drop (length ws) levels) p _ (λ l. go (Sign op p ∷ ws) us all
      (omega (arith, l, length-drop (length ws) levels), asked-most ws, a)
      (e ∙ sym (append_assoc (waiting_tokens ws) (at (unary_token op) p ∷ []) us)))

  operand_right : (k : ℕ) → GoesOn k → (all : List Placed) (ws : List Waiting) (e : Measured Expr) (us : List Placed) → AreWaiting (length levels) ws → IsOperand (length levels) ws (operand e postfix_priority) → all ≡ (waiting_tokens ws ++ expr_tokens e.tree) ++ us
      → Right (IsExprRead all) all (in_case (operator us) (ended (whole ws (operand e postfix_priority)) us) (λ o. behind_operator levels o.0.0 o.0.1 (reduced (priority o.0.0) ws (operand e postfix_priority)) (λ vs. read_operations inner levels k vs o.1)))
  operand_right k go all ws e us a i t = right_case
      (λ n. end_right all ws (operand e postfix_priority) us a i t)
      (λ o h. operator_right k go all o.0.0 o.0.1 (reduced (priority o.0.0) ws (operand e postfix_priority)) (waiting_tokens ws ++ expr_tokens e.tree) o.1 (reduced_is (length levels) (priority o.0.0) ws (operand e postfix_priority) a i) (t ∙ ap (λ vs. (waiting_tokens ws ++ expr_tokens e.tree) ++ vs) (operator-takes us o h)))

  operations_right : (k : ℕ) → GoesOn k
  unfolding read_operations
  operations_right zero ws ts all a e = right_fault tt
  operations_right (suc k) ws ts all a e = right_case
      (λ n. right_next (behind_part (waiting_tokens ws) e) (inner_right (length ws) ts) (λ q g. operand_right k (operations_right k) all ws q.0 q.1 a
      (record { formed = postfix postfix_priority g.formed.0 q.0.tree g.formed.1; fits = omega (arith, asked-most ws); measures = g.measures; within = omega (arith, g.within, length-drop (length ws) levels) })
      (e ∙ (ap (λ us. waiting_tokens ws ++ us) g.takes ∙ sym (append_assoc (waiting_tokens ws) (expr_tokens q.0.tree) q.1)))))
      (λ s h. sign_right k (operations_right k) all s.0.0 s.0.1 ws s.1 a (e ∙ ap (λ us. waiting_tokens ws ++ us) (sign-takes ts s h)))

  -- what is read is well formed, takes its tokens, is measured and has at most as many levels as are left
  pub read_expr_with-right : (ts : List Placed) → Right (IsRead (IsExpr 0) expr_tokens expr_deep (length levels) ts) ts (read_expr_with inner levels ts)
  read_expr_with-right ts = operations_right (suc (length ts)) [] ts ts tt refl
