-- Reading expressions with operators. One list holds the operators that still wait for their right side, the last one first. An operator takes its right side as soon as an operator follows that binds less tightly, or the expression ends.
use Rattle.std.specs.Prelude.{ℕ, zero, suc, List, [], ◌∷◌, length, Err, nat_le, drop, if◌then◌else◌}
use Rattle.erl_tree.specs.declared.token.Place.{Place}
use Rattle.erl_tree.specs.declared.token.Node.{Node}
use Rattle.erl_tree.specs.declared.expr.BinaryOp.{BinaryOp}
use Rattle.erl_tree.specs.declared.expr.ExprKind.{ExprKind}
use Rattle.erl_tree.specs.declared.expr.ExprKind.TheVariants as X
use Rattle.erl_grammar.specs.Operators.{priority, unary_priority, left_priority, right_priority}
use Rattle.erl_parser_tokens.specs.declared.height.Measured.{Measured}
use Rattle.erl_parser_exprs.specs.declared.operators.Waiting.{Waiting}
use Rattle.erl_parser_exprs.specs.declared.operators.Waiting.TheVariants.{Sign, Operator}
use Rattle.erl_parser_tokens.specs.declared.fault.ParseFault.TheVariants as faults
use Rattle.erl_parser_tokens.specs.Heights.{higher}
use Rattle.erl_parser_tokens.specs.Tokens.{Answer, Reads, ◌>>=◌, in_case, unexpected, sign, operator, ended}
use Rattle.erl_parser_tokens.specs.Parts.{built, within}

-- an expression
abbrev pub Expr : Type 0
Expr = Node ExprKind

-- an operand that is complete, and how tightly it binds
pub record Operand : Type 0 where
  pub expr : Measured Expr
  pub binds : ℕ

abbrev pub operand : Measured Expr → ℕ → Operand
operand e n = record { expr = e; binds = n }

-- how tightly the right side of an operator that waits binds at least
abbrev pub asks : Waiting → ℕ
asks (Sign op p) = unary_priority
asks (Operator left op m) = right_priority op

-- how tightly an operator that waits binds
abbrev pub strength : Waiting → ℕ
strength (Sign op p) = unary_priority
strength (Operator left op m) = priority op

-- an operator with its right side
abbrev pub joined : Waiting → Measured Expr → Measured Expr
joined (Sign op p) e = built p (p ∷ []) (X.Unary op e.tree) e.height
joined (Operator left op m) e = built left.tree.place (m ∷ []) (X.Binary op left.tree e.tree) (higher left.height e.height)

-- the operators that still wait, and the operand
pub record Pending : Type 0 where
  pub waiting : List Waiting
  pub operand : Operand

abbrev pub pending : List Waiting → Operand → Pending
pending ws o = record { waiting = ws; operand = o }

-- each operator whose right side must bind more tightly than this takes the operand
unfoldable pub reduced : ℕ → List Waiting → Operand → Pending
reduced limit [] o = pending [] o
reduced limit (w ∷ ws) o = if nat_le (suc limit) (asks w) then reduced limit ws (operand (joined w o.expr) (strength w)) else pending (w ∷ ws) o

-- the expression whose last operand this is
abbrev pub whole : List Waiting → Operand → Measured Expr
whole ws o = (reduced zero ws o).operand.expr

-- how tightly an expression without operators binds
abbrev pub postfix_priority : ℕ
postfix_priority = 8

-- what follows where there is a level for a node that begins at this place
abbrev pub with_room : {A B : Type 0} → List A → Place → Answer B → Answer B
with_room [] p answer = Err (faults.TooDeep p)
with_room (l ∷ ls) p answer = answer

-- what follows an operand behind which this operator stands, which takes it as its left side
abbrev pub behind_operator : {A B : Type 0} → List A → BinaryOp → Place → Pending → (List Waiting → Answer B) → Answer B
behind_operator levels op m r go = if nat_le (left_priority op) r.operand.binds then within (length (drop (suc (length r.waiting)) levels)) r.operand.expr (go (Operator r.operand.expr op m ∷ r.waiting)) else Err (faults.Unexpected m)

-- signs, operands and operators from there on, with the operators that wait; an operand is read with as many levels fewer as operators wait
unfoldable pub read_operations : {A : Type 0} → (List A → Reads (Measured Expr)) → List A → ℕ → List Waiting → Reads (Measured Expr)
read_operations postfix levels zero ws ts = unexpected ts
read_operations postfix levels (suc k) ws ts = in_case (sign ts)
    (postfix (drop (length ws) levels) ts >>= λ e. in_case (operator e.1) (ended (whole ws (operand e.0 postfix_priority)) e.1)
    (λ o. behind_operator levels o.0.0 o.0.1 (reduced (priority o.0.0) ws (operand e.0 postfix_priority)) (λ vs. read_operations postfix levels k vs o.1)))
    (λ s. with_room (drop (length ws) levels) s.0.1 (read_operations postfix levels k (Sign s.0.0 s.0.1 ∷ ws) s.1))

-- an expression: the operands are read by this reader, with these levels
abbrev pub read_expr_with : {A : Type 0} → (List A → Reads (Measured Expr)) → List A → Reads (Measured Expr)
read_expr_with postfix levels ts = read_operations postfix levels (suc (length ts)) [] ts
