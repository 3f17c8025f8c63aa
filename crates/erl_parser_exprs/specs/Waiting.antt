-- The operators that wait for their right side, as the parser keeps them.
use Rattle.std.specs.Prelude.{ℕ, suc, ◌+◌, ◌≤◌, ◌-◌, List, [], ◌∷◌, length, reverse, Ok, Err, nat_le, if◌then◌else◌}
use Rattle.erl_tree.specs.declared.token.Place.{Place}
use Rattle.erl_tree.specs.declared.expr.BinaryOp.{BinaryOp}
use Rattle.erl_grammar.specs.Operators.{left_priority}
use Rattle.erl_parser_tokens.specs.declared.fault.ParseFault.TheVariants as faults
use Rattle.erl_parser_exprs.specs.declared.operators.Operand.{Operand as Found}
use Rattle.erl_parser_exprs.specs.declared.operators.Operators.{Operators}
use Rattle.erl_parser_exprs.specs.declared.operators.Waiting.{Waiting}
use Rattle.erl_parser_exprs.specs.declared.operators.Waiting.TheVariants.{Sign, Operator}
use Rattle.erl_parser_tokens.specs.Tokens.{Answer}
use Rattle.erl_parser_tokens.specs.Parts.{within}
use Rattle.erl_parser_exprs.specs.Operations.{Operand, operand, Pending, asks}

-- an operand that is complete
abbrev pub operand_seen : Found → Operand
operand_seen o = operand o.expr o.binds

-- the operators that wait, the last one first
abbrev pub waits : Operators → List Waiting
waits s = reverse s.waiting.items

-- how many levels the left operand of an operator that waits has
abbrev pub left_depth : Waiting → ℕ
left_depth (Sign op p) = 0
left_depth (Operator left op m) = left.height.depth

-- each operator that waits, with its left operand, stands within so many levels
unfoldable pub FitIn : ℕ → List Waiting → Type 0
FitIn levels [] = Unit {0}
FitIn levels (w ∷ ws) = (left_depth w + suc (length ws) ≤ levels) × FitIn levels ws

-- how tightly the right side of the last operator binds at least, or 0 where none waits
abbrev pub asks_last : List Waiting → ℕ
asks_last [] = 0
asks_last (w ∷ ws) = asks w

-- the operators that wait, with one more that takes this operand as its left side, within so many levels in all
abbrev pub taken : ℕ → BinaryOp → Place → Pending → Answer (List Waiting)
taken levels op m r = if nat_le (left_priority op) r.operand.binds then within (levels - suc (length r.waiting)) r.operand.expr (Ok (Operator r.operand.expr op m ∷ r.waiting)) else Err (faults.Unexpected m)
