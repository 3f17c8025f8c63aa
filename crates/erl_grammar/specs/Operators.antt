-- The operators of expressions: their texts, how tightly each binds, and to which side it groups (Erlang Reference Manual, "Operator Precedence"). That `andalso` and `orelse` group to the right is this profile's own choice; grouped to either side they give the same values.
use Rattle.std.specs.Prelude.{ℕ, suc, nat_le, ◌==◌, if◌then◌else◌, codes}
use Rattle.erl_tree.specs.declared.token.Token.{Token}
use Rattle.erl_tree.specs.declared.token.Token.TheVariants as T
use Rattle.erl_tree.specs.declared.expr.UnaryOp.{UnaryOp}
use Rattle.erl_tree.specs.declared.expr.UnaryOp.TheVariants.{Plus, Minus, Not}
use Rattle.erl_tree.specs.declared.expr.BinaryOp.{BinaryOp}
use Rattle.erl_tree.specs.declared.expr.BinaryOp.TheVariants.{Orelse, Andalso, Eq, Ne, ExactEq, ExactNe, Lt, Gt, Le, Ge, Append, Add, Sub, Or, Xor, Mul, Div, Rem, And}

-- the token of an operator in front of its operand
abbrev pub unary_token : UnaryOp → Token
unary_token Plus = T.Mark (codes "+")
unary_token Minus = T.Mark (codes "-")
unary_token Not = T.Word (codes "not")

-- the token of an operator between its operands
abbrev pub operator_token : BinaryOp → Token
operator_token Orelse = T.Word (codes "orelse")
operator_token Andalso = T.Word (codes "andalso")
operator_token Eq = T.Mark (codes "==")
operator_token Ne = T.Mark (codes "/=")
operator_token ExactEq = T.Mark (codes "=:=")
operator_token ExactNe = T.Mark (codes "=/=")
operator_token Lt = T.Mark (codes "<")
operator_token Gt = T.Mark (codes ">")
operator_token Le = T.Mark (codes "=<")
operator_token Ge = T.Mark (codes ">=")
operator_token Append = T.Mark (codes "++")
operator_token Add = T.Mark (codes "+")
operator_token Sub = T.Mark (codes "-")
operator_token Or = T.Word (codes "or")
operator_token Xor = T.Word (codes "xor")
operator_token Mul = T.Mark (codes "*")
operator_token Div = T.Word (codes "div")
operator_token Rem = T.Word (codes "rem")
operator_token And = T.Word (codes "and")

-- the side to which operators of one priority group; comparisons group to none
pub data Associativity : Type 0 where
  left_associative : Associativity
  right_associative : Associativity
  non_associative : Associativity

-- how tightly an operator between operands binds; a greater number binds more tightly
abbrev pub priority : BinaryOp → ℕ
priority Orelse = 1
priority Andalso = 2
priority Eq = 3
priority Ne = 3
priority ExactEq = 3
priority ExactNe = 3
priority Lt = 3
priority Gt = 3
priority Le = 3
priority Ge = 3
priority Append = 4
priority Add = 5
priority Sub = 5
priority Or = 5
priority Xor = 5
priority Mul = 6
priority Div = 6
priority Rem = 6
priority And = 6

-- how tightly an operator in front of its operand binds
abbrev pub unary_priority : ℕ
unary_priority = 7

-- the side to which operators of a priority group
abbrev pub associativity_of : ℕ → Associativity
associativity_of n = if n == 3 then non_associative else (if nat_le n 4 then right_associative else left_associative)

-- how tightly the left operand binds at least, beside an operator of such a priority that groups to this side
abbrev pub left_of : Associativity → ℕ → ℕ
left_of left_associative n = n
left_of _ n = suc n

-- the same of the right operand
abbrev pub right_of : Associativity → ℕ → ℕ
right_of right_associative n = n
right_of _ n = suc n

-- how tightly an operator's left operand binds at least
abbrev pub left_priority : BinaryOp → ℕ
left_priority op = left_of (associativity_of (priority op)) (priority op)

-- how tightly an operator's right operand binds at least
abbrev pub right_priority : BinaryOp → ℕ
right_priority op = right_of (associativity_of (priority op)) (priority op)
