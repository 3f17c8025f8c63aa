-- Small trees, for the examples. The tokens of each lie in the first line, at the columns of its text.
use Rattle.std.specs.Prelude.{ℕ, ℤ, pos, List, [], ◌∷◌, Some, None, true, false, codes}
use Rattle.type_terms.specs.Keys.{Name}
use Rattle.erl_tree.specs.SmallText.{place, placed}
use Rattle.erl_tree.specs.declared.token.Placed.{Placed}
use Rattle.erl_tree.specs.declared.token.Node.{Node}
use Rattle.erl_tree.specs.declared.token.Token.TheVariants as T
use Rattle.erl_tree.specs.declared.expr.UnaryOp.{UnaryOp}
use Rattle.erl_tree.specs.declared.expr.UnaryOp.TheVariants.{Minus, Not}
use Rattle.erl_tree.specs.declared.expr.BinaryOp.{BinaryOp}
use Rattle.erl_tree.specs.declared.expr.BinaryOp.TheVariants.{Orelse, Andalso, Eq, Append, Sub, And}
use Rattle.erl_tree.specs.declared.expr.ExprKind.{ExprKind}
use Rattle.erl_tree.specs.declared.expr.ExprKind.TheVariants as X
use Rattle.erl_tree.specs.declared.expr.ItemKind.{ItemKind}
use Rattle.erl_tree.specs.declared.expr.ItemKind.TheVariants as I
use Rattle.erl_tree.specs.declared.expr.AssocKind.{AssocKind}
use Rattle.erl_grammar.specs.Grammar.{node, assoc_of}

-- ---- the parts of examples

-- an integer at a column
abbrev pub int_at : ℤ → ℕ → Node ExprKind
int_at n column = node (place column) (place column ∷ []) (X.Int n)

-- an atom at a column
abbrev pub atom_at : Name → ℕ → Node ExprKind
atom_at a column = node (place column) (place column ∷ []) (X.Atom a)

-- a variable at a column
abbrev pub var_at : Name → ℕ → Node ExprKind
var_at x column = node (place column) (place column ∷ []) (X.Var x)

-- an operator at a column, between its operands
abbrev pub binary_at : BinaryOp → ℕ → Node ExprKind → Node ExprKind → Node ExprKind
binary_at op column a b = node a.place (place column ∷ []) (X.Binary op a b)

-- an operator at a column, in front of its operand
abbrev pub unary_at : UnaryOp → ℕ → Node ExprKind → Node ExprKind
unary_at op column e = node (place column) (place column ∷ []) (X.Unary op e)

-- an expression between parentheses at two columns
abbrev pub paren_at : ℕ → ℕ → Node ExprKind → Node ExprKind
paren_at opened closed e = node (place opened) (place opened ∷ place closed ∷ []) (X.Paren e)

-- an expression applied to one argument between parentheses at two columns
abbrev pub apply_at : ℕ → ℕ → Node ExprKind → Node ExprKind → Node ExprKind
apply_at opened closed f argument = node f.place (place opened ∷ place closed ∷ []) (X.Apply f (argument ∷ []))

-- ---- operators

-- `1 - 2 - 3`, grouped to the left
abbrev pub minus_left : Node ExprKind
minus_left = binary_at Sub 7 (binary_at Sub 3 (int_at (pos 1) 1) (int_at (pos 2) 5)) (int_at (pos 3) 9)

-- the same, grouped to the right
abbrev pub minus_right : Node ExprKind
minus_right = binary_at Sub 3 (int_at (pos 1) 1) (binary_at Sub 7 (int_at (pos 2) 5) (int_at (pos 3) 9))

-- the tokens of `1 - 2 - 3`
abbrev pub minus_tokens : List Placed
minus_tokens = placed (T.Int (pos 1)) 1 ∷ placed (T.Mark (codes "-")) 3 ∷ placed (T.Int (pos 2)) 5 ∷ placed (T.Mark (codes "-")) 7 ∷ placed (T.Int (pos 3)) 9 ∷ []

-- `a ++ b ++ c`, grouped to the left
abbrev pub append_left : Node ExprKind
append_left = binary_at Append 8 (binary_at Append 3 (atom_at (codes "a") 1) (atom_at (codes "b") 6)) (atom_at (codes "c") 11)

-- the same, grouped to the right
abbrev pub append_right : Node ExprKind
append_right = binary_at Append 3 (atom_at (codes "a") 1) (binary_at Append 8 (atom_at (codes "b") 6) (atom_at (codes "c") 11))

-- `a == b == c`, grouped to the left
abbrev pub equals_left : Node ExprKind
equals_left = binary_at Eq 8 (binary_at Eq 3 (atom_at (codes "a") 1) (atom_at (codes "b") 6)) (atom_at (codes "c") 11)

-- the same, grouped to the right
abbrev pub equals_right : Node ExprKind
equals_right = binary_at Eq 3 (atom_at (codes "a") 1) (binary_at Eq 8 (atom_at (codes "b") 6) (atom_at (codes "c") 11))

-- `a andalso b orelse c`, as `(a andalso b) orelse c`
abbrev pub andalso_first : Node ExprKind
andalso_first = binary_at Orelse 13 (binary_at Andalso 3 (atom_at (codes "a") 1) (atom_at (codes "b") 11)) (atom_at (codes "c") 20)

-- the same, as `a andalso (b orelse c)`
abbrev pub orelse_first : Node ExprKind
orelse_first = binary_at Andalso 3 (atom_at (codes "a") 1) (binary_at Orelse 13 (atom_at (codes "b") 11) (atom_at (codes "c") 20))

-- `- - 1`
abbrev pub two_signs : Node ExprKind
two_signs = unary_at Minus 1 (unary_at Minus 3 (int_at (pos 1) 5))

-- the tokens of `- - 1`
abbrev pub two_signs_tokens : List Placed
two_signs_tokens = placed (T.Mark (codes "-")) 1 ∷ placed (T.Mark (codes "-")) 3 ∷ placed (T.Int (pos 1)) 5 ∷ []

-- `not a and b`, as `(not a) and b`
abbrev pub not_first : Node ExprKind
not_first = binary_at And 7 (unary_at Not 1 (atom_at (codes "a") 5)) (atom_at (codes "b") 11)

-- the same, as `not (a and b)`
abbrev pub and_first : Node ExprKind
and_first = unary_at Not 1 (binary_at And 7 (atom_at (codes "a") 5) (atom_at (codes "b") 11))

-- ---- what may follow an expression

-- `F(X)(Y)`
abbrev pub applied_twice : Node ExprKind
applied_twice = apply_at 5 7 (apply_at 2 4 (var_at (codes "F") 1) (var_at (codes "X") 3)) (var_at (codes "Y") 6)

-- the tokens of `F(X)(Y)`
abbrev pub applied_twice_tokens : List Placed
applied_twice_tokens = placed (T.Var (codes "F")) 1 ∷ placed (T.Mark (codes "(")) 2 ∷ placed (T.Var (codes "X")) 3 ∷ placed (T.Mark (codes ")")) 4 ∷ placed (T.Mark (codes "(")) 5 ∷ placed (T.Var (codes "Y")) 6 ∷ placed (T.Mark (codes ")")) 7 ∷ []

-- `(F(X))(Y)`
abbrev pub applied_in_parens : Node ExprKind
applied_in_parens = apply_at 7 9 (paren_at 1 6 (apply_at 3 5 (var_at (codes "F") 2) (var_at (codes "X") 4))) (var_at (codes "Y") 8)

-- `a => 1` in `M#{a => 1}#{b := 2}`
abbrev pub a_to_one : Node AssocKind
a_to_one = node (place 4) (place 6 ∷ []) (assoc_of (atom_at (codes "a") 4) false (int_at (pos 1) 9))

-- `b := 2` in `M#{a => 1}#{b := 2}`
abbrev pub b_to_two : Node AssocKind
b_to_two = node (place 13) (place 15 ∷ []) (assoc_of (atom_at (codes "b") 13) true (int_at (pos 2) 18))

-- `M#{a => 1}#{b := 2}`
abbrev pub changed_twice : Node ExprKind
changed_twice = node (place 1) (place 11 ∷ place 12 ∷ place 19 ∷ []) (X.MapChange (node (place 1) (place 2 ∷ place 3 ∷ place 10 ∷ []) (X.MapChange (var_at (codes "M") 1) (a_to_one ∷ []))) (b_to_two ∷ []))

-- the tokens of `M#{a => 1}#{b := 2}`
abbrev pub changed_twice_tokens : List Placed
changed_twice_tokens = placed (T.Var (codes "M")) 1
    ∷ placed (T.Mark (codes "#")) 2 ∷ placed (T.Mark (codes "{")) 3 ∷ placed (T.Atom (codes "a")) 4 ∷ placed (T.Mark (codes "=>")) 6 ∷ placed (T.Int (pos 1)) 9 ∷ placed (T.Mark (codes "}")) 10
    ∷ placed (T.Mark (codes "#")) 11 ∷ placed (T.Mark (codes "{")) 12 ∷ placed (T.Atom (codes "b")) 13 ∷ placed (T.Mark (codes ":=")) 15 ∷ placed (T.Int (pos 2)) 18 ∷ placed (T.Mark (codes "}")) 19 ∷ []

-- `#r{}`
abbrev pub empty_record : Node ExprKind
empty_record = node (place 1) (place 1 ∷ place 2 ∷ place 3 ∷ place 4 ∷ []) (X.RecNew (codes "r") (codes "r") [])

-- `#{}`
abbrev pub empty_map : Node ExprKind
empty_map = node (place 1) (place 1 ∷ place 2 ∷ place 3 ∷ []) (X.MapNew [])

-- `#r{}#r.f`
abbrev pub field_of_record : Node ExprKind
field_of_record = node (place 1) (place 5 ∷ place 6 ∷ place 7 ∷ place 8 ∷ []) (X.RecGet empty_record (codes "r") (codes "r") (codes "f"))

-- the tokens of `#r{}#r.f`
abbrev pub field_of_record_tokens : List Placed
field_of_record_tokens = placed (T.Mark (codes "#")) 1 ∷ placed (T.Atom (codes "r")) 2 ∷ placed (T.Mark (codes "{")) 3 ∷ placed (T.Mark (codes "}")) 4
    ∷ placed (T.Mark (codes "#")) 5 ∷ placed (T.Atom (codes "r")) 6 ∷ placed (T.Mark (codes ".")) 7 ∷ placed (T.Atom (codes "f")) 8 ∷ []

-- `#{}#r.f`
abbrev pub field_of_map : Node ExprKind
field_of_map = node (place 1) (place 4 ∷ place 5 ∷ place 6 ∷ place 7 ∷ []) (X.RecGet empty_map (codes "r") (codes "r") (codes "f"))

-- `a => 1` in `#r{}#{a => 1}`
abbrev pub a_to_one_later : Node AssocKind
a_to_one_later = node (place 7) (place 9 ∷ []) (assoc_of (atom_at (codes "a") 7) false (int_at (pos 1) 12))

-- `#r{}#{a => 1}`
abbrev pub changed_record_as_map : Node ExprKind
changed_record_as_map = node (place 1) (place 5 ∷ place 6 ∷ place 13 ∷ []) (X.MapChange empty_record (a_to_one_later ∷ []))

-- `is_function(F, N)`, where N is written with three digits
abbrev pub function_of_arity : ℤ → Node ExprKind
function_of_arity n = node (place 1) (place 1 ∷ place 12 ∷ place 14 ∷ place 19 ∷ []) (X.Call None (codes "is_function") (var_at (codes "F") 13 ∷ int_at n 16 ∷ []))

-- an atom at a column, as an element of a body
abbrev pub item_at : Name → ℕ → Node ItemKind
item_at a column = node (place column) [] (I.Value (atom_at a column))

-- `try a end`
abbrev pub only_tried : Node ExprKind
only_tried = node (place 1) (place 1 ∷ place 7 ∷ []) (X.Try (item_at (codes "a") 5 ∷ []) [] [] None)

-- `try a after b end`
abbrev pub tried_and_ended : Node ExprKind
tried_and_ended = node (place 1) (place 1 ∷ place 7 ∷ place 15 ∷ []) (X.Try (item_at (codes "a") 5 ∷ []) [] [] (Some (item_at (codes "b") 13 ∷ [])))

-- its tokens
abbrev pub tried_and_ended_tokens : List Placed
tried_and_ended_tokens = placed (T.Word (codes "try")) 1 ∷ placed (T.Atom (codes "a")) 5 ∷ placed (T.Word (codes "after")) 7 ∷ placed (T.Atom (codes "b")) 13 ∷ placed (T.Word (codes "end")) 15 ∷ []

-- ---- nesting

-- `[1, 2, 3]`
abbrev pub three_integers : Node ExprKind
three_integers = node (place 1) (place 1 ∷ place 3 ∷ place 6 ∷ place 9 ∷ []) (X.Cells (int_at (pos 1) 2 ∷ int_at (pos 2) 5 ∷ int_at (pos 3) 8 ∷ []) None)

-- `((1))`
abbrev pub one_in_parens : Node ExprKind
one_in_parens = paren_at 1 5 (paren_at 2 4 (int_at (pos 1) 3))
