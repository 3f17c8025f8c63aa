-- Small examples of trees.
use Rattle.std.proofs.Common.{◌≡◌, refl, sym, subst, ℕ, ℤ, pos, ◌≤◌, [], ◌∷◌, arith}
use Rattle.std.specs.Prelude.{Some, None, true, false, codes}
use Rattle.type_terms.specs.Keys.{Name}
use Rattle.erl_tree.specs.SmallText.{place}
use Rattle.erl_tree.specs.declared.token.Node.{Node}
use Rattle.erl_tree.specs.declared.expr.UnaryOp.TheVariants.{Minus, Not}
use Rattle.erl_tree.specs.declared.expr.BinaryOp.{BinaryOp}
use Rattle.erl_tree.specs.declared.expr.BinaryOp.TheVariants.{Orelse, Andalso, Eq, Append, Sub, And}
use Rattle.erl_tree.specs.declared.expr.ExprKind.{ExprKind}
use Rattle.erl_tree.specs.declared.expr.ExprKind.TheVariants as X
use Rattle.erl_grammar.specs.Operators.{priority, left_priority, right_priority}
use Rattle.erl_grammar.specs.Guards.{is_arity_layer}
use Rattle.erl_grammar.specs.Spelling.{expr_tokens}
use Rattle.erl_grammar.specs.Nesting.{expr_deep}
use Rattle.erl_grammar.specs.Grammar.{takes_map, takes_record, IsExpr, operation, unary, postfix, atom, integer, variable, parens, list, call, variable_applied, parens_applied, changed_map, new_record, record_field, try_end, IsItem, value, IsAssoc, added, exact}
use Rattle.erl_grammar.specs.declared.head.Head.TheVariants.{Plain, OfMap, OfRecord, OfCall}
use Rattle.erl_grammar.specs.SmallTrees.{int_at, atom_at, var_at, binary_at, minus_left, minus_right, minus_tokens, append_left, append_right, equals_left, equals_right, andalso_first, orelse_first, two_signs, two_signs_tokens, not_first, and_first, applied_twice, applied_twice_tokens, applied_in_parens, a_to_one, b_to_two, changed_twice, changed_twice_tokens, field_of_record, field_of_record_tokens, field_of_map, changed_record_as_map, function_of_arity, item_at, only_tried, tried_and_ended, tried_and_ended_tokens, three_integers, one_in_parens}
use Rattle.erl_grammar.proofs.SpellingLaws.{expr_tokens_laws, part_tokens_laws}
use Rattle.erl_grammar.proofs.NestingLaws.{expr_deep_laws}
use Rattle.erl_grammar.proofs.Layers.{each, head_of, applied_layer, expr_layer, expr-layer}

-- ---- the parts of examples

integer-formed : (least : ℕ) (n : ℤ) (column : ℕ) → IsExpr least (int_at n column)
integer-formed least n column = postfix least Plain _ (integer (place column) n)

atom-formed : (least : ℕ) (a : Name) (column : ℕ) → IsExpr least (atom_at a column)
atom-formed least a column = postfix least Plain _ (atom (place column) a)

variable-formed : (least : ℕ) (x : Name) (column : ℕ) → IsExpr least (var_at x column)
variable-formed least x column = postfix least Plain _ (variable (place column) x)

-- what an operator and its operands are, where they are well formed
operands : (least : ℕ) (op : BinaryOp) (column : ℕ) (a b : Node ExprKind) → IsExpr least (binary_at op column a b) → (least ≤ priority op) × IsExpr (left_priority op) a × IsExpr (right_priority op) b
operands least op column a b h = subst (expr_layer least) (X.outs-Binary op a b) (expr-layer least (binary_at op column a b) h)

-- ---- operators

pub minus-left-formed : IsExpr 0 minus_left
minus-left-formed = operation 0 Sub _ _ (place 7) (omega arith) (operation 5 Sub _ _ (place 3) (omega arith) (integer-formed 5 (pos 1) 1) (integer-formed 6 (pos 2) 5)) (integer-formed 6 (pos 3) 9)

pub minus-right-not-formed : IsExpr 0 minus_right → ⊥
minus-right-not-formed h =
    let outer : _ = operands 0 Sub 3 _ _ h in
    let inner : _ = operands 6 Sub 7 _ _ outer.2 in
    let bound : 6 ≤ 5 = inner.0 in
    omega arith

pub minus-left-tokens : expr_tokens minus_left ≡ minus_tokens
minus-left-tokens = simp expr_tokens_laws refl

pub minus-right-tokens : expr_tokens minus_right ≡ minus_tokens
minus-right-tokens = simp expr_tokens_laws refl

pub append-right-formed : IsExpr 0 append_right
append-right-formed = operation 0 Append _ _ (place 3) (omega arith) (atom-formed 5 (codes "a") 1) (operation 4 Append _ _ (place 8) (omega arith) (atom-formed 5 (codes "b") 6) (atom-formed 4 (codes "c") 11))

pub append-left-not-formed : IsExpr 0 append_left → ⊥
append-left-not-formed h =
    let outer : _ = operands 0 Append 8 _ _ h in
    let inner : _ = operands 5 Append 3 _ _ outer.1 in
    let bound : 5 ≤ 4 = inner.0 in
    omega arith

pub append-tokens : expr_tokens append_left ≡ expr_tokens append_right
append-tokens = simp expr_tokens_laws refl

pub equals-left-not-formed : IsExpr 0 equals_left → ⊥
equals-left-not-formed h =
    let outer : _ = operands 0 Eq 8 _ _ h in
    let inner : _ = operands 4 Eq 3 _ _ outer.1 in
    let bound : 4 ≤ 3 = inner.0 in
    omega arith

pub equals-right-not-formed : IsExpr 0 equals_right → ⊥
equals-right-not-formed h =
    let outer : _ = operands 0 Eq 3 _ _ h in
    let inner : _ = operands 4 Eq 8 _ _ outer.2 in
    let bound : 4 ≤ 3 = inner.0 in
    omega arith

pub equals-tokens : expr_tokens equals_left ≡ expr_tokens equals_right
equals-tokens = simp expr_tokens_laws refl

pub andalso-first-formed : IsExpr 0 andalso_first
andalso-first-formed = operation 0 Orelse _ _ (place 13) (omega arith) (operation 2 Andalso _ _ (place 3) (omega arith) (atom-formed 3 (codes "a") 1) (atom-formed 2 (codes "b") 11)) (atom-formed 1 (codes "c") 20)

pub orelse-first-not-formed : IsExpr 0 orelse_first → ⊥
orelse-first-not-formed h =
    let outer : _ = operands 0 Andalso 3 _ _ h in
    let inner : _ = operands 2 Orelse 13 _ _ outer.2 in
    let bound : 2 ≤ 1 = inner.0 in
    omega arith

pub andalso-orelse-tokens : expr_tokens andalso_first ≡ expr_tokens orelse_first
andalso-orelse-tokens = simp expr_tokens_laws refl

pub two-signs-formed : IsExpr 0 two_signs
two-signs-formed = unary 0 Minus (place 1) _ (omega arith) (unary 7 Minus (place 3) _ (omega arith) (integer-formed 7 (pos 1) 5))

pub two-signs-tokens : expr_tokens two_signs ≡ two_signs_tokens
two-signs-tokens = simp expr_tokens_laws refl

pub not-first-formed : IsExpr 0 not_first
not-first-formed = operation 0 And _ _ (place 7) (omega arith) (unary 6 Not (place 1) _ (omega arith) (atom-formed 7 (codes "a") 5)) (atom-formed 7 (codes "b") 11)

pub and-first-not-formed : IsExpr 0 and_first → ⊥
and-first-not-formed h =
    let outer : _ = subst (expr_layer 0) (X.outs-Unary Not _) (expr-layer 0 and_first h) in
    let inner : _ = operands 7 And 7 _ _ outer.1 in
    let bound : 7 ≤ 6 = inner.0 in
    omega arith

pub not-and-tokens : expr_tokens not_first ≡ expr_tokens and_first
not-and-tokens = simp expr_tokens_laws refl

-- ---- what may follow an expression

pub applied-twice-not-formed : IsExpr 0 applied_twice → ⊥
applied-twice-not-formed h =
    let outer : _ = subst (expr_layer 0) (X.outs-Apply _ _) (expr-layer 0 applied_twice h) in
    subst applied_layer (X.outs-Apply _ _) outer

pub applied-twice-tokens : expr_tokens applied_twice ≡ applied_twice_tokens
applied-twice-tokens = simp expr_tokens_laws refl

pub applied-in-parens-formed : IsExpr 0 applied_in_parens
applied-in-parens-formed =
    postfix 0 OfCall _
    (parens_applied (place 1) (place 6) (place 7) (place 9) [] _ _
    (postfix 0 OfCall _ (variable_applied (place 2) (place 3) (place 5) [] (codes "F") _ tt (each (IsExpr 0) (var_at (codes "X") 4 ∷ []) (variable-formed 0 (codes "X") 4, tt))))
    tt
    (each (IsExpr 0) (var_at (codes "Y") 8 ∷ []) (variable-formed 0 (codes "Y") 8, tt)))

pub changed-twice-formed : IsExpr 0 changed_twice
changed-twice-formed =
    postfix 0 OfMap _
    (changed_map OfMap (place 11) (place 12) (place 19) [] _ _ refl
    (changed_map Plain (place 2) (place 3) (place 10) [] _ _ refl (variable (place 1) (codes "M")) tt
    (each (IsAssoc true) (a_to_one ∷ []) (added true _ _ (place 6) (atom-formed 0 (codes "a") 4) (integer-formed 0 (pos 1) 9), tt)))
    tt
    (each (IsAssoc true) (b_to_two ∷ []) (exact _ _ (place 15) (atom-formed 0 (codes "b") 13) (integer-formed 0 (pos 2) 18), tt)))

pub changed-twice-tokens : expr_tokens changed_twice ≡ changed_twice_tokens
changed-twice-tokens = simp (expr_tokens_laws, part_tokens_laws) refl

pub field-of-record-formed : IsExpr 0 field_of_record
field-of-record-formed = postfix 0 OfRecord _ (record_field OfRecord (place 5) (place 6) (place 7) (place 8) _ (codes "r") (codes "f") refl (new_record (place 1) (place 2) (place 3) (place 4) [] (codes "r") [] tt (λ f i. absurd i)))

pub field-of-record-tokens : expr_tokens field_of_record ≡ field_of_record_tokens
field-of-record-tokens = simp expr_tokens_laws refl

pub field-of-map-not-formed : IsExpr 0 field_of_map → ⊥
field-of-map-not-formed h =
    let outer : _ = subst (expr_layer 0) (X.outs-RecGet _ _ _ _) (expr-layer 0 field_of_map h) in
    let wrong : false ≡ true = subst (λ l. takes_record (head_of l) ≡ true) (X.outs-MapNew []) outer.0 in absurd cc

pub changed-record-as-map-not-formed : IsExpr 0 changed_record_as_map → ⊥
changed-record-as-map-not-formed h =
    let outer : _ = subst (expr_layer 0) (X.outs-MapChange _ _) (expr-layer 0 changed_record_as_map h) in
    let wrong : false ≡ true = subst (λ l. takes_map (head_of l) ≡ true) (X.outs-RecNew _ _ _) outer.0 in absurd cc

pub arity-255-formed : IsExpr 0 (function_of_arity (pos 255))
arity-255-formed =
    postfix 0 OfCall _
    (call (place 1) (place 12) (place 19) (place 14 ∷ []) (codes "is_function") _
    (subst (λ l. is_arity_layer l ≡ true) (sym (X.outs-Int (pos 255))) refl)
    tt
    (each (IsExpr 0) (var_at (codes "F") 13 ∷ int_at (pos 255) 16 ∷ []) (variable-formed 0 (codes "F") 13, (integer-formed 0 (pos 255) 16, tt))))

pub arity-256-not-formed : IsExpr 0 (function_of_arity (pos 256)) → ⊥
arity-256-not-formed h =
    let outer : _ = subst (expr_layer 0) (X.outs-Call _ _ _) (expr-layer 0 (function_of_arity (pos 256)) h) in
    let answer : false ≡ true = subst (λ l. is_arity_layer l ≡ true) (X.outs-Int (pos 256)) outer in
    cc

item-formed : (a : Name) (column : ℕ) → IsItem (item_at a column)
item-formed a column = value _ (atom-formed 0 a column)

pub tried-and-ended-formed : IsExpr 0 tried_and_ended
tried-and-ended-formed =
    postfix 0 Plain _
    (try_end (place 1) (place 15) [] [] [] (place 7 ∷ []) _ [] [] [] (Some (item_at (codes "b") 13 ∷ []))
    tt (each IsItem (item_at (codes "a") 5 ∷ []) (item-formed (codes "a") 5, tt))
    tt (λ c i. absurd i)
    tt (λ c i. absurd i)
    tt (each IsItem (item_at (codes "b") 13 ∷ []) (item-formed (codes "b") 13, tt))
    tt)

pub only-tried-not-formed : IsExpr 0 only_tried → ⊥
only-tried-not-formed h = subst (expr_layer 0) (X.outs-Try _ _ _ None) (expr-layer 0 only_tried h)

pub tried-and-ended-tokens : expr_tokens tried_and_ended ≡ tried_and_ended_tokens
tried-and-ended-tokens = simp (expr_tokens_laws, part_tokens_laws) refl

-- ---- nesting

pub three-integers-formed : IsExpr 0 three_integers
three-integers-formed =
    postfix 0 Plain _
    (list (place 1) (place 9) (place 3 ∷ place 6 ∷ []) _ tt
    (each (IsExpr 0) (int_at (pos 1) 2 ∷ int_at (pos 2) 5 ∷ int_at (pos 3) 8 ∷ []) (integer-formed 0 (pos 1) 2, (integer-formed 0 (pos 2) 5, (integer-formed 0 (pos 3) 8, tt)))))

pub one-in-parens-formed : IsExpr 0 one_in_parens
one-in-parens-formed = postfix 0 Plain _ (parens (place 1) (place 5) _ (postfix 0 Plain _ (parens (place 2) (place 4) _ (integer-formed 0 (pos 1) 3))))

pub third-at-level-4 : expr_deep three_integers 3 ≡ place 8 ∷ []
third-at-level-4 = simp expr_deep_laws refl

pub none-at-level-5 : expr_deep three_integers 4 ≡ []
none-at-level-5 = simp expr_deep_laws refl

pub integer-at-level-3 : expr_deep one_in_parens 2 ≡ place 3 ∷ []
integer-at-level-3 = simp expr_deep_laws refl

pub none-at-level-4 : expr_deep one_in_parens 3 ≡ []
none-at-level-4 = simp expr_deep_laws refl
