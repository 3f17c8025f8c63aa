-- How tightly operators and their sides bind: what the order of priorities comes to.
use Rattle.std.proofs.Common.{◌≡◌, ℕ, zero, suc, ◌-◌, ◌≤◌, ◌<◌, refl, subst, ap, inl, inr, arith}
use Rattle.std.specs.Prelude.{◌⊎◌}
use Rattle.erl_tree.specs.declared.expr.BinaryOp.{BinaryOp}
use Rattle.erl_tree.specs.declared.expr.BinaryOp.TheVariants.{Orelse}
use Rattle.erl_grammar.specs.Operators.{Associativity, left_associative, right_associative, non_associative, priority, associativity_of, left_of, right_of, left_priority, right_priority}

-- how tightly each operator binds
pub record IsBounded (op : BinaryOp) : Type 0 where
  pub positive : 1 ≤ priority op
  pub most : priority op ≤ 6
  pub left_most : left_priority op ≤ 6
  pub right_most : right_priority op ≤ 7

pub bounded : (op : BinaryOp) → IsBounded op
bounded Orelse = record { positive = omega arith; most = omega arith; left_most = omega arith; right_most = omega arith }
bounded _ = record { positive = omega arith; most = omega arith; left_most = omega arith; right_most = omega arith }

left_of-more : (s : Associativity) (n : ℕ) → n ≤ left_of s n
left_of-more left_associative n = omega arith
left_of-more _ n = omega arith

right_of-more : (s : Associativity) (n : ℕ) → n ≤ right_of s n
right_of-more right_associative n = omega arith
right_of-more _ n = omega arith

-- the sides of an operator bind as tightly as it at least
pub left_priority-more : (op : BinaryOp) → priority op ≤ left_priority op
left_priority-more op = left_of-more (associativity_of (priority op)) (priority op)

pub right_priority-more : (op : BinaryOp) → priority op ≤ right_priority op
right_priority-more op = right_of-more (associativity_of (priority op)) (priority op)

same_or_less : (n k : ℕ) → n ≤ k → (k ≡ n) ⊎ (n < k)
same_or_less n k h = by (k - n) refl
  where
    by : (d : ℕ) → k - n ≡ d → (k ≡ n) ⊎ (n < k)
    by zero e = inl (omega arith)
    by (suc d) e = inr (omega arith)

by_sides : (s t : Associativity) (n k : ℕ) → (n ≡ k → s ≡ t) → left_of t k ≤ n → k < right_of s n
by_sides left_associative left_associative n k e h = omega arith
by_sides non_associative left_associative n k e h = omega arith
by_sides right_associative left_associative n k e h = elim (same_or_less k n h) [ inl g ↦ absurd (differ (e g)) | inr g ↦ g ]
  where
    IsRight : Associativity → Type 0
    IsRight right_associative = Unit {0}
    IsRight _ = ⊥

    differ : right_associative ≡ left_associative → ⊥
    differ g = subst IsRight g tt
by_sides left_associative right_associative n k e h = omega arith
by_sides right_associative right_associative n k e h = omega arith
by_sides non_associative right_associative n k e h = omega arith
by_sides left_associative non_associative n k e h = omega arith
by_sides right_associative non_associative n k e h = omega arith
by_sides non_associative non_associative n k e h = omega arith

-- an operator that takes what another one makes as its left side binds less tightly than the right side of that one
pub binds_less : (op next : BinaryOp) → left_priority next ≤ priority op → priority next < right_priority op
binds_less op next h = by_sides (associativity_of (priority op)) (associativity_of (priority next)) (priority op) (priority next) (λ e. ap associativity_of e) h
