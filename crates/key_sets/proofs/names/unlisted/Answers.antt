use Rattle.std.proofs.Common.{◌≡◌, ◌≤◌, ◌++◌, ◌∷◌, [], ◌∙◌, ap, subst, arith, length, List, ℕ, Bor}
use Rattle.key_sets.proofs.Listed.{longest_more, longer-not_listed}
use Rattle.key_sets.proofs.names.unlisted.Goals as goal
use Rattle.key_sets.proofs.names.unlisted.Goals.{then-name-longest, else-name-longest}

as_long : (c : goal.Joined-name-longest) → (length c.loop-name.longest.now ≤ length c.if-name-longest.longest.now) × (length c.as_slice-name.result.now ≤ length c.if-name-longest.longest.now)
as_long c =
    elim c.if-name-longest.branch [
      | then-name-longest w ↦
          let e : length c.if-name-longest.longest.now ≡ length c.as_slice-name.result.now = ap (λ (b : Bor (List ℕ)). length b.now) w.longest-is in
          (omega arith, omega arith)
      | else-name-longest w ↦
          let e : length c.if-name-longest.longest.now ≡ length c.loop-name.longest.now = ap (λ (b : Bor (List ℕ)). length b.now) w.longest-is in
          (omega arith, omega arith)
    ]

pub loop-name-preserved : goal.loop-name-preserved
loop-name-preserved c =
    longest_more c.args.names.now c.loop-name.name-index c.name-item.result c.loop-name.longest.now c.if-name-longest.longest.now
    c.loop-name-test.true c.name-item.is c.loop-name.invariant (as_long c).0
    (subst (λ (xs : List ℕ). length xs ≤ length c.if-name-longest.longest.now) c.as_slice-name.ensures.value (as_long c).1)

pub returns : goal.returns
returns c =
    longer-not_listed c.args.names.now c.loop-name.name-index c.loop-name.longest.now _ 97 c.loop-name-test.false c.loop-name.invariant
    (c.in_ok-push.ensures.ok ∙ ap (λ xs. xs ++ 97 ∷ []) c.in_ok-name.ensures)
