use Rattle.std.proofs.Common.{◌≡◌, ◌+◌, ◌-◌, ℕ, ◌∙◌, length, drop, ap, refl, arith}
use Rattle.std.proofs.lemmas.List.{drop-drop}
use Rattle.erl_scope_stack.specs.State.{State}
use Rattle.erl_scope_stack.proofs.Scope.forget_seen.Goals as goal

pub loop-at-init : goal.loop-at-init
loop-at-init c = let none : c.args.seen - c.args.seen ≡ 0 = omega arith in rw none refl

pub loop-at-preserved : goal.loop-at-preserved
loop-at-preserved c =
    let s = c.args.self.now in
    let k : (c.loop-at._at - c.args.seen) + 1 ≡ (c.loop-at._at + 1) - c.args.seen = omega arith in
    c.pop_seen.ensures
    ∙ ap (λ (t : State). record { sees = drop 1 t.sees; ended = t.ended; aside = t.aside }) c.loop-at.invariant
    ∙ ap (λ xs. record { sees = xs; ended = s.ended; aside = s.aside }) (drop-drop 1 (c.loop-at._at - c.args.seen) s.sees ∙ ap (λ (n : ℕ). drop n s.sees) k)

pub returns : goal.returns
returns c =
    let all : c.loop-at._at ≡ length c.args.self.now.sees = omega arith in
    rw (c.loop-at.invariant, all) refl
