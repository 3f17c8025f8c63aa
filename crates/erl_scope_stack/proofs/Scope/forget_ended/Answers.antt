use Rattle.std.proofs.Common.{◌≡◌, ◌+◌, ◌-◌, ℕ, ◌∙◌, length, drop, ap, refl, arith}
use Rattle.std.proofs.lemmas.List.{drop-drop}
use Rattle.erl_scope_stack.specs.State.{State}
use Rattle.erl_scope_stack.proofs.Scope.forget_ended.Goals as goal

pub loop-at-init : goal.loop-at-init
loop-at-init c = let none : c.args.ended - c.args.ended ≡ 0 = omega arith in rw none refl

pub loop-at-preserved : goal.loop-at-preserved
loop-at-preserved c =
    let s = c.args.self.now in
    let k : (c.loop-at._at - c.args.ended) + 1 ≡ (c.loop-at._at + 1) - c.args.ended = omega arith in
    c.pop_ended.ensures
    ∙ ap (λ (t : State). record { sees = t.sees; ended = drop 1 t.ended; aside = t.aside }) c.loop-at.invariant
    ∙ ap (λ xs. record { sees = s.sees; ended = xs; aside = s.aside }) (drop-drop 1 (c.loop-at._at - c.args.ended) s.ended ∙ ap (λ (n : ℕ). drop n s.ended) k)

pub returns : goal.returns
returns c =
    let all : c.loop-at._at ≡ length c.args.self.now.ended = omega arith in
    rw (c.loop-at.invariant, all) refl
