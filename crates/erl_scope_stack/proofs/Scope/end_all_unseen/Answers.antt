use Rattle.std.proofs.Common.{◌≡◌, ◌<◌, ◌≤◌, length, refl, arith}
use Rattle.erl_scope_stack.specs.State.{above}
use Rattle.erl_scope_stack.proofs.PartLaws.{between-none, between-all}
use Rattle.erl_scope_stack.proofs.NameLaws.{unseen-more}
use Rattle.erl_scope_stack.proofs.Scope.end_all_unseen.Goals as goal

pub loop-at-init : goal.loop-at-init
loop-at-init c = rw (between-none c.args.aside c.args.self.now.aside) refl

pub loop-at-preserved : goal.loop-at-preserved
loop-at-preserved c =
    let s = c.args.self.now in
    let inside : c.loop-at.at < length s.aside = omega arith in
    let from : c.args.aside ≤ c.loop-at.at = omega arith in
    rw (c.in_ok-end_unseen.ensures, c.loop-at.invariant, unseen-more (above c.args.seen s.sees) c.args.aside c.loop-at.at s.aside s.ended from inside) refl

pub returns : goal.returns
returns c =
    let all : c.loop-at.at ≡ length c.args.self.now.aside = omega arith in
    rw (c.loop-at.invariant, all, between-all c.args.aside c.args.self.now.aside) refl
