use Rattle.std.proofs.Common.{◌≡◌, ◌<◌, ◌≤◌, length, refl, arith}
use Rattle.erl_scope_stack.proofs.PartLaws.{between-none, between-all}
use Rattle.erl_scope_stack.proofs.NameLaws.{part-more}
use Rattle.erl_scope_stack.proofs.Scope.set_all_ended_aside.Goals as goal

pub loop-at-init : goal.loop-at-init
loop-at-init c = rw (between-none c.args.ended c.args.self.now.ended) refl

pub loop-at-preserved : goal.loop-at-preserved
loop-at-preserved c =
    let s = c.args.self.now in
    let inside : c.loop-at.at < length s.ended = omega arith in
    let from : c.args.ended ≤ c.loop-at.at = omega arith in
    rw (c.in_ok-set_ended_aside.ensures, c.loop-at.invariant, part-more c.args.ended c.loop-at.at s.ended s.aside from inside) refl

pub returns : goal.returns
returns c =
    let all : c.loop-at.at ≡ length c.args.self.now.ended = omega arith in
    rw (c.loop-at.invariant, all, between-all c.args.ended c.args.self.now.ended) refl
