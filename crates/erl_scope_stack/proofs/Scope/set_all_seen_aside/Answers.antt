use Rattle.std.proofs.Common.{◌≡◌, ◌<◌, ◌≤◌, length, refl, arith}
use Rattle.erl_scope_stack.proofs.PartLaws.{between-none, between-all}
use Rattle.erl_scope_stack.proofs.NameLaws.{names-more}
use Rattle.erl_scope_stack.proofs.Scope.set_all_seen_aside.Goals as goal

pub loop-at-init : goal.loop-at-init
loop-at-init c = rw (between-none c.args.seen c.args.self.now.sees) refl

pub loop-at-preserved : goal.loop-at-preserved
loop-at-preserved c =
    let s = c.args.self.now in
    let inside : c.loop-at.at < length s.sees = omega arith in
    let from : c.args.seen ≤ c.loop-at.at = omega arith in
    rw (c.in_ok-set_seen_aside.ensures, c.loop-at.invariant, names-more c.args.seen c.loop-at.at s.sees s.aside from inside) refl

pub returns : goal.returns
returns c =
    let all : c.loop-at.at ≡ length c.args.self.now.sees = omega arith in
    rw (c.loop-at.invariant, all, between-all c.args.seen c.args.self.now.sees) refl
