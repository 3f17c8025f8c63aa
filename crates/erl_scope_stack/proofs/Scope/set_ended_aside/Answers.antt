use Rattle.std.proofs.Common.{ℕ, ◌+◌, ◌<◌, List, length, sym, subst, arith}
use Rattle.erl_scope_stack.specs.Between.{between}
use Rattle.erl_scope_stack.specs.State.{State}
use Rattle.erl_scope_stack.specs.Indexed.{AreIndexed}
use Rattle.erl_scope_stack.proofs.StackLaws.{Every-read}
use Rattle.erl_scope_stack.proofs.Changes.{indexed-aside}
use Rattle.erl_scope_stack.proofs.Stores.{size-ended, read-ended, push_aside}
use Rattle.erl_scope_stack.proofs.Scope.set_ended_aside.Goals as goal

pub index-name-requires : goal.index-name-requires
index-name-requires c = let s = c.self.inside in omega (arith, size-ended s.names s.seen.items s.behind.items s.beside.items c.args.self.now c.self.view_is)

pub invariant_of-self-2 : goal.invariant_of-self-2
invariant_of-self-2 c =
    let s = c.self.inside in
    let inside : c.args.at < length s.behind.items = omega (arith, size-ended s.names s.seen.items s.behind.items s.beside.items c.args.self.now c.self.view_is) in
    let named : c.index-name.result.now < length s.names = Every-read (λ (n : ℕ). n < length s.names) s.behind.items c.args.at c.index-name.result.now inside c.index-name.ensures c.self.invariant.behind_named in
    subst (λ (cs : List ℕ). AreIndexed s.names s.states.items s.seen.items s.behind.items cs) (sym c.in_ok-push.ensures.items) (indexed-aside s.names s.states.items s.seen.items s.behind.items s.beside.items c.self.invariant c.index-name.result.now named)

pub returns : goal.returns
returns c =
    let s = c.self.inside in
    push_aside s.names s.seen.items s.behind.items s.beside.items c.args.self.now c.self.view_is c.index-name.result.now (λ (t : State). between c.args.at (c.args.at + 1) t.ended) (read-ended s.names s.seen.items s.behind.items s.beside.items c.args.self.now c.self.view_is c.args.at c.index-name.result.now c.requires c.index-name.ensures) _ c.in_ok-push.ensures.items
