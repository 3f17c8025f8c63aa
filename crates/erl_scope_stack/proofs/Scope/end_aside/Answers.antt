use Rattle.std.proofs.Common.{◌≡◌, ℕ, ◌+◌, ◌<◌, List, length, ap, sym, subst, arith}
use Rattle.erl_scope_stack.specs.Between.{between}
use Rattle.erl_scope_stack.specs.State.{State}
use Rattle.erl_scope_stack.specs.declared.entries.NameState.{NameState}
use Rattle.erl_scope_stack.specs.Indexed.{IsCountable}
use Rattle.erl_scope_stack.proofs.StackLaws.{Every-read}
use Rattle.erl_scope_stack.proofs.Kept.{countable}
use Rattle.erl_scope_stack.proofs.Stores.{size-aside, read-aside, push_ended, stored-ended}
use Rattle.erl_scope_stack.proofs.Scope.end_aside.Goals as goal

pub index-name-requires : goal.index-name-requires
index-name-requires c = let s = c.self.inside in omega (arith, size-aside s.names s.seen.items s.behind.items s.beside.items c.args.self.now c.self.view_is)

pub count_up-requires-clause-within : goal.count_up-requires-clause-within
count_up-requires-clause-within c =
    let s = c.self.inside in
    let inside : c.args.at < length s.beside.items = omega (arith, size-aside s.names s.seen.items s.behind.items s.beside.items c.args.self.now c.self.view_is) in
    let named : c.index-name.result.now < length s.names = Every-read (λ (n : ℕ). n < length s.names) s.beside.items c.args.at c.index-name.result.now inside c.index-name.ensures c.self.invariant.beside_named in
    omega (arith, c.self.invariant.room, ap length c.as_mut_slice.ensures.value)

pub count_up-requires-clause-fits : goal.count_up-requires-clause-fits
count_up-requires-clause-fits c =
    let s = c.self.inside in
    let inside : c.args.at < length s.beside.items = omega (arith, size-aside s.names s.seen.items s.behind.items s.beside.items c.args.self.now c.self.view_is) in
    let named : c.index-name.result.now < length s.names = Every-read (λ (n : ℕ). n < length s.names) s.beside.items c.args.at c.index-name.result.now inside c.index-name.ensures c.self.invariant.beside_named in
    subst (λ (sts : List NameState). IsCountable sts c.index-name.result.now) (sym c.as_mut_slice.ensures.value) (countable s.names s.states.items s.seen.items s.behind.items s.beside.items c.self.invariant c.index-name.result.now named (omega (arith, s.behind.ok.0, s.behind.small)))

pub invariant_of-self-2 : goal.invariant_of-self-2
invariant_of-self-2 c =
    let s = c.self.inside in
    let inside : c.args.at < length s.beside.items = omega (arith, size-aside s.names s.seen.items s.behind.items s.beside.items c.args.self.now c.self.view_is) in
    let named : c.index-name.result.now < length s.names = Every-read (λ (n : ℕ). n < length s.names) s.beside.items c.args.at c.index-name.result.now inside c.index-name.ensures c.self.invariant.beside_named in
    let long : length s.states.items ≡ s.states.len = omega (arith, s.states.ok.0) in
    stored-ended s.names s.states c.as_mut_slice.result.now c.count_up.new.states long c.as_mut_slice.ensures.value s.seen.items s.behind.items s.beside.items _ c.self.invariant c.index-name.result.now named c.count_up.ensures c.in_ok-push.ensures.items

pub returns : goal.returns
returns c =
    let s = c.self.inside in
    push_ended s.names s.seen.items s.behind.items s.beside.items c.args.self.now c.self.view_is c.index-name.result.now (λ (t : State). between c.args.at (c.args.at + 1) t.aside) (read-aside s.names s.seen.items s.behind.items s.beside.items c.args.self.now c.self.view_is c.args.at c.index-name.result.now c.requires c.index-name.ensures) _ c.in_ok-push.ensures.items
