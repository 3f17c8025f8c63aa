use Rattle.std.proofs.Common.{◌≡◌, ◌<◌, length, ap, arith}
use Rattle.erl_scope_stack.specs.declared.entries.Seen.{Seen}
use Rattle.erl_scope_stack.proofs.Stores.{pop_seen-view, stored-unseen}
use Rattle.erl_scope_stack.proofs.Scope.pop_seen.Goals as goal
use Rattle.erl_scope_stack.proofs.StackLaws.{last-named}

pub set_top-requires : goal.set_top-requires
set_top-requires c =
    let s = c.self.inside in
    let named : c.in-Some.entry.name < length s.names = last-named (λ (e : Seen). e.name < length s.names) s.seen.items _ c.in-Some.entry c.in-Some.ensures.items c.self.invariant.seen_named in
    omega (arith, c.self.invariant.room, ap length c.as_mut_slice.ensures.value)

pub invariant_of-self : goal.invariant_of-self
invariant_of-self c =
    let s = c.self.inside in
    let long : length s.states.items ≡ s.states.len = omega (arith, s.states.ok.0) in
    stored-unseen s.names s.states c.as_mut_slice.result.now c.set_top.new.states long c.as_mut_slice.ensures.value s.seen.items _ s.behind.items s.beside.items c.self.invariant c.in-Some.entry c.set_top.ensures c.in-Some.ensures.items

pub returns-in-Some : goal.returns-in-Some
returns-in-Some c = let s = c.self.inside in pop_seen-view s.names s.seen.items s.behind.items s.beside.items c.args.self.now c.self.view_is c.in-Some.entry _ c.in-Some.ensures.items
