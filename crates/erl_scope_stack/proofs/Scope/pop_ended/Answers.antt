use Rattle.std.proofs.Common.{◌≡◌, ℕ, ◌<◌, List, length, ap, sym, subst, arith}
use Rattle.erl_scope_stack.specs.declared.entries.NameState.{NameState}
use Rattle.erl_scope_stack.specs.Indexed.{AreIndexed, IsCounted}
use Rattle.erl_scope_stack.proofs.Kept.{counted}
use Rattle.erl_scope_stack.proofs.Stores.{pop_ended-view, stored-unended}
use Rattle.erl_scope_stack.proofs.Scope.pop_ended.Goals as goal
use Rattle.erl_scope_stack.proofs.StackLaws.{last-named}

pub count_down-requires-clause-within : goal.count_down-requires-clause-within
count_down-requires-clause-within c =
    let s = c.self.inside in
    let named : c.in-Some.name < length s.names = last-named (λ (n : ℕ). n < length s.names) s.behind.items _ c.in-Some.name c.in-Some.ensures.items c.self.invariant.behind_named in
    omega (arith, c.self.invariant.room, ap length c.as_mut_slice.ensures.value)

pub count_down-requires-clause-counted : goal.count_down-requires-clause-counted
count_down-requires-clause-counted c =
    let s = c.self.inside in
    let named : c.in-Some.name < length s.names = last-named (λ (n : ℕ). n < length s.names) s.behind.items _ c.in-Some.name c.in-Some.ensures.items c.self.invariant.behind_named in
    subst (λ (sts : List NameState). IsCounted sts c.in-Some.name) (sym c.as_mut_slice.ensures.value)
    (counted s.names s.states.items s.seen.items _ s.beside.items c.in-Some.name (subst (λ (xs : List ℕ). AreIndexed s.names s.states.items s.seen.items xs s.beside.items) c.in-Some.ensures.items c.self.invariant) (omega (arith, c.self.invariant.room)))

pub invariant_of-self : goal.invariant_of-self
invariant_of-self c =
    let s = c.self.inside in
    let long : length s.states.items ≡ s.states.len = omega (arith, s.states.ok.0) in
    stored-unended s.names s.states c.as_mut_slice.result.now c.count_down.new.states long c.as_mut_slice.ensures.value s.seen.items s.behind.items s.beside.items _ c.self.invariant c.in-Some.name c.count_down.ensures c.in-Some.ensures.items

pub returns-in-Some : goal.returns-in-Some
returns-in-Some c = let s = c.self.inside in pop_ended-view s.names s.seen.items s.behind.items s.beside.items c.args.self.now c.self.view_is c.in-Some.name _ c.in-Some.ensures.items
