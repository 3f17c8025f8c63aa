use Rattle.std.proofs.Common.{◌≡◌, ◌+◌, ◌<◌, List, length, ap, sym, subst, arith}
use Rattle.erl_scope_rules.specs.Occurrences.{names_of}
use Rattle.erl_scope_stack.specs.Between.{between}
use Rattle.erl_scope_stack.specs.State.{State}
use Rattle.erl_scope_stack.specs.declared.entries.Seen.{Seen}
use Rattle.erl_scope_stack.specs.declared.entries.NameState.{NameState}
use Rattle.erl_scope_stack.specs.Indexed.{IsCountable}
use Rattle.erl_scope_stack.proofs.StackLaws.{Every-read}
use Rattle.erl_scope_stack.proofs.Kept.{countable}
use Rattle.erl_scope_stack.proofs.Stores.{size-seen, read-seen, push_ended, stored-ended}
use Rattle.erl_scope_stack.proofs.Scope.end_seen.Goals as goal

pub index-requires : goal.index-requires
index-requires c = let s = c.self.inside in omega (arith, size-seen s.names s.seen.items s.behind.items s.beside.items c.args.self.now c.self.view_is)

pub count_up-requires-clause-within : goal.count_up-requires-clause-within
count_up-requires-clause-within c =
    let s = c.self.inside in
    let inside : c.args.at < length s.seen.items = omega (arith, size-seen s.names s.seen.items s.behind.items s.beside.items c.args.self.now c.self.view_is) in
    let named : c.index.result.now.name < length s.names = Every-read (λ (e : Seen). e.name < length s.names) s.seen.items c.args.at c.index.result.now inside c.index.ensures c.self.invariant.seen_named in
    omega (arith, c.self.invariant.room, ap length c.as_mut_slice.ensures.value)

pub count_up-requires-clause-fits : goal.count_up-requires-clause-fits
count_up-requires-clause-fits c =
    let s = c.self.inside in
    let inside : c.args.at < length s.seen.items = omega (arith, size-seen s.names s.seen.items s.behind.items s.beside.items c.args.self.now c.self.view_is) in
    let named : c.index.result.now.name < length s.names = Every-read (λ (e : Seen). e.name < length s.names) s.seen.items c.args.at c.index.result.now inside c.index.ensures c.self.invariant.seen_named in
    subst (λ (sts : List NameState). IsCountable sts c.index.result.now.name) (sym c.as_mut_slice.ensures.value) (countable s.names s.states.items s.seen.items s.behind.items s.beside.items c.self.invariant c.index.result.now.name named (omega (arith, s.behind.ok.0, s.behind.small)))

pub invariant_of-self-2 : goal.invariant_of-self-2
invariant_of-self-2 c =
    let s = c.self.inside in
    let inside : c.args.at < length s.seen.items = omega (arith, size-seen s.names s.seen.items s.behind.items s.beside.items c.args.self.now c.self.view_is) in
    let named : c.index.result.now.name < length s.names = Every-read (λ (e : Seen). e.name < length s.names) s.seen.items c.args.at c.index.result.now inside c.index.ensures c.self.invariant.seen_named in
    let long : length s.states.items ≡ s.states.len = omega (arith, s.states.ok.0) in
    stored-ended s.names s.states c.as_mut_slice.result.now c.count_up.new.states long c.as_mut_slice.ensures.value s.seen.items s.behind.items s.beside.items _ c.self.invariant c.index.result.now.name named c.count_up.ensures c.in_ok-push.ensures.items

pub returns : goal.returns
returns c =
    let s = c.self.inside in
    push_ended s.names s.seen.items s.behind.items s.beside.items c.args.self.now c.self.view_is c.index.result.now.name (λ (t : State). names_of (between c.args.at (c.args.at + 1) t.sees)) (read-seen s.names s.seen.items s.behind.items s.beside.items c.args.self.now c.self.view_is c.args.at c.index.result.now c.requires c.index.ensures) _ c.in_ok-push.ensures.items
