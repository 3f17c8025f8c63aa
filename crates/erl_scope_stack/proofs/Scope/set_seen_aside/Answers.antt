use Rattle.std.proofs.Common.{ℕ, ◌+◌, ◌<◌, List, length, sym, subst, arith}
use Rattle.erl_scope_rules.specs.Occurrences.{names_of}
use Rattle.erl_scope_stack.specs.Between.{between}
use Rattle.erl_scope_stack.specs.State.{State}
use Rattle.erl_scope_stack.specs.declared.entries.Seen.{Seen}
use Rattle.erl_scope_stack.specs.Indexed.{AreIndexed}
use Rattle.erl_scope_stack.proofs.StackLaws.{Every-read}
use Rattle.erl_scope_stack.proofs.Changes.{indexed-aside}
use Rattle.erl_scope_stack.proofs.Stores.{size-seen, read-seen, push_aside}
use Rattle.erl_scope_stack.proofs.Scope.set_seen_aside.Goals as goal

pub index-requires : goal.index-requires
index-requires c = let s = c.self.inside in omega (arith, size-seen s.names s.seen.items s.behind.items s.beside.items c.args.self.now c.self.view_is)

pub invariant_of-self-2 : goal.invariant_of-self-2
invariant_of-self-2 c =
    let s = c.self.inside in
    let inside : c.args.at < length s.seen.items = omega (arith, size-seen s.names s.seen.items s.behind.items s.beside.items c.args.self.now c.self.view_is) in
    let named : c.index.result.now.name < length s.names = Every-read (λ (e : Seen). e.name < length s.names) s.seen.items c.args.at c.index.result.now inside c.index.ensures c.self.invariant.seen_named in
    subst (λ (cs : List ℕ). AreIndexed s.names s.states.items s.seen.items s.behind.items cs) (sym c.in_ok-push.ensures.items) (indexed-aside s.names s.states.items s.seen.items s.behind.items s.beside.items c.self.invariant c.index.result.now.name named)

pub returns : goal.returns
returns c =
    let s = c.self.inside in
    push_aside s.names s.seen.items s.behind.items s.beside.items c.args.self.now c.self.view_is c.index.result.now.name (λ (t : State). names_of (between c.args.at (c.args.at + 1) t.sees)) (read-seen s.names s.seen.items s.behind.items s.beside.items c.args.self.now c.self.view_is c.args.at c.index.result.now c.requires c.index.ensures) _ c.in_ok-push.ensures.items
