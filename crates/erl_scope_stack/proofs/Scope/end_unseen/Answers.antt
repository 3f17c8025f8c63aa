use Rattle.std.proofs.Common.{◌<◌, ◌∙◌, ℕ, length, sym, refl, arith}
use Rattle.erl_scope_stack.specs.State.{above}
use Rattle.erl_scope_stack.specs.Named.{name_at}
use Rattle.erl_scope_stack.proofs.NameLaws.{unseen-hidden, unseen-kept}
use Rattle.erl_scope_stack.proofs.StackLaws.{Every-read}
use Rattle.erl_scope_stack.proofs.Stores.{size-aside, read-aside}
use Rattle.erl_scope_stack.proofs.Readings.{above-read}
use Rattle.erl_scope_stack.proofs.Scope.end_unseen.Goals as goal

pub index-name-requires : goal.index-name-requires
index-name-requires c = let s = c.self.inside in omega (arith, size-aside s.names s.seen.items s.behind.items s.beside.items c.args.self.now c.self.view_is)

pub index-requires : goal.index-requires
index-requires c =
    let s = c.self.inside in
    let n = c.index-name.result.now in
    let inside : c.args.at < length s.beside.items = omega (arith, size-aside s.names s.seen.items s.behind.items s.beside.items c.args.self.now c.self.view_is) in
    let named : n < length s.names = Every-read (λ (m : ℕ). m < length s.names) s.beside.items c.args.at n inside c.index-name.ensures c.self.invariant.beside_named in
    omega (arith, c.self.invariant.room, s.states.ok.0)

pub returns-then-reaches : goal.returns-then-reaches
returns-then-reaches c =
    let s = c.self.inside in
    let n = c.index-name.result.now in
    let inside : c.args.at < length s.beside.items = omega (arith, size-aside s.names s.seen.items s.behind.items s.beside.items c.args.self.now c.self.view_is) in
    let named : n < length s.names = Every-read (λ (m : ℕ). m < length s.names) s.beside.items c.args.at n inside c.index-name.ensures c.self.invariant.beside_named in
    let one = read-aside s.names s.seen.items s.behind.items s.beside.items c.args.self.now c.self.view_is c.args.at n c.requires.at c.index-name.ensures in
    let seen = sym (above-read s.names s.states.items s.seen.items s.behind.items s.beside.items c.self.invariant c.args.self.now c.self.view_is n (name_at s.names n) (named, refl) c.index.result.now c.index.ensures c.args.seen) ∙ sym c.reaches.ensures ∙ c.if-reaches.true in
    rw (unseen-hidden (above c.args.seen c.args.self.now.sees) (name_at s.names n) _ one seen) refl

pub returns : goal.returns
returns c =
    let s = c.self.inside in
    let n = c.index-name.result.now in
    let inside : c.args.at < length s.beside.items = omega (arith, size-aside s.names s.seen.items s.behind.items s.beside.items c.args.self.now c.self.view_is) in
    let named : n < length s.names = Every-read (λ (m : ℕ). m < length s.names) s.beside.items c.args.at n inside c.index-name.ensures c.self.invariant.beside_named in
    let one = read-aside s.names s.seen.items s.behind.items s.beside.items c.args.self.now c.self.view_is c.args.at n c.requires.at c.index-name.ensures in
    let unseen = sym (above-read s.names s.states.items s.seen.items s.behind.items s.beside.items c.self.invariant c.args.self.now c.self.view_is n (name_at s.names n) (named, refl) c.index.result.now c.index.ensures c.args.seen) ∙ sym c.reaches.ensures ∙ c.if-reaches.false in
    rw (unseen-kept (above c.args.seen c.args.self.now.sees) (name_at s.names n) _ one unseen) c.end_aside.ensures
