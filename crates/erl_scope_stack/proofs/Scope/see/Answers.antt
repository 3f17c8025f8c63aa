use Rattle.std.proofs.Common.{◌≡◌, ◌<◌, List, length, sym, subst, refl, arith}
use Rattle.erl_scope_stack.specs.declared.entries.Seen.{Seen}
use Rattle.erl_scope_stack.specs.Indexed.{AreIndexed}
use Rattle.erl_scope_stack.proofs.Readings.{top-within}
use Rattle.erl_scope_stack.proofs.Sees.{known-roomier, known, see-invariant, see-view}
use Rattle.erl_scope_stack.proofs.Scope.see.Goals as goal

pub invariant_of-self : goal.invariant_of-self
invariant_of-self c = let s = c.self.inside in known-roomier s.names s.states.items c.make_room.new.states.items s.seen.items s.behind.items s.beside.items c.self.invariant c.make_room.ensures.room

pub invariant_of-self-in_err-number : goal.invariant_of-self-in_err-number
invariant_of-self-in_err-number c =
    let s = c.self.inside in
    let enough : length s.names < length c.make_room.new.states.items = omega (arith, c.in_ok-make_room.ensures.enough, c.len.ensures, c.make_room.new.states.ok.0) in
    known s.names s.states.items c.make_room.new.states.items s.seen.items s.behind.items s.beside.items c.self.invariant c.make_room.ensures.room c.args.name.now c.add.new.self c.add.ensures.grown enough

pub binding_at-outer-requires : goal.binding_at-outer-requires
binding_at-outer-requires c =
    let s = c.self.inside in
    let enough : length s.names < length c.make_room.new.states.items = omega (arith, c.in_ok-make_room.ensures.enough, c.len.ensures, c.make_room.new.states.ok.0) in
    let k = known s.names s.states.items c.make_room.new.states.items s.seen.items s.behind.items s.beside.items c.self.invariant c.make_room.ensures.room c.args.name.now c.add.new.self c.add.ensures.grown enough in
    top-within c.add.new.self c.make_room.new.states.items s.seen.items s.behind.items s.beside.items k c.in_ok-number.number c.in_ok-number.ensures.number.0 c.index.result.now c.index.ensures c.as_slice.result.now c.as_slice.ensures.value

pub invariant_of-self-in_err-push : goal.invariant_of-self-in_err-push
invariant_of-self-in_err-push c =
    let s = c.self.inside in
    let enough : length s.names < length c.make_room.new.states.items = omega (arith, c.in_ok-make_room.ensures.enough, c.len.ensures, c.make_room.new.states.ok.0) in
    let k = known s.names s.states.items c.make_room.new.states.items s.seen.items s.behind.items s.beside.items c.self.invariant c.make_room.ensures.room c.args.name.now c.add.new.self c.add.ensures.grown enough in
    subst (λ (xs : List Seen). AreIndexed c.add.new.self c.make_room.new.states.items xs s.behind.items s.beside.items) (sym c.in_err-push.ensures.items) k

pub invariant_of-self-2 : goal.invariant_of-self-2
invariant_of-self-2 c =
    let s = c.self.inside in
    let enough : length s.names < length c.make_room.new.states.items = omega (arith, c.in_ok-make_room.ensures.enough, c.len.ensures, c.make_room.new.states.ok.0) in
    let long : length c.make_room.new.states.items ≡ c.make_room.new.states.len = omega (arith, c.make_room.new.states.ok.0) in
    let size : c.len-count.result ≡ length s.seen.items = omega (arith, c.len-count.ensures, s.seen.ok.0) in
    see-invariant s.names s.states.items c.make_room.new.states.items s.seen.items s.behind.items s.beside.items c.self.invariant c.make_room.ensures.room c.args.name.now c.add.new.self c.add.ensures.grown enough c.in_ok-number.number c.in_ok-number.ensures.number c.index.result.now c.index.ensures c.args.place c.args.role c.binding_by_role.result _ c.in_ok-push.ensures.items c.make_room.new.states refl long c.as_mut_slice.result.now c.set_top.new.states c.as_mut_slice.ensures.value c.len-count.result size c.set_top.ensures c.binding_at-outer.result c.as_slice.result.now c.as_slice.ensures.value c.binding_at-outer.ensures c.binding_by_role.ensures

pub returns : goal.returns
returns c =
    let s = c.self.inside in
    let enough : length s.names < length c.make_room.new.states.items = omega (arith, c.in_ok-make_room.ensures.enough, c.len.ensures, c.make_room.new.states.ok.0) in
    see-view s.names s.states.items c.make_room.new.states.items s.seen.items s.behind.items s.beside.items c.self.invariant c.make_room.ensures.room c.args.name.now c.add.new.self c.add.ensures.grown enough c.in_ok-number.number c.in_ok-number.ensures.number c.index.result.now c.index.ensures c.args.place c.args.role c.binding_by_role.result _ c.in_ok-push.ensures.items c.args.self.now c.self.view_is
