use Rattle.erl_scope_stack.proofs.Readings.{binding-absent, binding-read, top-within}
use Rattle.erl_scope_stack.proofs.Scope.binding.Goals as goal

pub binding_at-requires : goal.binding_at-requires
binding_at-requires c = let s = c.self.inside in top-within s.names s.states.items s.seen.items s.behind.items s.beside.items c.self.invariant c.in-Some.number c.in-Some.ensures.0 c.index.result.now c.index.ensures c.as_slice.result.now c.as_slice.ensures.value

pub returns-in-None : goal.returns-in-None
returns-in-None c = let s = c.self.inside in binding-absent s.names s.states.items s.seen.items s.behind.items s.beside.items c.self.invariant c.args.self.now c.self.view_is c.args.name.now c.in-None.ensures

pub returns-in-Some : goal.returns-in-Some
returns-in-Some c =
    let s = c.self.inside in
    binding-read s.names s.states.items s.seen.items s.behind.items s.beside.items c.self.invariant c.args.self.now c.self.view_is c.in-Some.number c.args.name.now c.in-Some.ensures c.index.result.now c.index.ensures c.binding_at.result c.as_slice.result.now c.as_slice.ensures.value c.binding_at.ensures
