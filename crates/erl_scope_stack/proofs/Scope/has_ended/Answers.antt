use Rattle.erl_scope_stack.proofs.Readings.{ended-absent, ended-read}
use Rattle.erl_scope_stack.proofs.Scope.has_ended.Goals as goal

pub returns-in-None : goal.returns-in-None
returns-in-None c = let s = c.self.inside in ended-absent s.names s.states.items s.seen.items s.behind.items s.beside.items c.self.invariant c.args.self.now c.self.view_is c.args.name.now c.in-None.ensures

pub returns-in-Some : goal.returns-in-Some
returns-in-Some c = let s = c.self.inside in ended-read s.names s.states.items s.seen.items s.behind.items s.beside.items c.self.invariant c.args.self.now c.self.view_is c.in-Some.number c.args.name.now c.in-Some.ensures c.index.result.now c.index.ensures
