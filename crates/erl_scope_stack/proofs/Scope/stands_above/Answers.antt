use Rattle.std.proofs.Common.{◌∙◌}
use Rattle.erl_scope_stack.proofs.Readings.{above-absent, above-read}
use Rattle.erl_scope_stack.proofs.Scope.stands_above.Goals as goal

pub returns-in-None : goal.returns-in-None
returns-in-None c = let s = c.self.inside in above-absent s.names s.states.items s.seen.items s.behind.items s.beside.items c.self.invariant c.args.self.now c.self.view_is c.args.name.now c.in-None.ensures c.args.seen

pub returns-in-Some : goal.returns-in-Some
returns-in-Some c =
    let s = c.self.inside in
    c.reaches.ensures ∙ above-read s.names s.states.items s.seen.items s.behind.items s.beside.items c.self.invariant c.args.self.now c.self.view_is c.in-Some.number c.args.name.now c.in-Some.ensures c.index.result.now c.index.ensures c.args.seen
