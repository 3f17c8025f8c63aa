use Rattle.std.proofs.Common.{subst, sym, ℕ, List}
use Rattle.erl_scope_stack.specs.Named.{name_at}
use Rattle.erl_scope_stack.specs.Indexed.{AreIndexed}
use Rattle.erl_scope_stack.proofs.LatestFirst.{below-latest_first}
use Rattle.erl_scope_stack.proofs.Changes.{indexed-truncated}
use Rattle.erl_scope_stack.proofs.Scope.forget_aside.Goals as goal

pub invariant_of-self : goal.invariant_of-self
invariant_of-self c =
    let s = c.self.inside in
    subst (λ (cs : List ℕ). AreIndexed s.names s.states.items s.seen.items s.behind.items cs) (sym c.truncate.ensures.items) (indexed-truncated s.names s.states.items s.seen.items s.behind.items s.beside.items c.self.invariant c.args.aside)

pub returns : goal.returns
returns c = rw (c.truncate.ensures.items, ← c.self.view_is, below-latest_first (name_at c.self.inside.names) c.args.aside c.self.inside.beside.items)
