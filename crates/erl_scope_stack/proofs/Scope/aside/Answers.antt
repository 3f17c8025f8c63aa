use Rattle.std.proofs.Common.{arith}
use Rattle.erl_scope_stack.specs.Named.{name_at}
use Rattle.erl_scope_stack.proofs.LatestFirst.{length-latest_first}
use Rattle.erl_scope_stack.proofs.Scope.aside.Goals as goal

pub returns : goal.returns
returns c = rw (← c.self.view_is) (omega (arith, length-latest_first (name_at c.self.inside.names) c.self.inside.beside.items))
