use Rattle.std.proofs.Common.{arith}
use Rattle.erl_scope_stack.specs.Stored.{mark_of}
use Rattle.erl_scope_stack.proofs.LatestFirst.{length-latest_first}
use Rattle.erl_scope_stack.proofs.Scope.seen.Goals as goal

pub returns : goal.returns
returns c = rw (← c.self.view_is) (omega (arith, length-latest_first (mark_of c.self.inside.names) c.self.inside.seen.items))
