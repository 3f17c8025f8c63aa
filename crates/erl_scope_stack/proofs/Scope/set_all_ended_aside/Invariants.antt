use Rattle.std.proofs.Common.{◌≡◌, ◌++◌}
use Rattle.erl_scope_stack.specs.Between.{between}
use Rattle.erl_scope_stack.proofs.Scope.set_all_ended_aside.Given as goal

abbrev pub invariant-loop-at : goal.invariant-loop-at
invariant-loop-at l = l.self ≡ record { sees = l.initial.self.sees; ended = l.initial.self.ended; aside = between l.ended l.at l.initial.self.ended ++ l.initial.self.aside }
