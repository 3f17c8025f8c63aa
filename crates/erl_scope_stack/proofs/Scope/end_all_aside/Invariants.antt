use Rattle.std.proofs.Common.{◌≡◌, ◌++◌}
use Rattle.erl_scope_stack.specs.Between.{between}
use Rattle.erl_scope_stack.proofs.Scope.end_all_aside.Given as goal

abbrev pub invariant-loop-at : goal.invariant-loop-at
invariant-loop-at l = l.self ≡ record { sees = l.initial.self.sees; ended = between l.aside l.at l.initial.self.aside ++ l.initial.self.ended; aside = l.initial.self.aside }
