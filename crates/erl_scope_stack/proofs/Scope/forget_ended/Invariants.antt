use Rattle.std.proofs.Common.{◌≡◌, ◌-◌, drop}
use Rattle.erl_scope_stack.proofs.Scope.forget_ended.Given as goal

abbrev pub invariant-loop-at : goal.invariant-loop-at
invariant-loop-at l = l.self ≡ record { sees = l.initial.self.sees; ended = drop (l._at - l.ended) l.initial.self.ended; aside = l.initial.self.aside }
