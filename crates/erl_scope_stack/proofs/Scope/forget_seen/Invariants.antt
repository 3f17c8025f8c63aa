use Rattle.std.proofs.Common.{◌≡◌, ◌-◌, drop}
use Rattle.erl_scope_stack.proofs.Scope.forget_seen.Given as goal

abbrev pub invariant-loop-at : goal.invariant-loop-at
invariant-loop-at l = l.self ≡ record { sees = drop (l._at - l.seen) l.initial.self.sees; ended = l.initial.self.ended; aside = l.initial.self.aside }
