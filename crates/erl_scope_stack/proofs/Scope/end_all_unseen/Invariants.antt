use Rattle.std.proofs.Common.{◌≡◌, ◌++◌}
use Rattle.erl_scope_rules.specs.Occurrences.{unseen}
use Rattle.erl_scope_stack.specs.State.{above}
use Rattle.erl_scope_stack.specs.Between.{between}
use Rattle.erl_scope_stack.proofs.Scope.end_all_unseen.Given as goal

abbrev pub invariant-loop-at : goal.invariant-loop-at
invariant-loop-at l = l.self ≡ record { sees = l.initial.self.sees; ended = unseen (above l.seen l.initial.self.sees) (between l.aside l.at l.initial.self.aside) ++ l.initial.self.ended; aside = l.initial.self.aside }
