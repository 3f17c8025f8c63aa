use Rattle.std.proofs.Common.{◌≡◌, ◌++◌}
use Rattle.erl_scope_rules.specs.Occurrences.{names_of}
use Rattle.erl_scope_stack.specs.Between.{between}
use Rattle.erl_scope_stack.proofs.Scope.end_all_seen.Given as goal

abbrev pub invariant-loop-at : goal.invariant-loop-at
invariant-loop-at l = l.self ≡ record { sees = l.initial.self.sees; ended = names_of (between l.seen l.at l.initial.self.sees) ++ l.initial.self.ended; aside = l.initial.self.aside }
