use Rattle.erl_scope_variables.specs.Walks.{after_default}
use Rattle.erl_scope_variables.proofs.WalkLaws.{IsLeft}
use Rattle.erl_scope_variables.proofs.modules.visit_defaults.Given as goal

abbrev pub invariant-loop-field : goal.invariant-loop-field
invariant-loop-field l = IsLeft after_default l.fields l.field-index l.walk l.initial.walk
