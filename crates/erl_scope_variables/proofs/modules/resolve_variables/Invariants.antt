use Rattle.erl_scope_variables.specs.Walks.{after_form}
use Rattle.erl_scope_variables.proofs.WalkLaws.{IsLeft}
use Rattle.erl_scope_variables.proofs.modules.resolve_variables.Given as goal

abbrev pub invariant-loop-form : goal.invariant-loop-form
invariant-loop-form l = IsLeft after_form l.form-items l.form-index l.walk l.initial.walk
