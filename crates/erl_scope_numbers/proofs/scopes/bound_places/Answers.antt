use Rattle.std.proofs.Common.{false, None, ◌∙◌, ap, Vec, Global}
use Rattle.erl_tree.specs.declared.token.Place.{Place}
use Rattle.erl_scope_rules.specs.declared.resolved.Resolved.{Resolved}
use Rattle.erl_scope_numbers.proofs.Steps.{bound_more-binding, bound_more-other}
use Rattle.erl_scope_numbers.proofs.scopes.bound_places.Goals as goal
use Rattle.erl_scope_numbers.proofs.scopes.bound_places.Goals.{then-variable+in_ok-push, else-variable}

abbrev no_variable : Resolved
no_variable = record { place = record { line = 0; column = 0 }; binding = None; binds = false; fault = None }

pub variables-preserved : goal.variables-preserved
variables-preserved c =
    elim c.if-variable.branch [
      | then-variable+in_ok-push w ↦ bound_more-binding c.args.found.now c.variables.variable-index no_variable c.variables.places.items _ c.variables-test.true c.variables.invariant w.if-variable.true (ap (λ (v : Vec Place Global). v.items) w.places-is ∙ w.in_ok-push.ensures.items)
      | else-variable w ↦ bound_more-other c.args.found.now c.variables.variable-index no_variable c.variables.places.items _ c.variables-test.true c.variables.invariant w.if-variable.false (ap (λ (v : Vec Place Global). v.items) w.places-is)
    ]
