use Rattle.std.proofs.Common.{false, None}
use Rattle.erl_scope_rules.specs.declared.resolved.Resolved.{Resolved}
use Rattle.erl_scope_numbers.proofs.Steps.{same-more}
use Rattle.erl_scope_numbers.proofs.scopes.numbers_of_variables.Goals as goal

abbrev no_variable : Resolved
no_variable = record { place = record { line = 0; column = 0 }; binding = None; binds = false; fault = None }

pub variables-preserved : goal.variables-preserved
variables-preserved c =
    same-more c.args.by_binding.now c.args.found.now c.variables.variable-index no_variable c.variables.numbers c.add.new.self c.number_of_binding.result c.variables-test.true c.variables.invariant c.number_of_binding.ensures c.in_ok-add.ensures
