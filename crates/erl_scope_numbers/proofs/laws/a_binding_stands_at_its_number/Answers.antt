use Rattle.erl_scope_numbers.proofs.StandingNumbers.{binding-stands, no_place-past_the_bindings}
use Rattle.erl_scope_numbers.proofs.laws.a_binding_stands_at_its_number.Goals as goal

pub returns-clause-place : goal.returns-clause-place
returns-clause-place c = binding-stands

pub returns-clause-none : goal.returns-clause-none
returns-clause-none c = no_place-past_the_bindings
