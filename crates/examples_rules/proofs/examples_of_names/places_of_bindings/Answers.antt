use Rattle.examples_rules.proofs.ScopeExamples.{places_of_bindings-first, places_of_bindings-first_number, places_of_bindings-last, places_of_bindings-last_number, places_of_bindings-behind_the_last, places_of_bindings-no_variable, places_of_bindings-next_function}
use Rattle.examples_rules.proofs.examples_of_names.places_of_bindings.Goals as goal

pub returns-clause-first : goal.returns-clause-first
returns-clause-first c = places_of_bindings-first

pub returns-clause-first_number : goal.returns-clause-first_number
returns-clause-first_number c = places_of_bindings-first_number

pub returns-clause-last : goal.returns-clause-last
returns-clause-last c = places_of_bindings-last

pub returns-clause-last_number : goal.returns-clause-last_number
returns-clause-last_number c = places_of_bindings-last_number

pub returns-clause-behind_the_last : goal.returns-clause-behind_the_last
returns-clause-behind_the_last c = places_of_bindings-behind_the_last

pub returns-clause-no_variable : goal.returns-clause-no_variable
returns-clause-no_variable c = places_of_bindings-no_variable

pub returns-clause-next_function : goal.returns-clause-next_function
returns-clause-next_function c = places_of_bindings-next_function
