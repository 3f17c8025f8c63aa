use Rattle.examples_rules.proofs.ScopeExamples.{comprehensions-first_in_the_head, comprehensions-second_in_the_head, comprehensions-list_of_the_first, comprehensions-list_of_the_second, comprehensions-no_fault, comprehensions-used_too_early, comprehensions-bound_first, comprehensions-bound_later, comprehensions-filter}
use Rattle.examples_rules.proofs.examples_of_names.comprehensions.Goals as goal

pub returns-clause-first_in_the_head : goal.returns-clause-first_in_the_head
returns-clause-first_in_the_head c = comprehensions-first_in_the_head

pub returns-clause-second_in_the_head : goal.returns-clause-second_in_the_head
returns-clause-second_in_the_head c = comprehensions-second_in_the_head

pub returns-clause-list_of_the_first : goal.returns-clause-list_of_the_first
returns-clause-list_of_the_first c = comprehensions-list_of_the_first

pub returns-clause-list_of_the_second : goal.returns-clause-list_of_the_second
returns-clause-list_of_the_second c = comprehensions-list_of_the_second

pub returns-clause-no_fault : goal.returns-clause-no_fault
returns-clause-no_fault c = comprehensions-no_fault

pub returns-clause-used_too_early : goal.returns-clause-used_too_early
returns-clause-used_too_early c = comprehensions-used_too_early

pub returns-clause-bound_first : goal.returns-clause-bound_first
returns-clause-bound_first c = comprehensions-bound_first

pub returns-clause-bound_later : goal.returns-clause-bound_later
returns-clause-bound_later c = comprehensions-bound_later

pub returns-clause-filter : goal.returns-clause-filter
returns-clause-filter c = comprehensions-filter
