use Rattle.examples_rules.proofs.ScopeExamples.{parts_of_a_try-behind_the_body, parts_of_a_try-variable_of_the_body, parts_of_a_try-variable_of_a_clause, parts_of_a_try-variable_of_a_catch, parts_of_a_try-not_seen_behind_the_body, parts_of_a_try-beside_each_other}
use Rattle.examples_rules.proofs.examples_of_names.parts_of_a_try.Goals as goal

pub returns-clause-behind_the_body : goal.returns-clause-behind_the_body
returns-clause-behind_the_body c = parts_of_a_try-behind_the_body

pub returns-clause-variable_of_the_body : goal.returns-clause-variable_of_the_body
returns-clause-variable_of_the_body c = parts_of_a_try-variable_of_the_body

pub returns-clause-variable_of_a_clause : goal.returns-clause-variable_of_a_clause
returns-clause-variable_of_a_clause c = parts_of_a_try-variable_of_a_clause

pub returns-clause-variable_of_a_catch : goal.returns-clause-variable_of_a_catch
returns-clause-variable_of_a_catch c = parts_of_a_try-variable_of_a_catch

pub returns-clause-not_seen_behind_the_body : goal.returns-clause-not_seen_behind_the_body
returns-clause-not_seen_behind_the_body c = parts_of_a_try-not_seen_behind_the_body

pub returns-clause-beside_each_other : goal.returns-clause-beside_each_other
returns-clause-beside_each_other c = parts_of_a_try-beside_each_other
