use Rattle.examples_rules.proofs.ScopeExamples.{clauses_side_by_side-first_case_clause, clauses_side_by_side-second_case_clause, clauses_side_by_side-other_case_clause, clauses_side_by_side-first_function_clause, clauses_side_by_side-second_function_clause, clauses_side_by_side-no_fault, clauses_side_by_side-other_clause, clauses_side_by_side-no_number}
use Rattle.examples_rules.proofs.examples_of_names.clauses_side_by_side.Goals as goal

pub returns-clause-first_case_clause : goal.returns-clause-first_case_clause
returns-clause-first_case_clause c = clauses_side_by_side-first_case_clause

pub returns-clause-second_case_clause : goal.returns-clause-second_case_clause
returns-clause-second_case_clause c = clauses_side_by_side-second_case_clause

pub returns-clause-other_case_clause : goal.returns-clause-other_case_clause
returns-clause-other_case_clause c = clauses_side_by_side-other_case_clause

pub returns-clause-first_function_clause : goal.returns-clause-first_function_clause
returns-clause-first_function_clause c = clauses_side_by_side-first_function_clause

pub returns-clause-second_function_clause : goal.returns-clause-second_function_clause
returns-clause-second_function_clause c = clauses_side_by_side-second_function_clause

pub returns-clause-no_fault : goal.returns-clause-no_fault
returns-clause-no_fault c = clauses_side_by_side-no_fault

pub returns-clause-other_clause : goal.returns-clause-other_clause
returns-clause-other_clause c = clauses_side_by_side-other_clause

pub returns-clause-no_number : goal.returns-clause-no_number
returns-clause-no_number c = clauses_side_by_side-no_number
