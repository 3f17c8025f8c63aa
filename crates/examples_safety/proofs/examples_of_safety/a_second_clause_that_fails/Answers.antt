use Rattle.examples_safety.proofs.Safe.{f-kept, f-broken, f-first}
use Rattle.examples_safety.proofs.examples_of_safety.a_second_clause_that_fails.Goals as goal

pub returns-clause-kept : goal.returns-clause-kept
returns-clause-kept c = f-kept

pub returns-clause-broken : goal.returns-clause-broken
returns-clause-broken c = f-broken

pub returns-clause-first_alone : goal.returns-clause-first_alone
returns-clause-first_alone c = f-first
