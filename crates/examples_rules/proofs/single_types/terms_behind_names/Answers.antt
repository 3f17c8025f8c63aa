use Rattle.examples_rules.proofs.SingleTypes.{among, fresh, both, name-twice, declared-name, wildcard, no-number, no-term}
use Rattle.examples_rules.proofs.single_types.terms_behind_names.Goals as goal

pub returns-clause-among : goal.returns-clause-among
returns-clause-among c = among

pub returns-clause-fresh : goal.returns-clause-fresh
returns-clause-fresh c = fresh

pub returns-clause-both : goal.returns-clause-both
returns-clause-both c = both

pub returns-clause-name_twice : goal.returns-clause-name_twice
returns-clause-name_twice c = name-twice

pub returns-clause-declared : goal.returns-clause-declared
returns-clause-declared c = declared-name

pub returns-clause-wildcard : goal.returns-clause-wildcard
returns-clause-wildcard c = wildcard

pub returns-clause-no_number : goal.returns-clause-no_number
returns-clause-no_number c = no-number

pub returns-clause-no_term : goal.returns-clause-no_term
returns-clause-no_term c = no-term
