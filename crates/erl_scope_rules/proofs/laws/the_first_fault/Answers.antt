use Rattle.erl_scope_rules.proofs.EarliestLaws.{earliest-stands, earliest-first, earliest-none}
use Rattle.erl_scope_rules.proofs.laws.the_first_fault.Goals as goal

pub returns-clause-stands : goal.returns-clause-stands
returns-clause-stands c = earliest-stands

pub returns-clause-first : goal.returns-clause-first
returns-clause-first c = earliest-first

pub returns-clause-none : goal.returns-clause-none
returns-clause-none c = earliest-none
