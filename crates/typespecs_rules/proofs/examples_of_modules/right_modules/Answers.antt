use Rattle.typespecs_rules.proofs.ModuleExamples.{right_modules-bounded_once, right_modules-once_alone}
use Rattle.typespecs_rules.proofs.examples_of_modules.right_modules.Goals as goal

pub returns-clause-bounded_once : goal.returns-clause-bounded_once
returns-clause-bounded_once c = right_modules-bounded_once

pub returns-clause-once_alone : goal.returns-clause-once_alone
returns-clause-once_alone c = right_modules-once_alone
