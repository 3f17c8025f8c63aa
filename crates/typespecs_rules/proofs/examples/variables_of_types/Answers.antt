use Rattle.typespecs_rules.proofs.TypeExamples.{variables_of_types-first, variables_of_types-second}
use Rattle.typespecs_rules.proofs.examples.variables_of_types.Goals as goal

pub returns-clause-first : goal.returns-clause-first
returns-clause-first c = variables_of_types-first

pub returns-clause-second : goal.returns-clause-second
returns-clause-second c = variables_of_types-second
