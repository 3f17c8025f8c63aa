use Rattle.typespecs_rules.proofs.ModuleExamples.{regular_uses-not_regular, regular_uses-infinite_record, regular_uses-regular}
use Rattle.typespecs_rules.proofs.examples_of_modules.regular_uses.Goals as goal

pub returns-clause-not_regular : goal.returns-clause-not_regular
returns-clause-not_regular c = regular_uses-not_regular

pub returns-clause-infinite_record : goal.returns-clause-infinite_record
returns-clause-infinite_record c = regular_uses-infinite_record

pub returns-clause-regular : goal.returns-clause-regular
returns-clause-regular c = regular_uses-regular
