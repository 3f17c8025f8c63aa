use Rattle.flat_modules.proofs.FlatLaws.{flat-formed, flat-module}
use Rattle.flat_modules.proofs.laws.flat_modules_by_their_grammar.Goals as goal

pub returns-clause-formed : goal.returns-clause-formed
returns-clause-formed c = flat-formed

pub returns-clause-flat : goal.returns-clause-flat
returns-clause-flat c = flat-module
