use Rattle.flat_modules.proofs.ModuleLaws.{module-whole, module-tokens, module-passing}
use Rattle.flat_modules.proofs.laws.flat_modules_are_modules.Goals as goal

pub returns-clause-formed : goal.returns-clause-formed
returns-clause-formed c = module-whole

pub returns-clause-tokens : goal.returns-clause-tokens
returns-clause-tokens c = module-tokens

pub returns-clause-flat : goal.returns-clause-flat
returns-clause-flat c = module-passing
