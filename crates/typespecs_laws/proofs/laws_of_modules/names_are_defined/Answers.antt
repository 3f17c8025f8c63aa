use Rattle.typespecs_lemmas.proofs.DefinedNames.{names-defined}
use Rattle.typespecs_laws.proofs.laws_of_modules.names_are_defined.Goals as goal

pub returns : goal.returns
returns c = names-defined
