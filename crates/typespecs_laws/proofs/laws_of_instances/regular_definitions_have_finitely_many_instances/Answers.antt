use Rattle.typespecs_laws.proofs.FewChains.{finitely-many}
use Rattle.typespecs_laws.proofs.laws_of_instances.regular_definitions_have_finitely_many_instances.Goals as goal

pub returns : goal.returns
returns c = finitely-many
