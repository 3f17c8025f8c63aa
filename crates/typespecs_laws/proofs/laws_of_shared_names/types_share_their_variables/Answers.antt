use Rattle.typespecs_laws.proofs.SharedNames.{stay-distinct, keep-places, stand-there}
use Rattle.typespecs_laws.proofs.laws_of_shared_names.types_share_their_variables.Goals as goal

pub returns-clause-distinct : goal.returns-clause-distinct
returns-clause-distinct c = stay-distinct

pub returns-clause-kept : goal.returns-clause-kept
returns-clause-kept c = keep-places

pub returns-clause-added : goal.returns-clause-added
returns-clause-added c = stand-there
