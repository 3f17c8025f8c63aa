use Rattle.type_terms.proofs.UndefinedMeaning.{among-none, none-among}
use Rattle.type_terms.proofs.laws.undefined_names.Goals as goal

pub returns : goal.returns
returns c defs = (among-none defs, none-among defs)
