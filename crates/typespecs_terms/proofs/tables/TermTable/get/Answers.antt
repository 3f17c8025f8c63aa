use Rattle.std.proofs.Common.{◌∙◌}
use Rattle.typespecs_terms.proofs.NamedTerms.{found}
use Rattle.typespecs_terms.proofs.tables.TermTable.get.Goals as goal

pub returns : goal.returns
returns c = c.get.ensures.value ∙ found c.as_slice.result.now c.args.name.now c.args.self.now.terms.entries c.as_slice.ensures
