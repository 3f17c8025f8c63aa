use Rattle.std.proofs.Common.{◌∙◌}
use Rattle.typespecs_terms.proofs.NamedTerms.{inserted_name}
use Rattle.typespecs_terms.proofs.tables.TermTable.insert.Goals as goal

pub returns : goal.returns
returns c = inserted_name c.args.self.now.terms.entries c.insert.new.self.entries c.in_ok-key.key c.args.term c.args.name.now (c.in_ok-key.ensures.items ∙ c.as_slice.ensures) c.in_ok-insert.ensures.entries
