use Rattle.std.proofs.Common.{◌∙◌}
use Rattle.typespecs_clauses.proofs.NameLaws.{found-by}
use Rattle.typespecs_clauses.proofs.names.NameNumbers.get.Goals as goal

pub returns : goal.returns
returns c = found-by c.as_slice.result.now c.args.name.now c.self.inside.numbers.entries c.args.self.now c.copied.result c.as_slice.ensures c.self.view_is (c.copied.ensures ∙ c.get.ensures.value)
