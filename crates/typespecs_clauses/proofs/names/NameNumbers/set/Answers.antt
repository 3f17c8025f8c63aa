use Rattle.typespecs_clauses.proofs.NameLaws.{inserted-by}
use Rattle.typespecs_clauses.proofs.names.NameNumbers.set.Goals as goal

pub returns : goal.returns
returns c = inserted-by c.as_slice.result c.args.name.now c.args.number c.self.inside.numbers.entries c.insert.new.self.entries c.args.self.now c.as_slice.ensures c.self.view_is c.in_ok-insert.ensures.entries
