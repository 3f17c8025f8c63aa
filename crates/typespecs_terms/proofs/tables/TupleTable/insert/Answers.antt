use Rattle.std.proofs.Common.{◌∙◌, ap}
use Rattle.std.specs.Option.{option_map}
use Rattle.type_terms.specs.Keys.{same_name}
use Rattle.typespecs_terms.specs.Tables.{first_named, tuple_as}
use Rattle.typespecs_terms.proofs.NamedTerms.{inserted_name, map-cond}
use Rattle.typespecs_terms.proofs.tables.TupleTable.insert.Goals as goal

pub returns : goal.returns
returns c = λ x.
    ap (option_map tuple_as) (inserted_name c.args.self.now.tuples.entries c.insert.new.self.entries c.in_ok-key.key c.args.tuple c.args.name.now (c.in_ok-key.ensures.items ∙ c.as_slice.ensures) c.in_ok-insert.ensures.entries x)
    ∙ map-cond tuple_as (same_name c.args.name.now x) c.args.tuple (first_named c.args.self.now.tuples.entries x)
