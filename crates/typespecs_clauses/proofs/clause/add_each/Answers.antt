use Rattle.typespecs_rules.specs.TypeParts.{types_within}
use Rattle.typespecs_names.specs.Seen.{seen}
use Rattle.typespecs_clauses.proofs.ClauseLaws.{each-step}
use Rattle.typespecs_clauses.proofs.clause.add_each.Goals as goal

pub types-preserved : goal.types-preserved
types-preserved c =
    each-step types_within c.args.types.now c.types.t-index c.t-item.result c.t-item.result c.types-test.true c.t-item.is (seen c.args.list.now.items) (seen c.types.list.items) (seen c.types_within.new.list.items) c.types.invariant c.in_ok-types_within.ensures
