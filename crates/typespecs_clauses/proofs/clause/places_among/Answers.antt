use Rattle.std.proofs.Common.{◌∙◌}
use Rattle.typespecs_clauses.specs.Names.{number_of}
use Rattle.typespecs_clauses.proofs.ClauseLaws.{row-more, row-same}
use Rattle.typespecs_clauses.proofs.clause.places_among.Goals as goal
use Rattle.typespecs_clauses.proofs.clause.places_among.Goals.{in-Some+in_ok-narrow+in_ok-push, in_default}

pub types-preserved : goal.types-preserved
types-preserved c =
    elim c.match-place_of.branch [
      | in-Some+in_ok-narrow+in_ok-push w ↦ w.row-is ∙ row-more c.args.types.now c.types.t-index c.t-item.result c.types-test.true c.t-item.is (number_of c.args.places.now) c.place_of.result w.in-Some.place w.in_ok-narrow.field-0 c.types.row w.push.new.self c.place_of.ensures w.in-Some.is w.in_ok-narrow.ensures c.types.invariant w.in_ok-push.ensures.ok
      | in_default w ↦ w.row-is ∙ row-same c.args.types.now c.types.t-index c.t-item.result c.types-test.true c.t-item.is (number_of c.args.places.now) c.place_of.result c.types.row c.place_of.ensures w.in_default.is c.types.invariant
    ]
