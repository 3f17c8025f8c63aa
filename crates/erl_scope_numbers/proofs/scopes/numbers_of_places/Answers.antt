use Rattle.erl_tree.specs.declared.token.Place.{Place}
use Rattle.erl_scope_numbers.proofs.Steps.{AreNumbersOf-more}
use Rattle.erl_scope_numbers.proofs.scopes.numbers_of_places.Goals as goal

abbrev no_place : Place
no_place = record { line = 0; column = 0 }

pub places-preserved : goal.places-preserved
places-preserved c =
    AreNumbersOf-more c.args.places.now c.places.index no_place c.places.numbers c.add.new.self c.in-Ok.number c.places-test.true c.places.invariant c.in-Ok.ensures.1 c.in_ok-add.ensures
