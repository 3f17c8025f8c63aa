use Rattle.erl_scope_numbers.proofs.OfModules.{place_in_resolved-binding_place}
use Rattle.erl_scope_numbers.proofs.laws.places_are_those_of_the_module.Goals as goal

pub returns : goal.returns
returns c = place_in_resolved-binding_place
