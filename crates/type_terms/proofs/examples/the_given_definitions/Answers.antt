use Rattle.type_terms.proofs.GivenDefinitions.{given}
use Rattle.type_terms.proofs.examples.the_given_definitions.Goals as goal

pub returns : goal.returns
returns c = given
