use Rattle.type_terms.proofs.MapExamples.{map-definitions}
use Rattle.type_terms.proofs.examples.a_map_definition.Goals as goal

pub returns : goal.returns
returns c = map-definitions
