use Rattle.erl_grammar.proofs.TypeExamples.{map-of-two-formed, map-of-two-tokens}
use Rattle.erl_grammar.proofs.examples_of_types.parts_of_a_map_are_required_or_not.Goals as goal

pub returns-clause-formed : goal.returns-clause-formed
returns-clause-formed c = map-of-two-formed

pub returns-clause-tokens : goal.returns-clause-tokens
returns-clause-tokens c = map-of-two-tokens
