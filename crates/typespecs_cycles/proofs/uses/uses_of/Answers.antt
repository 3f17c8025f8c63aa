use Rattle.std.proofs.Common.{◌∙◌, map}
use Rattle.typespecs_cycles.specs.DeclarationParts.{inner_of}
use Rattle.typespecs_cycles.proofs.GraphLaws.{mentions-are, expansions-are}
use Rattle.typespecs_cycles.proofs.uses.uses_of.Goals as goal

pub returns : goal.returns
returns c = λ d known is. (
  known,
  c.in_ok-mentions.ensures ∙ (c.in_ok-mention_graph.ensures d known ∙ mentions-are d (map inner_of c.args.parts.now) is),
  c.in_ok-expansions.ensures ∙ (c.in_ok-expansion_graph.ensures d known ∙ expansions-are d (map inner_of c.args.parts.now) is),
)
