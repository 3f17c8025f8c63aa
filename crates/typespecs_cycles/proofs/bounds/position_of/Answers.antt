use Rattle.std.proofs.Common.{◌∙◌}
use Rattle.typespecs_cycles.proofs.PositionLaws.{position-is}
use Rattle.typespecs_cycles.proofs.bounds.position_of.Goals as goal

pub returns-else-is_wildcard : goal.returns-else-is_wildcard
returns-else-is_wildcard c = λ names known.
    position-is c.args.t.now.kind c.get.result.now c.in-Var.name c.as_slice.result.now c.is_wildcard.result c.args.positions.now.entries names c.copied.result c.get.ensures c.in-Var.is c.is_wildcard.ensures c.if-is_wildcard.false c.as_slice.ensures known (c.copied.ensures ∙ c.get-in-Var.ensures.value)
