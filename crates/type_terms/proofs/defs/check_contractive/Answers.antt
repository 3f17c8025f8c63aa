use Rattle.std.proofs.Common.{subst}
use Rattle.type_terms.proofs.DefinitionLaws.{LeastReaching, made-definitions}
use Rattle.type_terms.proofs.defs.check_contractive.Goals as goal

pub returns : goal.returns
returns c = (made-definitions c.args.defs.now c.requires.made c.requires.named (subst (LeastReaching c.args.defs.now) c.in-None.is c.in_ok-number.ensures), c.in_ok-signs-in-None.ensures)
