use Rattle.type_terms.proofs.SimpleTerms.{made-of-both}
use Rattle.type_terms.proofs.DefinitionLaws.{made-of-definitions}
use Rattle.type_terms.proofs.defs.Defs.add.Goals as goal

pub add_definitions-requires : goal.add_definitions-requires
add_definitions-requires c = made-of-both c.self.inside.list c.args.more (made-of-definitions c.self.inside.list c.self.invariant.0) c.requires
