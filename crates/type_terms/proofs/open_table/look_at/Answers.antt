use Rattle.std.proofs.Common.{rules}
use Rattle.type_terms.proofs.MarkLaws.{marked-sound}
use Rattle.type_terms.proofs.open_table.look_at.Goals as goal

pub returns-in_ok-is_new-in-Some : goal.returns-in_ok-is_new-in-Some
returns-in_ok-is_new-in-Some c = marked-sound c.args.defs.now _ _ c.args.number c.in-Some.def.now _ c.requires (search rules) (search rules) c.in_ok-is_new-in-Some.ensures
