use Rattle.std.proofs.Common.{ap, ◌∙◌}
use Rattle.typespecs_names.specs.Seen.{seen}
use Rattle.typespecs_names.proofs.Within.{seen-push}
use Rattle.typespecs_names.proofs.parts.note.Goals as goal

pub returns : goal.returns
returns c = ap seen c.in_ok-push.ensures.items ∙ seen-push c.args.list.now.items c.args.t
