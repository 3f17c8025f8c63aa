use Rattle.typespecs_faults.proofs.LevelLaws.{use-out, use-in}
use Rattle.typespecs_faults.proofs.levels.note_use.Goals as goal

pub returns-then-is_out_of_profile : goal.returns-then-is_out_of_profile
returns-then-is_out_of_profile c = λ d k. use-out d c.args.name.now c.args.count c.args.place c.args.first.now c.note.new.first c.is_out_of_profile.result c.is_out_of_profile.ensures c.if-is_out_of_profile.true c.note.ensures

pub returns : goal.returns
returns c = λ d k. use-in d c.args.name.now c.args.count c.args.place c.args.first.now c.note_unless.new.first c.is_out_of_profile.result _ c.is_out_of_profile.ensures c.if-is_out_of_profile.false (c.in_ok-is_there.ensures d k) c.note_unless.ensures
