use Rattle.std.proofs.Common.{◌||◌, ap, ◌∙◌}
use Rattle.typespecs_rules.specs.TypeFaults.{stands_among}
use Rattle.typespecs_faults.specs.NameSets.{names_in}
use Rattle.typespecs_faults.proofs.NameSetLaws.{or-false}
use Rattle.typespecs_faults.proofs.name_set.NameSet.all_or_none.Goals as goal

pub returns : goal.returns
returns c = λ x. ap (λ ks. c.args.any || stands_among x (names_in ks)) c.new.ensures.empty ∙ or-false c.args.any
