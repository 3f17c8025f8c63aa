use Rattle.std.proofs.Common.{subst, sym, ◌++◌}
use Rattle.type_terms.specs.Refusals.{AreWellMade}
use Rattle.type_terms.proofs.defs.add_definitions.Goals as goal

pub push_and_check-answer-requires : goal.push_and_check-answer-requires
push_and_check-answer-requires c = subst (λ more. AreWellMade (c.args.list.now ++ more)) (sym c.in_ok-more.ensures) c.requires
