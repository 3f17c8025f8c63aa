use Rattle.std.proofs.Common.{subst, Option}
use Rattle.std.specs.Prelude.{MatchOption}
use Rattle.erl_tree.specs.declared.token.Place.{Place}
use Rattle.erl_tree.specs.Lists.{Every}
use Rattle.typespecs_rules.specs.declared.fault.TypeFault.TheVariants.{NegatedFun}
use Rattle.typespecs_rules.specs.TypeFaults.{of_specs, IsWellSignedArrow, IsNotSigned, arrows_of, fault_at}
use Rattle.typespecs.specs.TextFaults.{IsFirstOfText}
use Rattle.typespecs.proofs.reading.read_specs.Goals as goal

pub returns-in-Some-2-clause-fault : goal.returns-in-Some-2-clause-fault
returns-in-Some-2-clause-fault c =
    of_specs c.in_ok-specs.specs (record { no_fault = subst (IsFirstOfText c.args.module.now) c.in_default.is c.in_ok-first.ensures; terms = c.in_ok-specs.ensures.terms }) c.in_ok-specs.ensures.contractive
    (subst (λ (o : Option Place). MatchOption o (Every (IsWellSignedArrow c.in_ok-specs.specs.defs) (arrows_of c.in_ok-specs.specs)) (λ p. IsNotSigned c.args.module.now c.in_ok-specs.specs (fault_at NegatedFun p))) c.in-Some-2.is c.in_ok-place.ensures)
