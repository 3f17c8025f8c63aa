use Rattle.std.proofs.Common.{arith}
use Rattle.std.proofs.lemmas.Grind.{common_steps}
use Rattle.typespecs_rules.specs.declared.specs.Specs.{Specs}
use Rattle.erl_runs.specs.Safety.{IsSafe}
use Rattle.etylizer_program.proofs.Verdicts.{accepted_module, of_specs}
use Rattle.etylizer_program.proofs.check.check_module.Goals as goal

pub returns-clause-accepted : goal.returns-clause-accepted
returns-clause-accepted c =
    accepted_module c.args.tree.now c.in_ok-name.name c.count_functions.result c.count_specs.result c.requires.flat c.in_ok-check_first.ensures.holds
    (of_specs c.args.tree.now c.args.specs.now (λ (s : Specs). IsSafe c.args.tree.now s.functions s.defs) c.requires.specs c.in_ok-check_first.ensures.safe)
    c.in_ok-name.ensures (grind (arith, common_steps)) (grind (arith, common_steps))
