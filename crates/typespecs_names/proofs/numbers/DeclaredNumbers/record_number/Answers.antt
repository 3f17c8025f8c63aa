use Rattle.std.proofs.Common.{◌∙◌}
use Rattle.erl_tree.specs.Functions.{of_function}
use Rattle.typespecs_names.proofs.Steps.{if_ok}
use Rattle.typespecs_names.proofs.LookUps.{found-first}
use Rattle.typespecs_names.proofs.numbers.DeclaredNumbers.record_number.Goals as goal

pub returns : goal.returns
returns c =
    if_ok c.narrow.result _ _
    (λ n e d h. e ∙ (found-first c.args.self.now.records (of_function c.args.name.now 0) c.in_ok-get.field-0 c.in_ok-get.ensures.distinct c.in_ok-get.ensures.found ∙ h.records c.args.name.now))
    c.narrow.ensures
