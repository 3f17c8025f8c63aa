use Rattle.std.proofs.Common.{◌∙◌, ap, sym, cond, None}
use Rattle.erl_tree.specs.Functions.{of_function}
use Rattle.typespecs_names.specs.Numbers.{first_number}
use Rattle.typespecs_names.proofs.Steps.{if_ok}
use Rattle.typespecs_names.proofs.LookUps.{found-first}
use Rattle.typespecs_names.proofs.numbers.DeclaredNumbers.type_number.Goals as goal

pub returns : goal.returns
returns c =
    if_ok c.narrow.result _ _
    (λ n e d h. e ∙ (found-first c.args.self.now.types (of_function c.args.name.now c.args.count) c.in_ok-get.field-0 c.in_ok-get.ensures.distinct c.in_ok-get.ensures.found
    ∙ (ap (λ b. cond b None (first_number c.args.self.now.types (of_function c.args.name.now c.args.count))) (sym c.if-is_built_in_name.false ∙ c.is_built_in_name.ensures) ∙ h.types c.args.name.now c.args.count)))
    c.narrow.ensures
