use Rattle.std.proofs.Common.{◌∙◌, ◌||◌, not, ap, sym}
use Rattle.typespecs_faults.proofs.forms.is_free.Goals as goal

pub returns-then-is_built_in_name : goal.returns-then-is_built_in_name
returns-then-is_built_in_name c = λ t e. ap (λ b. not (b || t)) (sym c.if-is_built_in_name.true ∙ c.is_built_in_name.ensures)

pub returns : goal.returns
returns c = λ t e. e ∙ ap (λ b. not (b || t)) (sym c.if-is_built_in_name.false ∙ c.is_built_in_name.ensures)
