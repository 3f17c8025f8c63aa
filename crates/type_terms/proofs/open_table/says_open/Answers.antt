use Rattle.std.proofs.Common.{◌≡◌, ◌∙◌, ◌<◌, subst, true, arith}
use Rattle.std.proofs.lemmas.List.{get_or_default}
use Rattle.type_terms.specs.BareNumbers.{open_by}
use Rattle.type_terms.proofs.open_table.says_open.Goals as goal

pub returns : goal.returns
returns c = λ _ i k. let l : k.0 < c.variables.variable-index = omega arith in subst (λ m. open_by c.args.table.now c.args.number m ≡ true) (get_or_default c.args.variables.now k.0 0 i k.1 ∙ k.2) (c.variables.invariant k.0 l)
