use Rattle.std.proofs.Common.{arith}
use Rattle.erl_grammar.proofs.FormDepthLaws.{module_bounded}
use Rattle.erl_grammar.proofs.laws_of_forms.every_module_has_a_depth.Goals as goal

pub returns : goal.returns
returns c m h = let b = module_bounded h in (b.bound, b.empty b.bound (omega arith))
