use Rattle.std.proofs.Common.{◌∙◌, sym, ap, arith}
use Rattle.erl_runs.specs.Names.{is_built_in}
use Rattle.erl_tree.specs.Functions.{of_function}
use Rattle.erl_scope_built_ins.proofs.BuiltIns.{of_two, of_others}
use Rattle.erl_scope_built_ins.proofs.is_built_in_function.Goals as goal

pub returns-in-2 : goal.returns-in-2
returns-in-2 c = c.is_text.ensures ∙ sym (ap (λ n. is_built_in (of_function c.args.name.now n)) c.in-2.is ∙ of_two c.args.name.now)

pub returns-in_default : goal.returns-in_default
returns-in_default c = sym (of_others c.args.name.now c.args.arity (λ e. omega arith) (λ e. omega arith))
