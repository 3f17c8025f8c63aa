use Rattle.std.proofs.Common.{◌≡◌, ◌∙◌, ap, sym, subst, map, List}
use Rattle.std.specs.Prelude.{Some, IsTrue}
use Rattle.std.specs.Prelude.{◌↔◌}
use Rattle.erl_tree.specs.declared.token.Node.{Node}
use Rattle.erl_tree.specs.declared.type_expr.TypeKind.{TypeKind, out-TypeKind}
use Rattle.erl_runs.specs.Specs.{all_present}
use Rattle.typespecs_rules.specs.RegularUse.{argument_layer, variables_from}
use Rattle.typespecs_rules.specs.TypeTerms.{type_term}
use Rattle.typespecs_rules.specs.TypeVariables.{parameters}
use Rattle.typespecs_cycles.proofs.Layers.{arguments-none}
use Rattle.typespecs_cycles.proofs.ParameterLaws.{passes-none}
use Rattle.typespecs_cycles.proofs.parameters.passes_parameters.Goals as goal

pub returns-in_default : goal.returns-in_default
returns-in_default c = λ d.
    subst (λ (args : List (Node TypeKind)). IsTrue c.is_empty.result ↔ (all_present (map (type_term d (parameters c.args.params.now)) args) ≡ Some (variables_from 0 c.args.params.now)))
    (sym (ap (λ k. argument_layer (out-TypeKind k)) (sym c.get.ensures) ∙ arguments-none c.get.result.now c.in_default.not-Use)) (passes-none c.is_empty.result c.args.params.now c.is_empty.ensures)
