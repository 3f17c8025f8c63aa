use Rattle.std.proofs.Common.{◌≡◌, ◌∙◌, ◌∷◌, ◌||◌, not, refl, ap, sym, subst}
use Rattle.std.specs.List.{list_any}
use Rattle.erl_tree.specs.Functions.{FunctionId, of_function, function_id}
use Rattle.erl_runs.specs.Names.{same_id, is_built_in}
use Rattle.name_table.specs.Table.{ids}
use Rattle.erl_scope_rules.specs.declared.fault.NameFault.TheVariants.{TwoFunctions, NoSpec}
use Rattle.erl_scope_rules.specs.ScopeFaults.{unless}
use Rattle.erl_scope_faults.specs.FormFaults.{HasSameFunctions}
use Rattle.erl_scope_faults.specs.PartFaults.{function_clauses_faults}
use Rattle.erl_scope_faults.proofs.FaultLevels.{function-clauses-are}
use Rattle.erl_scope_faults.proofs.FunctionLookups.{found-any}
use Rattle.erl_scope_faults.proofs.Steps.{if_three, given}
use Rattle.erl_scope_faults.proofs.TableLaws.{in_front, free_if_new, not_free}
use Rattle.erl_scope_faults.proofs.forms.check_function.Goals as goal
use Rattle.erl_scope_faults.proofs.forms.check_function.Goals.{then-is_new, else-is_new}

pub returns-clause-faults : goal.returns-clause-faults
returns-clause-faults c =
    let named : (of_function c.args.function.now.name c.arity-arity.result) ≡ function_id c.args.function.now = ap (of_function c.args.function.now.name) c.arity-arity.ensures in
    let free : c.if-is_new.is_free ≡ not (is_built_in (of_function c.args.function.now.name c.arity-arity.result) || list_any (same_id (of_function c.args.function.now.name c.arity-arity.result)) (ids c.args.before.now)) =
    elim c.if-is_new.branch [
      | then-is_new w ↦ w.is_free-is ∙ free_if_new c.in_ok-is_new.is_new c.args.before.now (of_function c.args.function.now.name c.arity-arity.result) 0 c.insert.new.self c.in_ok-is_new.ensures.inserted w.if-is_new.true w.is_built_in_function.result w.is_built_in_function.ensures
      | else-is_new w ↦ w.is_free-is ∙ w.if-is_new.false ∙ not_free c.in_ok-is_new.is_new c.args.before.now (of_function c.args.function.now.name c.arity-arity.result) 0 c.insert.new.self c.in_ok-is_new.ensures.inserted w.if-is_new.false
    ] in
    if_three c.check_function_clauses.result c.args.first.now c.note_unless.new.first c.note_unless-2.new.first c.check_function_clauses.new.first _ _ _ _ _ _ _
    (ap (λ b. unless b TwoFunctions c.args.function.now.place) (free ∙ ap (λ (g : FunctionId). not (is_built_in g || list_any (same_id g) (ids c.args.before.now))) named))
    (ap (λ b. unless b NoSpec c.args.function.now.place) (found-any c.args.specified.now (of_function c.args.function.now.name c.arity-arity.result) c.in_ok-get.field-0 c.is_some-has_spec.result c.is_some-has_spec.ensures c.in_ok-get.ensures.found ∙ ap (λ (g : FunctionId). list_any (same_id g) (ids c.args.specified.now)) named))
    (ap (function_clauses_faults (ids c.args.names.now.functions) c.args.names.now.records) c.as_slice.ensures ∙ sym (function-clauses-are (ids c.args.names.now.functions) c.args.names.now.records c.args.function.now.clauses))
    refl c.note_unless.ensures c.note_unless-2.ensures c.check_function_clauses.ensures

pub returns-clause-added : goal.returns-clause-added
returns-clause-added c =
    given c.check_function_clauses.result (HasSameFunctions (ids c.insert.new.self) (function_id c.args.function.now ∷ ids c.args.before.now))
    (subst (λ (g : FunctionId). HasSameFunctions (ids c.insert.new.self) (g ∷ ids c.args.before.now)) (ap (of_function c.args.function.now.name) c.arity-arity.ensures) (in_front c.in_ok-is_new.is_new c.args.before.now (of_function c.args.function.now.name c.arity-arity.result) 0 c.insert.new.self c.in_ok-is_new.ensures.inserted))
