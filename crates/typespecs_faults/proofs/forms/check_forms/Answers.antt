use Rattle.std.proofs.Common.{◌∙◌, ◌+◌, drop, refl, ap, sym, arith}
use Rattle.std.specs.List.{list_any}
use Rattle.erl_tree.specs.Functions.{of_function}
use Rattle.erl_runs.specs.Names.{same_id}
use Rattle.name_table.specs.Table.{ids}
use Rattle.std.proofs.lemmas.List.{drop_all}
use Rattle.typespecs_rules.specs.TypeFaults.{behind, form_faults, forms_faults}
use Rattle.typespecs_rules.specs.Earliest.{earliest}
use Rattle.typespecs_faults.specs.Behind.{nothing_behind}
use Rattle.typespecs_faults.proofs.EarliestLaws.{earliest-append}
use Rattle.typespecs_faults.proofs.Rows.{rest_at}
use Rattle.typespecs_faults.proofs.forms.check_forms.Goals as goal

pub loop-form-init : goal.loop-form-init
loop-form-init c = (
  nothing_behind,
  record {
    types = λ name count. ap (λ es. list_any (same_id (of_function name count)) (ids es)) c.new.ensures;
    records = λ name. ap (λ es. list_any (same_id (of_function name 0)) (ids es)) c.new-2.ensures;
    specs = λ id. ap (λ es. list_any (same_id id) (ids es)) c.new-3.ensures;
  },
  λ d k. refl,
)

pub loop-form-preserved : goal.loop-form-preserved
loop-form-preserved c = (
  behind c.form-item.result c.loop-form.invariant.0,
  c.in_ok-check_form.ensures.added c.loop-form.invariant.0 c.loop-form.invariant.1,
  λ d k.
      ap (λ f. earliest f (forms_faults d (behind c.form-item.result c.loop-form.invariant.0) (drop (c.loop-form.form-index + 1) c.args.forms.now))) (c.in_ok-check_form.ensures.noted c.loop-form.invariant.0 c.loop-form.invariant.1 d k)
      ∙ (sym (earliest-append c.loop-form.first (form_faults d c.loop-form.invariant.0 c.form-item.result) (forms_faults d (behind c.form-item.result c.loop-form.invariant.0) (drop (c.loop-form.form-index + 1) c.args.forms.now)))
      ∙ (ap (λ fs. earliest c.loop-form.first (forms_faults d c.loop-form.invariant.0 fs)) (sym (rest_at c.args.forms.now c.loop-form.form-index c.form-item.result c.loop-form-test.true c.form-item.is)) ∙ c.loop-form.invariant.2 d k)),
)

pub returns : goal.returns
returns c = λ d k. ap (λ fs. earliest c.loop-form.first (forms_faults d c.loop-form.invariant.0 fs)) (sym (drop_all c.loop-form.form-index c.args.forms.now (omega arith))) ∙ c.loop-form.invariant.2 d k
