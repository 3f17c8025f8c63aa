use Rattle.std.proofs.Common.{◌≡◌, refl, ap, subst, length, ◌≤◌, List, take, arith}
use Rattle.std.proofs.lemmas.Result.{err_from_is_err_and}
use Rattle.erl_tree.specs.declared.form.TreeForm.{TreeForm}
use Rattle.erl_tree.specs.Lists.{Every}
use Rattle.erl_tree.specs.Functions.{functions_in}
use Rattle.flat_modules.specs.FlatSpecs.{specs_of}
use Rattle.cert_checker.specs.Constraints.{Holds, owed_by_functions, owed_of}
use Rattle.cert_checker.proofs.Safe.{specs-safe}
use Rattle.cert_checker.proofs.Takes.{item-found, take-all}
use Rattle.cert_checker.proofs.Sequences.{function-count, holds-step, next-count, fails-step}
use Rattle.cert_checker.proofs.ModuleForms.{module-flat}
use Rattle.cert_checker.proofs.ModuleChecks.{table-holds}
use Rattle.cert_checker.proofs.checks.check_first.Goals as goal

pub spec_table-requires : goal.spec_table-requires
spec_table-requires c = module-flat c.args.module.now c.requires.flat

pub loop-form-init : goal.loop-form-init
loop-form-init c = record { holds = λ fits finds. tt; count = refl }

pub check_form-requires-clause-table : goal.check_form-requires-clause-table
check_form-requires-clause-table c = table-holds c.args.module.now c.in_ok-table.table c.requires.flat c.in_ok-table.ensures.places c.in_ok-table.ensures.types

pub check_form-requires-clause-form : goal.check_form-requires-clause-form
check_form-requires-clause-form c = (c.loop-form.form-index, item-found c.as_slice-form-items.result.now c.args.module.now.forms c.loop-form.form-index c.form-item.result c.as_slice-form-items.ensures c.loop-form-test.true c.form-item.is)

pub check_form-requires-clause-room : goal.check_form-requires-clause-room
check_form-requires-clause-room c =
    let h : length (functions_in (take c.loop-form.form-index c.args.module.now.forms)) ≤ c.loop-form.form-index = function-count c.args.module.now.forms c.loop-form.form-index in
    let n : c.loop-form.number ≡ length (functions_in (take c.loop-form.form-index c.args.module.now.forms)) = c.loop-form.invariant.count in
    omega arith

pub returns-in_err-number-clause-failed : goal.returns-in_err-number-clause-failed
returns-in_err-number-clause-failed c =
    let at = item-found c.as_slice-form-items.result.now c.args.module.now.forms c.loop-form.form-index c.form-item.result c.as_slice-form-items.ensures c.loop-form-test.true c.form-item.is in
    let p = err_from_is_err_and c.from_residual-in_err-number.result c.from_residual-in_err-number.ensures.1 in
    rw (p.1, p.2) (λ fits finds. fails-step fits c.args.module.now c.loop-form.form-index c.form-item.result c.loop-form.number c.in_err-number.field-0.0 at (c.loop-form.invariant.holds fits finds) c.loop-form.invariant.count (c.in_err-number.ensures.fails fits finds))

pub loop-form-preserved : goal.loop-form-preserved
loop-form-preserved c =
    let at = item-found c.as_slice-form-items.result.now c.args.module.now.forms c.loop-form.form-index c.form-item.result c.as_slice-form-items.ensures c.loop-form-test.true c.form-item.is in
    record {
      holds = λ fits finds. (holds-step fits c.args.module.now.forms (specs_of c.args.module.now) c.loop-form.form-index c.form-item.result c.loop-form.number c.in_ok-number.number at (c.loop-form.invariant.holds fits finds) c.loop-form.invariant.count (c.in_ok-number.ensures.holds fits finds) c.in_ok-number.ensures.next).0;
      count = next-count c.args.module.now.forms c.loop-form.form-index c.form-item.result c.loop-form.number c.in_ok-number.number at c.loop-form.invariant.count c.in_ok-number.ensures.next;
    }

pub returns-clause-holds : goal.returns-clause-holds
unfolding owed_of
returns-clause-holds c fits finds =
    let full : c.loop-form.form-index ≡ length c.args.module.now.forms = let l = ap length c.as_slice-form-items.ensures in let x = c.loop-form-test.false in let y = c.loop-form.auto.form-index-end in omega arith in
    let t : take c.loop-form.form-index c.args.module.now.forms ≡ c.args.module.now.forms = take-all c.args.module.now.forms c.loop-form.form-index full in
    subst (λ (z : List TreeForm). Every Holds (owed_by_functions fits 0 (functions_in z) (specs_of c.args.module.now))) t (c.loop-form.invariant.holds fits finds)

pub returns-clause-safe : goal.returns-clause-safe
returns-clause-safe c = specs-safe c.args.module.now c.requires.flat c.args.specs.now c.requires.specs (returns-clause-holds c)
