use Rattle.std.proofs.Common.{◌∙◌, [], ◌∷◌, ap, sym, subst, length, refl, take_all, Some}
use Rattle.std.proofs.lemmas.Option.{slice_get_read}
use Rattle.erl_runs.specs.Specs.{all_present}
use Rattle.typespecs.specs.Reads.{given_all}
use Rattle.typespecs.proofs.Present.{added-next, added-stops}
use Rattle.typespecs.proofs.Declared.{specs_of, specs_append, form-acyclic}
use Rattle.typespecs.proofs.assembly.function_specs.Goals as goal

pub add_spec-requires : goal.add_spec-requires
add_spec-requires c = form-acyclic c.args.forms.now c.loop-form.form-index c.form-item.result (slice_get_read c.args.forms.now (length c.args.forms.now) c.loop-form.form-index c.form-item.result refl c.loop-form-test.true c.form-item.is) c.requires

pub returns-then-not-branch : goal.returns-then-not-branch
returns-then-not-branch c = λ d reads.
    sym (added-stops (specs_of d) (specs_append d) c.args.forms.now c.loop-form.form-index c.form-item.result c.loop-form-test.true c.form-item.is c.loop-form.specs c.add_spec.new.specs
    (subst (λ b. given_all (all_present (specs_of d (c.form-item.result ∷ []))) b c.loop-form.specs c.add_spec.new.specs) c.if-not-branch.true (c.in_ok-add_spec.ensures d reads)))

pub loop-form-preserved : goal.loop-form-preserved
loop-form-preserved c = λ d reads.
    added-next (specs_of d) (specs_append d) c.args.forms.now c.loop-form.form-index c.form-item.result c.loop-form-test.true c.form-item.is [] c.loop-form.specs c.add_spec.new.specs (c.loop-form.invariant d reads)
    (subst (λ b. given_all (all_present (specs_of d (c.form-item.result ∷ []))) b c.loop-form.specs c.add_spec.new.specs) c.if-not-branch.false (c.in_ok-add_spec.ensures d reads))

pub returns : goal.returns
returns c = λ d reads.
    let so_far = c.loop-form.invariant d reads in
    ap Some so_far.2 ∙ (sym so_far.1 ∙ ap (λ fs. all_present (specs_of d fs)) (take_all c.loop-form.form-index c.args.forms.now c.loop-form-test.false))
