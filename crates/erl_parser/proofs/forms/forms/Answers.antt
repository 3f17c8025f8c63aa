use Rattle.std.proofs.lemmas.Result.{err_from_is_err_and}
use Rattle.erl_grammar.specs.Nesting.{nesting_limit}
use Rattle.erl_parser.proofs.FormLoops.{forms_step, forms_end, forms_fail}
use Rattle.erl_parser.proofs.forms.forms.Goals as goal

pub returns-in-Some : goal.returns-in-Some
returns-in-Some c = record { exact = forms_end nesting_limit c.forms.found c.forms.rest.now _ c.in-Some.place c.forms.invariant c.in-Some.ensures.exact }

pub returns-in_err-form-in-None : goal.returns-in_err-form-in-None
returns-in_err-form-in-None c =
    let p = err_from_is_err_and c.from_residual.result c.from_residual.ensures.1 in
    record { exact = rw (p.1, p.2) (forms_fail nesting_limit c.in_err-form-in-None.field-0.0 c.forms.found c.forms.rest.now _ c.forms.invariant c.in-None.ensures.exact c.in_err-form-in-None.ensures.exact) }

pub forms-preserved : goal.forms-preserved
forms-preserved c = forms_step nesting_limit c.forms.found _ c.forms.rest.now _ c.in_ok-form-in-None.form c.in_ok-form-in-None.behind.now c.forms.invariant c.in-None.ensures.exact c.in_ok-form-in-None.ensures.exact c.in_ok-form-in-None.ensures.shorter c.in_ok-push-in-None.ensures.ok
