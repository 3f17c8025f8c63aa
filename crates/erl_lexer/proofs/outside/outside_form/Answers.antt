use Rattle.erl_lexer.proofs.Forms.{form_at}
use Rattle.erl_lexer.proofs.outside.outside_form.Goals as goal

pub returns-in-Some : goal.returns-in-Some
returns-in-Some c = rw (form_at c.args.text.now c.in-Some.c c.in-Some.field-0-1.now c.in-Some.ensures.value) c.form_of.ensures
