use Rattle.std.proofs.Common.{arith}
use Rattle.etylizer_program.proofs.FunctionAt.{function_found, none_found}
use Rattle.etylizer_program.proofs.count.function_at.Goals as goal

pub returns-then-before-number : goal.returns-then-before-number
returns-then-before-number c =
    function_found c.args.forms.now c.forms.form-index c.forms.before c.args.number c.form-item.result c.in-Function.function (omega arith) c.form-item.is c.in-Function.is c.forms.invariant.0 c.if-before-number.true

pub returns : goal.returns
returns c = none_found c.args.forms.now c.forms.form-index c.forms.before c.args.number (omega arith) c.forms.invariant.0 c.forms.invariant.2
