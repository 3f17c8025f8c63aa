use Rattle.std.proofs.Common.{rules, sym}
use Rattle.std.specs.Prelude.{Some, None as Nothing}
use Rattle.type_terms.proofs.BareLaws.{open-is, open-none}
use Rattle.type_terms.proofs.openness.is_open.Goals as goal

pub returns-in-None-get : goal.returns-in-None-get
returns-in-None-get c = sym (open-is c.args.opens.now c.args.number c.args.parameter c.in-Some.parameters.now Nothing (search rules) (search rules))

pub returns-in-Some-get : goal.returns-in-Some-get
returns-in-Some-get c = sym (open-is c.args.opens.now c.args.number c.args.parameter c.in-Some.parameters.now (Some c.in-Some-get.answer.now) (search rules) (search rules))

pub returns-in-None : goal.returns-in-None
returns-in-None c = sym (open-none c.args.opens.now c.args.number c.args.parameter (search rules))
