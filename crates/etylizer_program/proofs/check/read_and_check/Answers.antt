use Rattle.std.proofs.lemmas.Result.{err_from_is_err_and}
use Rattle.etylizer_program.proofs.Verdicts.{text_accepted, text_refused}
use Rattle.etylizer_program.proofs.check.read_and_check.Goals as goal

pub check_module-requires-clause-flat : goal.check_module-requires-clause-flat
check_module-requires-clause-flat c = c.in_ok-read.ensures.read.read.flat

pub check_module-requires-clause-specs : goal.check_module-requires-clause-specs
check_module-requires-clause-specs c = c.in_ok-read.ensures.read.specs

pub returns-in_err-check_module-clause-refused : goal.returns-in_err-check_module-clause-refused
returns-in_err-check_module-clause-refused c =
    let p = err_from_is_err_and c.from_residual-in_err-check_module.result c.from_residual-in_err-check_module.ensures.1 in
    rw (p.1) (text_refused c.args.text.now c.in_ok-read.read.tree c.in_err-check_module.field-0.0 p.0 p.2 c.in_ok-read.ensures.read.read c.in_err-check_module.ensures.refused)

pub returns-clause-safe : goal.returns-clause-safe
returns-clause-safe c = text_accepted c.args.text.now c.in_ok-read.read.tree c.in_ok-check_module.field-0.name c.in_ok-check_module.field-0.functions c.in_ok-check_module.field-0.clauses c.in_ok-read.ensures.read.read c.in_ok-check_module.ensures.accepted
