use Rattle.etylizer_program.proofs.Verdicts.{reading_refused, long_refused, no_types_refused}
use Rattle.etylizer_program.proofs.check.read_flat.Goals as goal

pub returns-in-Err-clause-refused : goal.returns-in-Err-clause-refused
returns-in-Err-clause-refused c = reading_refused c.args.text.now c.in-Err.fault c.from.result c.from.ensures c.in-Err.ensures.refused
