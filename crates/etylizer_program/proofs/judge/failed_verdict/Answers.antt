use Rattle.std.proofs.Common.{rules, refl}
use Rattle.etylizer_program.proofs.judge.failed_verdict.Goals as goal

pub returns : goal.returns
returns c = record { number = c.args.number; failed = c.requires.shown; named = search rules; in_function = search rules; first_clause = refl }
