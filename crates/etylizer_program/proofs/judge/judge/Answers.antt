use Rattle.etylizer_program.proofs.Verdicts.{right_verdict}
use Rattle.etylizer_program.proofs.judge.judge.Goals as goal

pub judge_module-requires-clause-flat : goal.judge_module-requires-clause-flat
judge_module-requires-clause-flat c = c.in-Ok.ensures.read.read.flat

pub judge_module-requires-clause-specs : goal.judge_module-requires-clause-specs
judge_module-requires-clause-specs c = c.in-Ok.ensures.read.specs

pub returns-in-Ok : goal.returns-in-Ok
returns-in-Ok c =
    right_verdict c.args.text.now c.in-Ok.read.tree c.judge_module.result c.in-Ok.ensures.read.read (λ long. let e = c.in-Ok.ensures.too_long.1 long in cc) c.judge_module.ensures
