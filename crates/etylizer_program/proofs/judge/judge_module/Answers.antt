use Rattle.std.proofs.Common.{rules}
use Rattle.etylizer_program.proofs.Verdicts.{function_counted}
use Rattle.etylizer_program.proofs.judge.judge_module.Goals as goal

pub failed_verdict-requires-clause-counted : goal.failed_verdict-requires-clause-counted
failed_verdict-requires-clause-counted c =
    function_counted c.args.tree.now c.in-Err-Failed.function c.in-Err-Failed.place c.in-Err-Failed.kind c.in-Err-Failed.shown (search rules)
