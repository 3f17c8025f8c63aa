use Rattle.std.proofs.Common.{arith, sym, ◌∙◌}
use Rattle.std.proofs.lemmas.Grind.{common_steps}
use Rattle.tool_io.proofs.Written.{puts_taken, puts_first, on_err}
use Rattle.tool_io.proofs.failing.MemorySinkSink.put.Goals as goal

pub returns-then-is_err-clause-beginning : goal.returns-then-is_err-clause-beginning
returns-then-is_err-clause-beginning c =
    puts_first c.args.self.now.written c.begin.new.self.written c.append-2.new.written c.first.result.now c.as_slice-2.result.now c.args.bytes.now c.in-Some.taken
    c.begin.ensures.written c.first.ensures c.as_slice-2.ensures (on_err _ c.append-2.result (sym c.is_err.ensures.value ∙ c.if-is_err.true) c.append-2.ensures.err)

pub returns-clause-beginning : goal.returns-clause-beginning
returns-clause-beginning c = puts_taken _ _ _ c.in-Some.taken (grind (arith, common_steps))
