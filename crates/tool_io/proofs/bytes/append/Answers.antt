use Rattle.std.proofs.Common.{arith}
use Rattle.std.proofs.lemmas.Grind.{common_steps}
use Rattle.tool_io.proofs.Written.{puts_taken}
use Rattle.tool_io.proofs.bytes.append.Goals as goal

pub returns-then-is_err-clause-err : goal.returns-then-is_err-clause-err
returns-then-is_err-clause-err c = puts_taken _ _ _ c.loop-byte.byte-index (grind (arith, common_steps))
