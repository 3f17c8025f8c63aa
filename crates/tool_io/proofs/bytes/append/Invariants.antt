use Rattle.std.proofs.Common.{◌≡◌, ◌++◌, take}
use Rattle.tool_io.proofs.bytes.append.Given as goal

abbrev pub invariant-loop-byte : goal.invariant-loop-byte
invariant-loop-byte l = l.written ≡ l.initial.written ++ take l.byte-index l.bytes
