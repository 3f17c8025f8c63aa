use Rattle.std.proofs.Common.{◌≡◌, take}
use Rattle.std.specs.Option.{option_copied}
use Rattle.tool_io.specs.Memory.{held_in}
use Rattle.tool_io.proofs.held.Held.bytes_of.Given as goal

abbrev pub invariant-loop-held_name : goal.invariant-loop-held_name
invariant-loop-held_name l = option_copied l.found ≡ held_in (take l.held_name-index l.pairs) l.name
