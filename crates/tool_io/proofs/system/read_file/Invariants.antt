use Rattle.std.proofs.Common.{length, ◌-◌}
use Rattle.tool_io.proofs.system.read_file.Given as goal

abbrev pub decreases-reading : goal.decreases-reading
decreases-reading l = l.wanted - length l.bytes
