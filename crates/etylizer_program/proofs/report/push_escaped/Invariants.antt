use Rattle.std.proofs.Common.{◌≡◌, ◌++◌, take, flat_map}
use Rattle.etylizer_program.specs.Report.{escaped}
use Rattle.etylizer_program.proofs.report.push_escaped.Given as goal

abbrev pub invariant-bytes : goal.invariant-bytes
invariant-bytes l = l.out.items ≡ l.initial.out.items ++ flat_map escaped (take l.byte-index l.name)
