use Rattle.std.proofs.Common.{◌≡◌, take}
use Rattle.erl_runs.specs.Records.{records_in}
use Rattle.typespecs_records.specs.Records.{records_seen}
use Rattle.typespecs_records.proofs.records.records_among.Given as goal

abbrev pub invariant-forms : goal.invariant-forms
invariant-forms l = records_seen l.records.items ≡ records_in (take l.form-index l.forms)
