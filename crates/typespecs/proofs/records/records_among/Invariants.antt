use Rattle.std.proofs.Common.{◌≡◌, ◌+◌, length, take}
use Rattle.erl_runs.specs.Records.{records_in}
use Rattle.typespecs_rules.specs.SpecTerms.{records_from}
use Rattle.typespecs.proofs.records.records_among.Given as goal

abbrev pub invariant-loop-form : goal.invariant-loop-form
invariant-loop-form l = (l.records ≡ records_from l.first (records_in (take l.form-index l.forms))) × (l.number ≡ l.first + length (records_in (take l.form-index l.forms)))
