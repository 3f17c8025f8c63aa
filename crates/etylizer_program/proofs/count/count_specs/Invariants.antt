use Rattle.std.proofs.Common.{◌≡◌, ◌≤◌, length, take}
use Rattle.erl_runs.specs.Specs.{specs_in}
use Rattle.etylizer_program.proofs.count.count_specs.Given as goal

abbrev pub invariant-forms : goal.invariant-forms
invariant-forms l = (l.count ≡ length (specs_in (take l.form-index l.forms))) × (l.count ≤ l.form-index)
