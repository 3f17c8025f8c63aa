use Rattle.std.proofs.Common.{◌≡◌, ◌≤◌, length, take}
use Rattle.erl_tree.specs.Functions.{functions_in}
use Rattle.etylizer_program.proofs.count.function_at.Given as goal

abbrev pub invariant-forms : goal.invariant-forms
invariant-forms l = (l.before ≡ length (functions_in (take l.form-index l.forms))) × (l.before ≤ l.form-index) × (l.before ≤ l.number)
