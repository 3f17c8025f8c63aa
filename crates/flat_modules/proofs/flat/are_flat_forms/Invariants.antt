use Rattle.std.proofs.Common.{◌≡◌, true, take}
use Rattle.std.specs.List.{list_all}
use Rattle.flat_modules.specs.Flat.{is_flat_form}
use Rattle.flat_modules.proofs.flat.are_flat_forms.Given as goal

abbrev pub invariant-loop-form : goal.invariant-loop-form
invariant-loop-form l = list_all is_flat_form (take l.form-index l.forms) ≡ true
