use Rattle.flat_tests.specs.Names.{IsRightForm}
use Rattle.flat_tests.proofs.ForEach.{IsLeft}
use Rattle.flat_tests.proofs.forms.are_right_forms.Given as goal

abbrev pub invariant-loop-form : goal.invariant-loop-form
invariant-loop-form l = IsLeft (IsRightForm) l.forms l.form-index
