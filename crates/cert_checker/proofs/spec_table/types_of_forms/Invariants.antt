use Rattle.cert_checker.specs.SpecTables.{HaveTypes}
use Rattle.cert_checker.proofs.spec_table.types_of_forms.Given as goal

abbrev pub invariant-loop-form : goal.invariant-loop-form
invariant-loop-form l = HaveTypes l.forms l.form-index l.types
