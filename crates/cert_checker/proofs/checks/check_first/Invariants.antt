use Rattle.std.proofs.Common.{◌≡◌, length, take}
use Rattle.erl_tree.specs.Lists.{Every}
use Rattle.erl_tree.specs.Functions.{functions_in}
use Rattle.flat_modules.specs.FlatSpecs.{specs_of}
use Rattle.cert_checker.specs.Constraints.{Test, FindsFits, Holds, owed_by_functions}
use Rattle.cert_checker.proofs.checks.check_first.Given as goal

abbrev pub invariant-loop-form : goal.invariant-loop-form
invariant-loop-form l = record {
  holds : (fits : Test) → FindsFits fits → Every Holds (owed_by_functions fits 0 (functions_in (take l.form-index l.module.forms)) (specs_of l.module));
  count : l.number ≡ length (functions_in (take l.form-index l.module.forms));
}
