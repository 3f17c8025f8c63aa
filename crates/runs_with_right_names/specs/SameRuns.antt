-- What a run that meets no unbound name is: it is the same, whatever an unbound name gives. Outside of guards that says that the run never comes to such a name, since nothing catches what goes wrong or is still going. In a guard it says that no such name decides it: one in a test can be masked by another test.
use Rattle.std.specs.Prelude.{◌≡◌, ℕ, List}
use Rattle.erl_tree.specs.declared.token.Node.{Node}
use Rattle.erl_tree.specs.declared.expr.ExprKind.{ExprKind}
use Rattle.erl_tree.specs.declared.form.Module.{Module}
use Rattle.erl_runs.specs.Value.{Value, Outcome, came, raised, wrong, going}
use Rattle.erl_runs.specs.Running.{apply, code_of, code_with}
use Rattle.runs_with_right_names.specs.KnownValues.{IsKnown}

-- applying a value meets no unbound name: no variable without a value and no function that is absent
abbrev pub MeetsNoUnboundName : Module → List (Node ExprKind) → Value → List Value → ℕ → Type 0
MeetsNoUnboundName m outside f args steps = (unbound : Outcome Value) → apply (code_with unbound m outside) f args steps ≡ apply (code_of m outside) f args steps

-- what a run ends with is known, where it ends with a value or an exception
abbrev pub IsKnownOutcome : Module → List (Node ExprKind) → Outcome Value → Type 0
IsKnownOutcome m outside (came v) = IsKnown m outside v
IsKnownOutcome m outside (raised class v) = IsKnown m outside v
IsKnownOutcome m outside wrong = Unit {0}
IsKnownOutcome m outside going = Unit {0}
