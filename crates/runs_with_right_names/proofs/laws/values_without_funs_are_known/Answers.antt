use Rattle.std.specs.Prelude.{slice_get}
use Rattle.erl_runs.specs.Running.{code_of}
use Rattle.runs_with_right_names.specs.KnownValues.{IsKnownCode, IsKnownFunction}
use Rattle.runs_with_right_names.proofs.Held.{value-weaker}
use Rattle.runs_with_right_names.proofs.laws.values_without_funs_are_known.Goals as goal

pub returns : goal.returns
returns c m outside v h =
    value-weaker (λ name arity. ⊥) (IsKnownFunction m) (λ number environment. ⊥) (λ number environment. IsKnownCode m environment (slice_get (code_of m outside).funs number)) (λ name arity e. absurd e) (λ number environment e. absurd e) v h
