use Rattle.std.proofs.Common.{◌≡◌, ℕ, ◌<◌, get_or}
use Rattle.type_terms.specs.declared.term.Term.{Term}
use Rattle.type_terms.specs.Definitions.{FieldsAscend, VariablesBelow}
use Rattle.tests_reading.proofs.simple.+simple.Given as goal

abbrev pub invariant-are_all_simple-loop-term : goal.invariant-are_all_simple-loop-term
invariant-are_all_simple-loop-term l = (k : ℕ) → k < l.term-index → (t : Term) → t ≡ get_or l.terms k t → VariablesBelow l.count t × FieldsAscend t
