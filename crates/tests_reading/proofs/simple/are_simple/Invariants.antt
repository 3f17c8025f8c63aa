use Rattle.std.proofs.Common.{◌≡◌, ℕ, ◌<◌, get_or}
use Rattle.type_terms.specs.declared.term.Def.{Def}
use Rattle.type_terms.specs.Definitions.{FieldsAscend, VariablesBelow}
use Rattle.tests_reading.proofs.simple.are_simple.Given as goal

abbrev pub invariant-bodies : goal.invariant-bodies
invariant-bodies l = (k : ℕ) → k < l.def-index → (def : Def) → def ≡ get_or l.defs k def → VariablesBelow def.params def.body × FieldsAscend def.body
