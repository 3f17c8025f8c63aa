-- When a list of definitions is refused, and as what.
use Rattle.std.specs.Prelude.{◌≡◌, ℕ, ◌<◌, List, Some, None as Nothing}
use Rattle.std.specs.List.{Contains}
use Rattle.type_terms.specs.declared.term.Def.{Def}
use Rattle.type_terms.specs.declared.defs.DefFault.{DefFault}
use Rattle.type_terms.specs.declared.defs.DefFault.TheVariants.{NoMemory, NoName, NotContractive}
use Rattle.type_terms.specs.Definitions.{FieldsAscend, Reaches, VariablesBelow}
use Rattle.type_terms.specs.Undefined.{undefined_among}

-- what holds of every definition and every map term: each body is over its own parameters, and the keys of fields ascend
abbrev pub AreWellMade : List Def → Type 0
AreWellMade defs = (def : Def) → Contains defs def → VariablesBelow def.params def.body × FieldsAscend def.body

-- n is the first name without a definition of its number of arguments; or each name is defined, and n is the least definition that reaches itself. Want of memory has no cause here
abbrev pub IsRefusedAs : List Def → DefFault → Type 0
IsRefusedAs defs NoMemory = Unit {0}
IsRefusedAs defs (NoName n) = undefined_among defs ≡ Some n
IsRefusedAs defs (NotContractive n) = (undefined_among defs ≡ Nothing) × Reaches defs n n × ((m : ℕ) → m < n → Reaches defs m m → ⊥)
