-- Terms that are well made over a module's definitions, as the bodies of these are.
use Rattle.std.specs.Prelude.{◌≡◌, ◌⊎◌, ℕ, List}
use Rattle.std.specs.List.{Contains}
use Rattle.type_terms.specs.Definitions.{NamesAreDefined, VariablesBelow, FieldsAscend}
use Rattle.type_terms.specs.declared.spec.Arrow.{Arrow}
use Rattle.type_terms.specs.declared.term.Def.{Def}
use Rattle.type_terms.specs.declared.term.Term.{Term}

-- a term of an arrow: one of its parameters, or its result
abbrev pub IsTermOf : Arrow → Term → Type 0
IsTermOf a t = Contains a.params t ⊎ (t ≡ a.result)

-- a term over so many variables: it has no others, the keys of each map term in it ascend, and each name in it has a definition with as many parameters as the name has arguments
pub record IsWellMadeTerm (defs : List Def) (variables : ℕ) (t : Term) : Type 0 where
  pub own_variables : VariablesBelow variables t
  pub fields_ascend : FieldsAscend t
  pub names_defined : NamesAreDefined defs t
