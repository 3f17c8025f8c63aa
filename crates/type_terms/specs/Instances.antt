-- Instances: the types that stand for type variables.
use Rattle.std.specs.Prelude.{ℕ, List}
use Rattle.type_terms.specs.declared.term.Def.{Def}
use Rattle.type_terms.specs.declared.term.Term.{Term}
use Rattle.type_terms.specs.Definitions.{AreDefinitions, FieldsAscend}
use Rattle.type_terms.specs.Signs.{IsWellSigned}

-- a variable's term, the definitions by which its names are read, the instance of its own variables, and the further variables
pub data Instance : Type 0 where
  no_variables : Instance
  variable_and : ℕ → Term → List Def → Instance → Instance → Instance

-- each term is well signed by the definitions of its own entry, and the instance inside is one too
abbrev pub IsInstance : Instance → Type 0
IsInstance no_variables = Unit {0}
IsInstance (variable_and a t defs inner rest) = AreDefinitions defs × IsWellSigned defs t × FieldsAscend t × IsInstance inner × IsInstance rest
