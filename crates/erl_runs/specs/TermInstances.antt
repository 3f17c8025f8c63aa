-- The instance that terms make: `Var(0)`, `Var(1)`, .. stand for the terms of a list.
use Rattle.std.specs.Prelude.{ℕ, suc, List, [], ◌∷◌}
use Rattle.type_terms.specs.declared.term.Def.{Def}
use Rattle.type_terms.specs.declared.term.Term.{Term}
use Rattle.type_terms.specs.Instances.{Instance, no_variables, variable_and}

-- an entry for each term, from the variable with this number on. In the terms, names are read by the definitions and variables by the instance
abbrev pub entries_from : ℕ → List Term → List Def → Instance → Instance
entries_from a [] defs i = no_variables
entries_from a (t ∷ ts) defs i = variable_and a t defs i (entries_from (suc a) ts defs i)

-- the instance with an entry for each term of the list, by its place
abbrev pub instance_of : List Term → List Def → Instance → Instance
instance_of terms defs i = entries_from 0 terms defs i
