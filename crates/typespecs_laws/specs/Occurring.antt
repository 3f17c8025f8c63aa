-- What occurs in a term with named types, at any depth and through names, and when a term has finitely many instances of names.
use Rattle.std.specs.Prelude.{◌≡◌, ℕ, List, slice_get, Some}
use Rattle.type_terms.specs.Parts.{IsPart}
use Rattle.type_terms.specs.Replacement.{replaced_by}
use Rattle.type_terms.specs.declared.term.Def.{Def}
use Rattle.type_terms.specs.declared.term.Term.{Term, Name}
use Rattle.erl_tree.specs.Lists.{Among}

-- what is met in a term t when its names are unfolded again and again: each part of it, and each part of what an instance of a name that occurs there stands for
pub data Occurs (defs : List Def) (t : Term) : Term → Type 0 where
  stands : (part : Term) → IsPart part t → Occurs defs t part
  in_body : (n : ℕ) (arguments : List Term) (def : Def) (part : Term) → Occurs defs t (Name n arguments) → slice_get defs n ≡ Some def → IsPart part (replaced_by arguments def.body) → Occurs defs t part

-- each instance of a name that occurs in the term is in one list, so that t, unfolded without end, is a regular tree
pub record HasFinitelyManyInstances (defs : List Def) (t : Term) : Type 0 where
  pub instances : List Term
  pub are_all : (n : ℕ) (arguments : List Term) → Occurs defs t (Name n arguments) → Among (Name n arguments) instances
