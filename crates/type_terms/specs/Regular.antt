-- When definitions are regular: a name has finitely many instances (Frisch, Castagna, Benzaken 2008 ask for regular trees).
use Rattle.std.specs.Prelude.{◌≡◌, ℕ, List, length, slice_get, Some}
use Rattle.type_terms.specs.Parts.{IsPart}
use Rattle.type_terms.specs.declared.term.Def.{Def}
use Rattle.type_terms.specs.declared.term.Term.{Term, Var, Name}

-- definition n leads to m: a name m stands in its body, at any depth, or in a body to which it leads
pub data LeadsTo (defs : List Def) : ℕ → ℕ → Type 0 where
  mentions : (n m : ℕ) (def : Def) (arguments : List Term) → slice_get defs n ≡ Some def → IsPart (Name m arguments) def.body → LeadsTo defs n m
  onward : (n between m : ℕ) → LeadsTo defs n between → LeadsTo defs between m → LeadsTo defs n m

-- the parameters of a definition as terms
abbrev pub AreParameters : ℕ → List Term → Type 0
AreParameters count arguments = (length arguments ≡ count) × ((i : ℕ) (t : Term) → slice_get arguments i ≡ Some t → t ≡ Var i)

-- each name in a body that leads back to the body's own definition has that one's parameters as its arguments
abbrev pub AreRegular : List Def → Type 0
AreRegular defs = (n m : ℕ) (def : Def) (arguments : List Term) → slice_get defs n ≡ Some def → IsPart (Name m arguments) def.body → LeadsTo defs m n → AreParameters def.params arguments
