-- When a type term is well signed: each name in it is defined, and no `Fun` and no variable stands under an odd number of negations, at any depth and through names.
use Rattle.std.specs.Prelude.{◌≡◌, ℕ, List, slice_get, Some, Bool, true, false, not}
use Rattle.std.specs.List.{Contains}
use Rattle.type_terms.specs.declared.term.Def.{Def}
use Rattle.type_terms.specs.declared.term.Term.{Term, Fun, Not, Var, Name}
use Rattle.type_terms.specs.Parts.{positive_children}
use Rattle.type_terms.specs.Replacement.{replaced_by}
use Rattle.type_terms.specs.Definitions.{NamesAreDefined}

-- the first term stands in the second, at any depth and through names, under an odd (`true`) or even number of `Not`
pub data StandsUnder (defs : List Def) : Bool → Term → Term → Type 0 where
  itself : (t : Term) → StandsUnder defs false t t
  in_child : (odd : Bool) (part child whole : Term) → Contains (positive_children whole) child → StandsUnder defs odd part child → StandsUnder defs odd part whole
  in_not : (odd : Bool) (part negated whole : Term) → whole ≡ Not negated → StandsUnder defs odd part negated → StandsUnder defs (not odd) part whole
  in_body : (odd : Bool) (part whole : Term) (n : ℕ) (arguments : List Term) (def : Def) → whole ≡ Name n arguments → slice_get defs n ≡ Some def → StandsUnder defs odd part (replaced_by arguments def.body) → StandsUnder defs odd part whole

-- each name in the term is defined, and what stands under an odd number of `Not` is neither a `Fun` nor a `Var`
pub record IsWellSigned (defs : List Def) (t : Term) : Type 0 where
  pub names_defined : NamesAreDefined defs t
  pub no_odd_fun : (parameters : List Term) (result : Term) → StandsUnder defs true (Fun parameters result) t → ⊥
  pub no_odd_variable : (a : ℕ) → StandsUnder defs true (Var a) t → ⊥
