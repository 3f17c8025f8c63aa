-- The first fault of a text: its kind and its place.
use Rattle.std.specs.Prelude.{ℕ, List}
use Rattle.erl_tree.specs.declared.token.Place.{Place}
use Rattle.erl_tree.specs.Profile.{IsOutsideAt, IsWideAt, IsBadEscapeAt, IsBadTokenAt}

-- a kind of fault: a form outside of the profile, by its name; an integer above the limit; a backslash that heads no escape; characters that begin no token
pub data FaultKind : Type 0 where
  outside : (form : List ℕ) → FaultKind
  wide : FaultKind
  escape : FaultKind
  no_token : FaultKind

-- the text, behind tokens that are right, has a fault of this kind at the place
abbrev pub IsFaultAt : (text : List ℕ) → Place → FaultKind → Type 0
IsFaultAt text place (outside form) = IsOutsideAt text place form
IsFaultAt text place wide = IsWideAt text place
IsFaultAt text place escape = IsBadEscapeAt text place
IsFaultAt text place no_token = IsBadTokenAt text place
