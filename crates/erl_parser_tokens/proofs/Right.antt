-- What is said of a reader. Right: what it answers is a part that is well formed, takes exactly its tokens, and has the height that was counted. Again: a part that is well formed is read again, or is nested too deep, and then the place of a node that is too deep is answered.
use Rattle.std.specs.Prelude.{◌≡◌, ◌⊎◌, ℕ, List, [], ◌++◌, ◌≤◌, ◌<◌, Ok, Err}
use Rattle.erl_tree.specs.Lists.{Among}
use Rattle.erl_tree.specs.declared.token.Place.{Place}
use Rattle.erl_tree.specs.declared.token.Placed.{Placed}
use Rattle.erl_grammar.specs.Nesting.{Deep}
use Rattle.erl_parser_tokens.specs.declared.fault.ParseFault.{ParseFault}
use Rattle.erl_parser_tokens.specs.declared.fault.ParseFault.TheVariants as faults
use Rattle.erl_parser_tokens.specs.declared.height.Height.{Height}
use Rattle.erl_parser_tokens.specs.declared.height.Measured.{Measured}
use Rattle.erl_parser_tokens.specs.Heights.{measured}
use Rattle.erl_parser_tokens.specs.Tokens.{Answer}
use Rattle.erl_parser_tokens.specs.Outside.{HasOutside}

-- the height is that of parts whose nodes that are nested too deep are these
pub record Measures (deep : Deep) (h : Height) : Type 0 where
  pub shallow : (levels : ℕ) → h.depth ≤ levels → deep levels ≡ []
  pub reached : (levels : ℕ) → levels < h.depth → Among h.deepest (deep levels)

-- a part was read, with at most so many levels
pub record Read {A : Type 0} (Is : A → Type 0) (tokens : A → List Placed) (deep : A → Deep) (levels : ℕ) (ts : List Placed) (x : Measured A) (rest : List Placed) : Type 0 where
  pub formed : Is x.tree
  pub takes : ts ≡ tokens x.tree ++ rest
  pub measures : Measures (deep x.tree) x.height
  pub within : x.height.depth ≤ levels

-- a form outside of the profile is answered only where it stands
abbrev pub IsFaultRight : List Placed → ParseFault → Type 0
IsFaultRight ts (faults.OutOfProfile p form) = HasOutside ts p form
IsFaultRight ts _ = Unit {0}

-- what is answered is right
abbrev pub IsRight : {A : Type 0} (Is : A → Type 0) (tokens : A → List Placed) (deep : A → Deep) → ℕ → List Placed → Answer (Measured A × List Placed) → Type 0
IsRight Is tokens deep levels ts (Ok (x, rest)) = Read Is tokens deep levels ts x rest
IsRight Is tokens deep levels ts (Err f) = IsFaultRight ts f

-- the part is what was read, or a node of it is nested too deep
abbrev pub IsAgain : {A : Type 0} (deep : A → Deep) → ℕ → A → List Placed → Answer (Measured A × List Placed) → Type 0
IsAgain deep levels x rest answer = ((h : Height) × (answer ≡ Ok (measured x h, rest))) ⊎ ((p : Place) × Among p (deep x levels) × (answer ≡ Err (faults.TooDeep p)))
