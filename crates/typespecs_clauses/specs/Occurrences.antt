-- The names of a list, each once, and how often each stands there.
use Rattle.std.specs.Prelude.{◌≡◌, ℕ, zero, suc, List, [], ◌∷◌, Option, Some, None}
use Rattle.type_terms.specs.Keys.{Name}
use Rattle.typespecs_rules.specs.TypeVariables.{first_occurrences, occurrences, place_among}
use Rattle.typespecs_clauses.specs.declared.variables.Occurrences.{Occurrences}
use Rattle.typespecs_clauses.specs.Names.{Entry, number_of, texts}

-- how often, where it isn't never
abbrev pub times : ℕ → Option ℕ
times zero = None
times (suc n) = Some (suc n)

-- these are the names of a list
pub record AreOccurrences (o : Occurrences) (names : List Name) : Type 0 where
  pub counts : (x : Name) → number_of o.counts x ≡ times (occurrences x names)
  pub firsts : texts o.firsts.items ≡ first_occurrences names

-- one or none
abbrev pub as_list : {A : Type 0} → Option A → List A
as_list None = []
as_list (Some x) = x ∷ []

-- a table gives the places of the names of a list
abbrev pub ArePlaces : List Entry → List Name → Type 0
ArePlaces places names = (x : Name) → number_of places x ≡ place_among names x
