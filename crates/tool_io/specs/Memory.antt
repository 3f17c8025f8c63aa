-- Files in memory: pairs of a name and what is held under it. Files and sinks in memory whose listed calls fail.
use Rattle.std.specs.Prelude.{◌≢◌, ℕ, ◌+◌, ◌-◌, ◌^◌, ◌==◌, min, List, [], ◌∷◌, AllPairs, Bool, Option, Some, None, bytes_eq, if◌then◌else◌, find}
use Rattle.std.specs.List.{list_any}
use Rattle.std.specs.Option.{option_map}

-- ---- what is held

-- these bytes, if so
abbrev pub when : Bool → List ℕ → Option (List ℕ)
when holds bytes = if holds then Some bytes else None

-- the first of two that is there
abbrev pub either : Option (List ℕ) → Option (List ℕ) → Option (List ℕ)
either (Some bytes) other = Some bytes
either None other = other

-- what is held under the name: of two pairs with one name the later one counts
abbrev pub held_in : List (List ℕ × List ℕ) → List ℕ → Option (List ℕ)
held_in [] name = None
held_in (pair ∷ pairs) name = either (held_in pairs name) (when (bytes_eq pair.0 name) pair.1)

-- ---- calls that fail

-- no two are the same
abbrev pub AreDistinct : {X : Type 0} → List X → Type 0
AreDistinct xs = AllPairs (λ one other. one ≢ other) xs

-- one more, or the greatest 64-bit number where that is reached
abbrev pub one_more : ℕ → ℕ
one_more number = min (number + 1) (2 ^ 64 - 1)

-- the number is a listed one
abbrev pub is_listed : List ℕ → ℕ → Bool
is_listed failing number = list_any (λ listed. listed == number) failing

-- how many bytes the put with this number takes before it fails, where it is listed
abbrev pub taken_by : List (ℕ × ℕ) → ℕ → Option ℕ
taken_by failing number = option_map (λ put. put.1) (find (λ put. put.0 == number) failing)
