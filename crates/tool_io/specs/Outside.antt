-- What files and sinks are: what is held under each name, what was written, and how often they have failed.
use Rattle.std.specs.Prelude.{◌≡◌, ◌≢◌, ◌⊎◌, ◌<◌, ◌≤◌, ◌+◌, ◌^◌, ◌++◌, ℕ, List, take, Option, Some, IsSome}
use Rattle.std.specs.Option.{ForSome}

-- what is held under each name
abbrev pub Holdings : Type 0
Holdings = List ℕ → Option (List ℕ)

-- the files tell what they hold, and hold something under the name
abbrev pub IsHeld : Option Holdings → List ℕ → Type 0
IsHeld held name = (files : Holdings) × (held ≡ Some files) × IsSome (files name)

-- ---- counts of faults

-- a count rose in a call, or stands at its greatest value after it
abbrev pub Rose : (before after : ℕ) → Type 0
Rose before after = (before < after) ⊎ (after + 1 ≡ 2 ^ 64)

-- a count doesn't fall, and has a greatest value
abbrev pub KeepsCount : (before after : ℕ) → Type 0
KeepsCount before after = (before ≤ after) × (after < 2 ^ 64)

-- ---- files

-- the bytes are what is held under the name, or its first limit + 1 bytes where it is longer
pub record Loads (files : Holdings) (name : List ℕ) (limit : ℕ) (bytes : List ℕ) : Type 0 where
  pub content : List ℕ
  pub held : files name ≡ Some content
  pub beginning : bytes ≡ take (limit + 1) content

-- every other name has what it had, where that was told and is told
abbrev pub KeepsOthers : (before after : Option Holdings) → (name : List ℕ) → Type 0
KeepsOthers before after name = ForSome before (λ old. ForSome after (λ new. (other : List ℕ) → other ≢ name → new other ≡ old other))

-- ---- sinks

-- where it is told what was written, exactly these bytes came behind it
abbrev pub Puts : (before after : Option (List ℕ)) → (bytes : List ℕ) → Type 0
Puts before after bytes = ForSome before (λ old. after ≡ Some (old ++ bytes))

-- the bytes begin the text
abbrev pub Begins : (bytes text : List ℕ) → Type 0
Begins bytes text = (rest : List ℕ) × (text ≡ bytes ++ rest)

-- where it is told what was written, a beginning of the text came behind it
abbrev pub PutsBeginning : (before after : Option (List ℕ)) → (text : List ℕ) → Type 0
PutsBeginning before after text = (bytes : List ℕ) × Begins bytes text × Puts before after bytes
