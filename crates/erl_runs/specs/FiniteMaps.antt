-- Looking up in a finite map, and putting an entry in.
use Rattle.std.specs.Prelude.{◌≡◌, refl, Bool, true, false, Option, Some, None}
use Rattle.type_terms.specs.declared.term.Key.{Key}
use Rattle.type_terms.specs.Keys.{Bound, after, above, key_lt}
use Rattle.erl_runs.specs.Value.{Value, Row, no_entries, entry_and}

-- the first entry's value, or what the rest has, or nothing, as the key is the entry's, greater or less
abbrev pub pick : Bool → Bool → Value → Option Value → Option Value
pick true greater v o = None
pick false true v o = o
pick false false v o = Some v

-- the value of a key
abbrev pub get : {b : Bound} → Row b → Key → Option Value
get no_entries k = None
get (entry_and j e v r) k = pick (key_lt k j) (key_lt j k) v (get r k)

-- an entry (k, v) put before the entry (j, w), after it, or in its place
abbrev pub place : {b : Bound} (k j : Key) → above b k ≡ true → above b j ≡ true → Value → Value → Row (after j) → (key_lt j k ≡ true → Row (after j)) → (less greater : Bool) → key_lt k j ≡ less → key_lt j k ≡ greater → Row b
place k j e f v w r go true greater p q = entry_and k e v (entry_and j p w r)
place k j e f v w r go false true p q = entry_and j f w (go q)
place k j e f v w r go false false p q = entry_and j f v r

-- the map with the value v at the key k, and the others as they were
abbrev pub insert : {b : Bound} (k : Key) → above b k ≡ true → Value → Row b → Row b
insert k e v no_entries = entry_and k e v no_entries
insert k e v (entry_and j f w r) = place k j e f v w r (λ q. insert k q v r) (key_lt k j) (key_lt j k) refl refl
