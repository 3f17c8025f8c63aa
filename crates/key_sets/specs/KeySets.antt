-- Which keys are in a set.
use Rattle.std.specs.Prelude.{◌≡◌, Bool, true, false}
use Rattle.type_terms.specs.declared.term.Key.{Key}
use Rattle.key_sets.specs.declared.key_set.KeySet.{KeySet}
use Rattle.key_sets.specs.Contents.{contents_have}

-- whether a key is in a set
unfoldable pub has : KeySet → Key → Bool
has set key = contents_have set.contents key

-- each key of one set is in the other one
abbrev pub IsSubset : KeySet → KeySet → Type 0
IsSubset left right = (key : Key) → has left key ≡ true → has right key ≡ true

-- a key is in one set and not in the other one
abbrev pub IsOutside : KeySet → KeySet → Key → Type 0
IsOutside left right key = (has left key ≡ true) × (has right key ≡ false)
