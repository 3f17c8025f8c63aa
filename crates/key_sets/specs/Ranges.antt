-- Ranges of integers, and which integers they have.
use Rattle.std.specs.Prelude.{ℕ, ℤ, pos, negsuc, ◌≡◌, ◌≤◌, ◌<◌, ◌-◌, ◌^◌, ◌≤ℤ◌, ◌<ℤ◌, List, Bool, true, ◌&&◌, length, slice_index_or}
use Rattle.std.specs.List.{list_any}
use Rattle.std.specs.Int.{int_max, int_min}
use Rattle.type_terms.specs.Keys.{less_int}
use Rattle.type_terms.specs.Reading.{le_int}
use Rattle.key_sets.specs.declared.range.Range.{Range}

-- the least and the greatest integer that a range tells from those beyond
abbrev pub first_integer : ℤ
first_integer = negsuc (2 ^ 127 - 2)

abbrev pub last_integer : ℤ
last_integer = pos (2 ^ 127 - 1)

-- an integer between those is itself, and one beyond is as the nearest of them
abbrev pub nearest : ℤ → ℤ
nearest n = int_max first_integer (int_min n last_integer)

-- whether an integer is above one end and at most at the other one
abbrev pub spans : Range → ℤ → Bool
spans r n = less_int r.after n && le_int n r.upto

-- whether some range does so
abbrev pub spanned : List Range → ℤ → Bool
spanned ranges n = list_any (λ r. spans r n) ranges

-- whether a range has an integer
abbrev pub range_has : Range → ℤ → Bool
range_has r n = spans r (nearest n)

-- the range at a place
abbrev pub range_at : List Range → ℕ → Range
range_at ranges k = slice_index_or ranges k (record { after = pos 0; upto = pos 0 })

-- the ranges ascend by their lower ends
abbrev pub IsAscending : List Range → Type 0
IsAscending ranges = (i j : ℕ) → i ≤ j → j < length ranges → le_int (range_at ranges i).after (range_at ranges j).after ≡ true

-- the ranges from one place up to another one end at an integer or before it
abbrev pub IsPassed : List Range → ℕ → ℕ → ℤ → Type 0
IsPassed ranges from to seen = (k : ℕ) → from ≤ k → k < to → (range_at ranges k).upto ≤ℤ seen

-- each integer above one and at most at another one is in a range
abbrev pub IsCovered : List Range → ℤ → ℤ → Type 0
IsCovered ranges after upto = (n : ℤ) → after <ℤ n → n ≤ℤ upto → spanned ranges n ≡ true

-- the range at a place, if there is one, begins behind the next integer
abbrev pub IsGap : List Range → ℕ → ℤ → Type 0
IsGap ranges at seen = at < length ranges → seen <ℤ (range_at ranges at).after
