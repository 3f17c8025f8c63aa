-- What a caller cites of parts and sets.
use Rattle.std.proofs.Common.{◌≡◌, ◌∙◌, refl, ap, List, [], ◌∷◌, ◌++◌, Bool, true, false, ◌||◌, ℤ, pos, negsuc, ◌≤ℤ◌, ◌^◌, ◌-◌, arith}
use Rattle.std.specs.Prelude.{Some}
use Rattle.std.proofs.lemmas.Int.{ints}
use Rattle.std.proofs.lemmas.List.Elements.{All-nil, All-push, All-append}
use Rattle.std.proofs.lemmas.List.Folds.{list_any-append}
use Rattle.type_terms.specs.declared.term.Key.{Key}
use Rattle.key_sets.specs.declared.part.Part.{Part}
use Rattle.key_sets.specs.declared.key_set.KeySet.{KeySet}
use Rattle.key_sets.specs.Parts.{part_has, parts_have, IsLimitedEnd, IsLimited, AreLimited}
use Rattle.key_sets.specs.KeySets.{has}

or-false : (b : Bool) → (b || false) ≡ b
or-false true = refl
or-false false = refl

pub parts_have-one : (part : Part) (key : Key) → parts_have (part ∷ []) key ≡ part_has part key
parts_have-one part key = or-false (part_has part key)

pub parts_have-append : (ps qs : List Part) (key : Key) → parts_have (ps ++ qs) key ≡ (parts_have ps key || parts_have qs key)
parts_have-append ps qs key = list_any-append (λ part. part_has part key) ps qs

pub parts_have-push : (ps : List Part) (part : Part) (key : Key) → parts_have (ps ++ part ∷ []) key ≡ (parts_have ps key || part_has part key)
parts_have-push ps part key = parts_have-append ps (part ∷ []) key ∙ ap (λ b. parts_have ps key || b) (parts_have-one part key)

-- a set of one part
pub has-one : (set : KeySet) (part : Part) → ((key : Key) → has set key ≡ parts_have (part ∷ []) key) → (key : Key) → has set key ≡ part_has part key
has-one set part h key = h key ∙ parts_have-one part key

-- what `from_parts` requires, for a list that grows
pub AreLimited-nil : AreLimited []
AreLimited-nil = All-nil IsLimited

pub AreLimited-push : (ps : List Part) (part : Part) → AreLimited ps → IsLimited part → AreLimited (ps ++ part ∷ [])
AreLimited-push ps part h here = All-push IsLimited ps part h here

pub AreLimited-append : (ps qs : List Part) → AreLimited ps → AreLimited qs → AreLimited (ps ++ qs)
AreLimited-append ps qs h g = All-append IsLimited ps qs h g

-- a closed end between the limits
pub IsLimitedEnd-between : (n : ℤ) → negsuc (2 ^ 127 - 3) ≤ℤ n → n ≤ℤ pos (2 ^ 127 - 2) → IsLimitedEnd (Some n)
IsLimitedEnd-between (pos n) low high = omega (arith, ints)
IsLimitedEnd-between (negsuc n) low high = omega (arith, ints)
