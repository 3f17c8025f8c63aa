-- What a set's parts say of the whole.
use Rattle.std.proofs.Common.{◌≡◌, sym, refl, subst, ℤ, ◌≤ℤ◌, List, Bool, true, arith}
use Rattle.std.specs.List.Sorted.{IsPermutation}
use Rattle.std.proofs.lemmas.Int.{ints, clamps}
use Rattle.std.proofs.lemmas.List.Sorted.{list_any-IsPermutation}
use Rattle.type_terms.specs.declared.term.Key.{Key}
use Rattle.type_terms.specs.declared.term.Key.TheVariants.{Int as IntKey, Atom as AtomKey}
use Rattle.type_terms.specs.Keys.{Name}
use Rattle.key_sets.specs.declared.range.Range.{Range}
use Rattle.key_sets.specs.declared.contents.Contents.{Contents}
use Rattle.key_sets.specs.Ranges.{spanned, nearest, first_integer, range_has}
use Rattle.key_sets.specs.Contents.{contents_have, is_among, has_atom}
use Rattle.key_sets.proofs.Listed.{Names}

-- another order of the ranges has the same keys
pub is_among-reordered : (rs us : List Range) (all : Bool) (names : Names) → IsPermutation rs us → (key : Key) → is_among us all names key ≡ is_among rs all names key
is_among-reordered rs us all names p (IntKey n) = sym (list_any-IsPermutation (λ r. range_has r n) rs us p)
is_among-reordered rs us all names p (AtomKey a) = refl

nearest-first : (n : ℤ) → first_integer ≤ℤ nearest n
nearest-first n = omega (arith, ints, clamps)

-- nothing is outside where no integer and no atom is
pub within-both : (left right : Contents) (ls rs : List Range) → ls ≡ left.ranges.items → rs ≡ right.ranges.items → ((n : ℤ) → first_integer ≤ℤ n → spanned ls n ≡ true → spanned rs n ≡ true) → ((a : Name) → has_atom left a ≡ true → has_atom right a ≡ true) → (key : Key) → contents_have left key ≡ true → contents_have right key ≡ true
within-both left right ls rs l r integers atoms (IntKey n) h =
    subst (λ (us : List Range). spanned us (nearest n) ≡ true) r
    (integers (nearest n) (nearest-first n) (subst (λ (us : List Range). spanned us (nearest n) ≡ true) (sym l) h))
within-both left right ls rs l r integers atoms (AtomKey a) h = atoms a h

-- an integer that is its own nearest one is in the contents where a range spans it
pub integer-has : (c : Contents) (rs : List Range) (n m : ℤ) (b : Bool) → rs ≡ c.ranges.items → m ≡ n → nearest n ≡ n → spanned rs n ≡ b → contents_have c (IntKey m) ≡ b
integer-has c rs n m b r e s h = subst (λ (z : ℤ). spanned c.ranges.items (nearest z) ≡ b) (sym e) (subst (λ (z : ℤ). spanned c.ranges.items z ≡ b) (sym s) (subst (λ (us : List Range). spanned us n ≡ b) r h))
