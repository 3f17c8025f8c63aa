-- The order of faults is a weak order: irreflexive, and what isn't earlier than something that isn't earlier than a third isn't earlier than that.
use Rattle.std.proofs.Common.{◌≡◌, ℕ, Bool, true, false, not, ◌&&◌, ◌||◌, nat_lt, nat_eq, arith}
use Rattle.std.proofs.lemmas.Bool.Decides.{nat_tests}
use Rattle.typespecs_rules.specs.declared.fault.PlacedFault.{PlacedFault}
use Rattle.typespecs_rules.specs.TypeFaults.{is_earlier, rank}

-- by numbers: the first where they differ decides
abbrev less : (a b c a' b' c' : ℕ) → Bool
less a b c a' b' c' = (nat_lt a a' || (nat_eq a a' && nat_lt b b')) || (not (nat_lt a' a || (nat_eq a' a && nat_lt b' b)) && nat_lt c c')

less-itself : (a b c : ℕ) → less a b c a b c ≡ false
less-itself a b c = grind (arith, nat_tests)

less-asym : (a b c a' b' c' : ℕ) → less a b c a' b' c' ≡ true → less a' b' c' a b c ≡ false
less-asym a b c a' b' c' h = grind (arith, nat_tests)

less-trans : (a b c a' b' c' a'' b'' c'' : ℕ) → less a b c a' b' c' ≡ false → less a' b' c' a'' b'' c'' ≡ false → less a b c a'' b'' c'' ≡ false
less-trans a b c a' b' c' a'' b'' c'' h g = grind (arith, nat_tests)

pub not-itself : (f : PlacedFault) → is_earlier f f ≡ false
not-itself f = less-itself f.place.line f.place.column (rank f.fault)

pub not-back : (f g : PlacedFault) → is_earlier f g ≡ true → is_earlier g f ≡ false
not-back f g h = less-asym f.place.line f.place.column (rank f.fault) g.place.line g.place.column (rank g.fault) h

pub not-onward : (f g h : PlacedFault) → is_earlier f g ≡ false → is_earlier g h ≡ false → is_earlier f h ≡ false
not-onward f g h p q = less-trans f.place.line f.place.column (rank f.fault) g.place.line g.place.column (rank g.fault) h.place.line h.place.column (rank h.fault) p q
