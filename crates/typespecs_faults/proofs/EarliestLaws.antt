-- The first of some faults: in two steps, and that it is one of them and none is earlier.
use Rattle.std.proofs.Common.{◌≡◌, refl, subst, ℕ, List, [], ◌∷◌, ◌++◌, Bool, true, false, not, ◌&&◌, ◌||◌, cond, nat_eq, nat_lt, Option, Some, None, inl, inr, ◌⊎◌, arith}
use Rattle.std.proofs.lemmas.Bool.Decides.{nat_tests}
use Rattle.erl_tree.specs.Lists.{Every, Among}
use Rattle.typespecs_rules.specs.declared.fault.PlacedFault.{PlacedFault}
use Rattle.typespecs_rules.specs.TypeFaults.{rank, is_earlier}
use Rattle.typespecs_rules.specs.Earliest.{earlier, earliest}

-- ---- the order, on the lines, the columns and the ranks

abbrev first_of_three : (l c r m d s : ℕ) → Bool
first_of_three l c r m d s = (nat_lt l m || (nat_eq l m && nat_lt c d)) || (not (nat_lt m l || (nat_eq m l && nat_lt d c)) && nat_lt r s)

irreflexive : (l c r : ℕ) → first_of_three l c r l c r ≡ false
irreflexive l c r = grind (arith, nat_tests)

asymmetric : (l c r m d s : ℕ) → first_of_three l c r m d s ≡ true → first_of_three m d s l c r ≡ false
asymmetric l c r m d s h = grind (arith, nat_tests)

between : (l c r m d s n e t : ℕ) → first_of_three l c r m d s ≡ false → first_of_three m d s n e t ≡ false → first_of_three l c r n e t ≡ false
between l c r m d s n e t h k = grind (arith, nat_tests)

not_itself : (f : PlacedFault) → is_earlier f f ≡ false
not_itself f = irreflexive f.place.line f.place.column (rank f.fault)

not_back : (f g : PlacedFault) → is_earlier f g ≡ true → is_earlier g f ≡ false
not_back f g = asymmetric f.place.line f.place.column (rank f.fault) g.place.line g.place.column (rank g.fault)

not_through : (f g h : PlacedFault) → is_earlier f g ≡ false → is_earlier g h ≡ false → is_earlier f h ≡ false
not_through f g h = between f.place.line f.place.column (rank f.fault) g.place.line g.place.column (rank g.fault) h.place.line h.place.column (rank h.fault)

-- ---- the first

pub earliest-append : (first : Option PlacedFault) (fs gs : List PlacedFault) → earliest first (fs ++ gs) ≡ earliest (earliest first fs) gs
earliest-append first [] gs = refl
earliest-append first (f ∷ fs) gs = earliest-append (Some (earlier first f)) fs gs

pub earliest-nothing : (first : Option PlacedFault) → earliest first [] ≡ first
earliest-nothing first = refl

-- the earlier of two is one of them
one_of_two : (g h f : PlacedFault) → Some (cond (is_earlier h g) h g) ≡ Some f → ((g ≡ f) ⊎ (h ≡ f))
one_of_two g h f e = by (is_earlier h g) e
  where
    by : (b : Bool) → Some (cond b h g) ≡ Some f → ((g ≡ f) ⊎ (h ≡ f))
    by true e = inr cc
    by false e = inl cc

one_of : (g : PlacedFault) (fs : List PlacedFault) (f : PlacedFault) → earliest (Some g) fs ≡ Some f → (f ≡ g) ⊎ Among f fs
one_of g [] f e = inl cc
one_of g (h ∷ hs) f e = by (is_earlier h g) (one_of (cond (is_earlier h g) h g) hs f e)
  where
    by : (b : Bool) → (f ≡ cond b h g) ⊎ Among f hs → (f ≡ g) ⊎ Among f (h ∷ hs)
    by true (inl e) = inr (inl e)
    by false (inl e) = inl e
    by _ (inr there) = inr (inr there)

-- none is earlier than the first
none_earlier : (g : PlacedFault) (fs : List PlacedFault) (f : PlacedFault) → earliest (Some g) fs ≡ Some f → (is_earlier g f ≡ false) × Every (λ x. is_earlier x f ≡ false) fs
none_earlier g [] f e = (subst (λ x. is_earlier x f ≡ false) (let same : f ≡ g = cc in same) (not_itself f), tt)
none_earlier g (h ∷ hs) f e = by (is_earlier h g) refl (none_earlier (cond (is_earlier h g) h g) hs f e)
  where
    by : (b : Bool) → is_earlier h g ≡ b → (is_earlier (cond b h g) f ≡ false) × Every (λ x. is_earlier x f ≡ false) hs → (is_earlier g f ≡ false) × Every (λ x. is_earlier x f ≡ false) (h ∷ hs)
    by true is (now, later) = (not_through g h f (not_back h g is) now, (now, later))
    by false is (now, later) = (now, (not_through h g f is now, later))

some_stays : (g : PlacedFault) (fs : List PlacedFault) → earliest (Some g) fs ≡ None → ⊥
some_stays g [] e = cc
some_stays g (h ∷ hs) e = some_stays (cond (is_earlier h g) h g) hs e

pub earliest-stands : (fs : List PlacedFault) (f : PlacedFault) → earliest None fs ≡ Some f → Among f fs
earliest-stands [] f e = cc
earliest-stands (g ∷ gs) f e = one_of g gs f e

pub earliest-first : (fs : List PlacedFault) (f : PlacedFault) → earliest None fs ≡ Some f → Every (λ g. is_earlier g f ≡ false) fs
earliest-first [] f e = tt
earliest-first (g ∷ gs) f e = none_earlier g gs f e

pub earliest-none : (fs : List PlacedFault) → earliest None fs ≡ None → fs ≡ []
earliest-none [] e = refl
earliest-none (g ∷ gs) e = absurd (some_stays g gs e)
