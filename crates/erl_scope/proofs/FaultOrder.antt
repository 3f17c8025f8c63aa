-- The order in which faults are named.
use Rattle.std.proofs.Common.{◌≡◌, refl, sym, ap, ◌∙◌, ℕ, Bool, true, false, not, ◌&&◌, ◌||◌, cond, nat_eq, nat_lt, arith}
use Rattle.std.proofs.lemmas.Bool.Decides.{nat_tests}
use Rattle.erl_scope_rules.specs.declared.fault.NameFault.{NameFault}
use Rattle.erl_scope_rules.specs.declared.fault.NameFault.TheVariants.{Unbound, Unsafe, NoSuchFunction, TwoFunctions, NoSpec, NoSuchRecord, NoSuchField, Repeated, ArityDiffers}
use Rattle.erl_scope_rules.specs.declared.fault.PlacedFault.{PlacedFault}
use Rattle.erl_scope_rules.specs.ScopeFaults.{rank, is_earlier}

-- ---- on the lines, the columns and the ranks

abbrev first_of_three : (l c r m d s : ℕ) → Bool
first_of_three l c r m d s = (nat_lt l m || (nat_eq l m && nat_lt c d)) || (not (nat_lt m l || (nat_eq m l && nat_lt d c)) && nat_lt r s)

through : (l c r m d s n e t : ℕ) → first_of_three l c r m d s ≡ true → first_of_three m d s n e t ≡ true → first_of_three l c r n e t ≡ true
through l c r m d s n e t h k = grind (arith, nat_tests)

between : (l c r m d s n e t : ℕ) → first_of_three l c r m d s ≡ false → first_of_three m d s n e t ≡ false → first_of_three l c r n e t ≡ false
between l c r m d s n e t h k = grind (arith, nat_tests)

module _ (l c r m d s : ℕ) (h : first_of_three l c r m d s ≡ false) (k : first_of_three m d s l c r ≡ false) where
  same_line : l ≡ m
  same_line = grind (arith, nat_tests)

  same_column : c ≡ d
  same_column = grind (arith, nat_tests)

  same_rank : r ≡ s
  same_rank = grind (arith, nat_tests)

-- ---- on faults

pub earlier_through : (f g h : PlacedFault) → is_earlier f g ≡ true → is_earlier g h ≡ true → is_earlier f h ≡ true
earlier_through f g h = through f.place.line f.place.column (rank f.fault) g.place.line g.place.column (rank g.fault) h.place.line h.place.column (rank h.fault)

pub not_earlier_through : (f g h : PlacedFault) → is_earlier f g ≡ false → is_earlier g h ≡ false → is_earlier f h ≡ false
not_earlier_through f g h = between f.place.line f.place.column (rank f.fault) g.place.line g.place.column (rank g.fault) h.place.line h.place.column (rank h.fault)

-- the kind with a rank
abbrev kind_of : ℕ → NameFault
kind_of n = cond (nat_eq n 0) Unbound (cond (nat_eq n 1) Unsafe (cond (nat_eq n 2) NoSuchFunction (cond (nat_eq n 3) TwoFunctions (cond (nat_eq n 4) NoSpec (cond (nat_eq n 5) NoSuchRecord (cond (nat_eq n 6) NoSuchField (cond (nat_eq n 7) Repeated ArityDiffers)))))))

kind_of-rank : (fault : NameFault) → kind_of (rank fault) ≡ fault
kind_of-rank Unbound = refl
kind_of-rank Unsafe = refl
kind_of-rank NoSuchFunction = refl
kind_of-rank TwoFunctions = refl
kind_of-rank NoSpec = refl
kind_of-rank NoSuchRecord = refl
kind_of-rank NoSuchField = refl
kind_of-rank Repeated = refl
kind_of-rank ArityDiffers = refl

same_kind : (j k : NameFault) → rank j ≡ rank k → j ≡ k
same_kind j k e = sym (kind_of-rank j) ∙ (ap kind_of e ∙ kind_of-rank k)

-- two faults of which neither is earlier are one
pub neither_earlier : (f g : PlacedFault) → is_earlier f g ≡ false → is_earlier g f ≡ false → f ≡ g
neither_earlier f g h k =
    let line : f.place.line ≡ g.place.line = same_line f.place.line f.place.column (rank f.fault) g.place.line g.place.column (rank g.fault) h k in
    let column : f.place.column ≡ g.place.column = same_column f.place.line f.place.column (rank f.fault) g.place.line g.place.column (rank g.fault) h k in
    let kind : f.fault ≡ g.fault = same_kind f.fault g.fault (same_rank f.place.line f.place.column (rank f.fault) g.place.line g.place.column (rank g.fault) h k) in
    λ i. record { place = record { line = line i; column = column i }; fault = kind i }
