-- The tests on integers are the order of the integers.
use Rattle.std.proofs.Common.{◌≡◌, refl, sym, ◌∙◌, subst, ℤ, pos, negsuc, Bool, true, false, T, ◌↔◌, ◌≤ℤ◌, ◌<ℤ◌}
use Rattle.std.specs.Prelude.{Option, Some, None as Open, ◌&&◌}
use Rattle.std.specs.Int.Signed.{le_z, le_z_yes, lt_z, lt_z_yes}
use Rattle.std.proofs.lemmas.Bool.{and_parts, and_from}
use Rattle.type_terms.specs.Keys.{less_int}
use Rattle.type_terms.specs.Reading.{le_int, at_least, at_most}

le-same : (a b : ℤ) → le_int a b ≡ le_z a b
le-same (pos m) (pos n) = refl
le-same (pos m) (negsuc n) = refl
le-same (negsuc m) (pos n) = refl
le-same (negsuc m) (negsuc n) = refl

less-same : (a b : ℤ) → less_int a b ≡ lt_z a b
less-same (pos m) (pos n) = refl
less-same (pos m) (negsuc n) = refl
less-same (negsuc m) (pos n) = refl
less-same (negsuc m) (negsuc n) = refl

true-T : (b : Bool) → b ≡ true → T b
true-T true e = tt
true-T false e = absurd (cc)

T-true : (b : Bool) → T b → b ≡ true
T-true true t = refl
T-true false t = absurd t

pub le_int-is : (a b : ℤ) → (le_int a b ≡ true) ↔ (a ≤ℤ b)
le_int-is a b = ((λ e. le_z_yes (true-T (le_z a b) (sym (le-same a b) ∙ e))), (λ l. le-same a b ∙ T-true (le_z a b) l.le))

pub less_int-is : (a b : ℤ) → (less_int a b ≡ true) ↔ (a <ℤ b)
less_int-is a b = ((λ e. lt_z_yes (true-T (lt_z a b) (sym (less-same a b) ∙ e))), (λ l. less-same a b ∙ T-true (lt_z a b) l.lt))

at_least-is : (low : Option ℤ) (n : ℤ) → (at_least low n ≡ true) ↔ ((l : ℤ) → low ≡ Some l → l ≤ℤ n)
at_least-is Open n = ((λ e l q. absurd (cc)), (λ h. refl))
at_least-is (Some m) n = ((λ e l q. subst (λ x. x ≤ℤ n) (some_inj l q) ((le_int-is m n).0 e)), (λ h. (le_int-is m n).1 (h m refl)))
  where
    some_inj : (l : ℤ) → Some m ≡ Some l → m ≡ l
    some_inj l q = cc

at_most-is : (high : Option ℤ) (n : ℤ) → (at_most high n ≡ true) ↔ ((l : ℤ) → high ≡ Some l → n ≤ℤ l)
at_most-is Open n = ((λ e l q. absurd (cc)), (λ h. refl))
at_most-is (Some m) n = ((λ e l q. subst (λ x. n ≤ℤ x) (some_inj l q) ((le_int-is n m).0 e)), (λ h. (le_int-is n m).1 (h m refl)))
  where
    some_inj : (l : ℤ) → Some m ≡ Some l → m ≡ l
    some_inj l q = cc

pub between-is : (low high : Option ℤ) (n : ℤ) → ((at_least low n && at_most high n) ≡ true) ↔ (((l : ℤ) → low ≡ Some l → l ≤ℤ n) × ((h : ℤ) → high ≡ Some h → n ≤ℤ h))
between-is low high n = (
  (λ e. let q : (at_least low n ≡ true) × (at_most high n ≡ true) = and_parts _ _ e in ((at_least-is low n).0 q.0, (at_most-is high n).0 q.1)),
  (λ h. and_from _ _ ((at_least-is low n).1 h.0) ((at_most-is high n).1 h.1)),
)
