-- What several of the proofs cite.
use Rattle.std.proofs.Common.{◌≡◌, refl, ap, ℕ, zero, suc, ◌<◌, Bool, true, false, arith}
use Rattle.std.specs.Prelude.{Option, Some, None}

pub some-same : {A : Type 0} (a b : A) → Some a ≡ Some b → a ≡ b
some-same a b e = cc

pub none-some : {A : Type 0} (a : A) → ◌≡◌ {A = Option A} None (Some a) → ⊥
none-some a e = absurd cc

-- neither of two numbers is below the other
pub neither-below : (a b : ℕ) → (a < b → ⊥) → (b < a → ⊥) → a ≡ b
neither-below zero zero h k = refl
neither-below zero (suc b) h k = absurd (h (omega arith))
neither-below (suc a) zero h k = absurd (k (omega arith))
neither-below (suc a) (suc b) h k = ap suc (neither-below a b (λ l. h (omega arith)) (λ l. k (omega arith)))

-- two tests that are true under each other are the same
pub both-ways : (a b : Bool) → (a ≡ true → b ≡ true) → (b ≡ true → a ≡ true) → a ≡ b
both-ways true true h k = refl
both-ways true false h k = absurd (let e = h refl in cc)
both-ways false true h k = absurd (let e = k refl in cc)
both-ways false false h k = refl
