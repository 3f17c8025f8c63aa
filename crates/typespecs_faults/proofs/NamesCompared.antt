-- Names compared.
use Rattle.std.proofs.Common.{◌≡◌, refl, ap, ap₂, [], ◌∷◌, ◌&&◌, nat_eq, ℕ, arith}
use Rattle.std.specs.Str.{bytes_eq}
use Rattle.std.proofs.lemmas.Bool.Decides.{nat_tests}
use Rattle.type_terms.specs.Keys.{Name, same_name}

pub eq-sym : (m n : ℕ) → nat_eq m n ≡ nat_eq n m
eq-sym m n = grind (arith, nat_tests)

pub bytes-same : (m n : Name) → bytes_eq m n ≡ same_name m n
bytes-same [] [] = refl
bytes-same [] (y ∷ n) = refl
bytes-same (x ∷ m) [] = refl
bytes-same (x ∷ m) (y ∷ n) = ap (λ b. nat_eq x y && b) (bytes-same m n)

pub same-sym : (m n : Name) → same_name m n ≡ same_name n m
same-sym [] [] = refl
same-sym [] (y ∷ n) = refl
same-sym (x ∷ m) [] = refl
same-sym (x ∷ m) (y ∷ n) = ap₂ ◌&&◌ (eq-sym x y) (same-sym m n)
