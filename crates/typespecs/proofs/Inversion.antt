-- Small facts: what stands behind `Some`, and what is never the same.
use Rattle.std.proofs.Common.{◌≡◌}
use Rattle.std.specs.Prelude.{Some, None, true, false}

pub some-is : {A : Type 0} {x y : A} → Some x ≡ Some y → x ≡ y
some-is e = cc

pub false-true : false ≡ true → ⊥
false-true e = absurd (cc)

pub none-some : {A : Type 0} {x : A} → None ≡ Some x → ⊥
none-some e = absurd (cc)
