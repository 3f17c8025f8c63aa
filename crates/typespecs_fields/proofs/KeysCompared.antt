-- Keys compared as std compares their parts.
use Rattle.std.proofs.Common.{◌≡◌, refl, sym, ◌∙◌, ap, ◌<◌, ◌≤◌, Bool, true, false, cond, [], ◌∷◌, nat_lt, nat_eq, arith, true≢false}
use Rattle.std.proofs.lemmas.Bool.{ltb-true, ltb-false, eqb-true, eq-eqb}
use Rattle.std.specs.Ordering.{ordering_then}
use Rattle.std.proofs.Common.{Less, Equal, Greater, is_lt, nat_cmp}
use Rattle.std.specs.Cmp.Lexicographic.{slice_cmp}
use Rattle.std.specs.Cmp.{IsStrictWeakOrder}
use Rattle.type_terms.specs.Keys.{Name, name_lt, key_lt, lexicographic}
use Rattle.type_terms.specs.declared.term.Key.{Key}
use Rattle.type_terms.specs.declared.term.Field.{Field}
use Rattle.type_terms.proofs.KeyLaws.{key-asym, key-same, key-trans}

pub name-compared : (a b : Name) → is_lt (slice_cmp nat_cmp a b) ≡ name_lt a b
name-compared [] [] = refl
name-compared [] (n ∷ ns) = refl
name-compared (m ∷ ms) [] = refl
name-compared (m ∷ ms) (n ∷ ns) = go (nat_lt m n) (nat_eq m n) (nat_lt n m) refl refl refl (name-compared ms ns)
  where
    go : (l e g : Bool) → nat_lt m n ≡ l → nat_eq m n ≡ e → nat_lt n m ≡ g → is_lt (slice_cmp nat_cmp ms ns) ≡ name_lt ms ns → is_lt (ordering_then (cond l Less (cond e Equal Greater)) (slice_cmp nat_cmp ms ns)) ≡ lexicographic l g (name_lt ms ns)
    go true e g p q r more = refl
    go false true true p q r more = let a : m ≡ n = eqb-true m n q in let b : n < m = ltb-true n m r in absurd (omega arith)
    go false true false p q r more = more
    go false false true p q r more = refl
    go false false false p q r more = let a : n ≤ m = ltb-false m n p in let b : m ≤ n = ltb-false n m r in let c : m ≡ n = omega arith in absurd (true≢false (sym (eq-eqb m n c) ∙ q))

-- the order of fields by their keys
abbrev pub field_lt : Field → Field → Bool
field_lt f g = key_lt f.key g.key

pub field_lt-ranks : IsStrictWeakOrder field_lt
field_lt-ranks = record { one_way = λ f g. key-asym f.key g.key; chain = λ f g h. chain f.key g.key h.key }
  where
    chain : (i j k : Key) → key_lt i j ≡ false → key_lt j k ≡ false → key_lt i k ≡ false
    chain i j k a b = go (key_lt i k) (key_lt j i) refl refl
      where
        go : (c d : Bool) → key_lt i k ≡ c → key_lt j i ≡ d → c ≡ false
        go false d p q = refl
        go true true p q = absurd (true≢false (sym (key-trans j i k q p) ∙ b))
        go true false p q = absurd (true≢false (sym p ∙ ap (λ m. key_lt m k) (key-same i j a q) ∙ b))
