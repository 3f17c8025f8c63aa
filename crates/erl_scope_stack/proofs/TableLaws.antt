-- Names by numbers.
use Rattle.std.proofs.Common.{◌≡◌, ℕ, zero, suc, ◌+◌, ◌<◌, ◌≤◌, Bool, true, false, ◌||◌, cond, List, [], ◌∷◌, ◌++◌, inl, inr, length, get_or, nat_eq, position, Option, Some, None, Vec, Global, refl, sym, ap, ◌∙◌, subst, true≢false, arith}
use Rattle.std.specs.List.{list_any}
use Rattle.std.specs.Str.{bytes_eq}
use Rattle.std.specs.Option.{is_some}
use Rattle.std.specs.Prelude.{slice_get}
use Rattle.std.proofs.lemmas.List.{length-map, length-append, map-append, get_or_append_left, get_or_push}
use Rattle.std.proofs.lemmas.List.Quantifiers.{position-Some}
use Rattle.std.proofs.lemmas.Slice.Eq.{bytes_eq-Decides}
use Rattle.std.proofs.lemmas.Bool.{eqb-true}
use Rattle.type_terms.specs.Keys.{Name}
use Rattle.erl_scope_stack.specs.Named.{names_in, name_at, HasNumber, IsNumber, IsGrown, HaveOneNumber}

abbrev pub Keys : Type 0
Keys = List (Vec ℕ Global)

abbrev pub is_key : Name → Vec ℕ Global → Bool
is_key x k = bytes_eq x k.items

pub name_at-key : (ks : Keys) (i : ℕ) (k : Vec ℕ Global) → i < length ks → name_at (names_in ks) i ≡ (get_or ks i k).items
name_at-key [] i k h = absurd (omega arith)
name_at-key (x ∷ ks) zero k h = refl
name_at-key (x ∷ ks) (suc i) k h = name_at-key ks i k (omega arith)

-- a key that is found
pub number-found : (x : Name) (ks : Keys) (i : ℕ) → position (is_key x) ks ≡ Some i → HasNumber (names_in ks) x i
number-found x [] i h = absurd (cc)
number-found x (k ∷ ks) i h =
    let p = position-Some (is_key x) (k ∷ ks) i k h in
    (omega (arith, p.0, length-map ks (λ (v : Vec ℕ Global). v.items)), name_at-key (k ∷ ks) i k p.0 ∙ sym ((bytes_eq-Decides x (get_or (k ∷ ks) i k).items).0 p.1))

-- a key that isn't there
pub number-absent : (x : Name) (ks : Keys) → list_any (is_key x) ks ≡ false → (i : ℕ) → HasNumber (names_in ks) x i → ⊥
number-absent x [] none i h = absurd (omega (arith, h.0))
number-absent x (k ∷ ks) none i h = by (is_key x k) refl i h (number-absent x ks)
  where
    by : (b : Bool) → is_key x k ≡ b → (j : ℕ) → HasNumber (names_in (k ∷ ks)) x j → (list_any (is_key x) ks ≡ false → (n : ℕ) → HasNumber (names_in ks) x n → ⊥) → ⊥
    by true e j g rest = true≢false (sym (ap (λ b. b || list_any (is_key x) ks) e) ∙ none)
    by false e zero g rest = true≢false (sym ((bytes_eq-Decides x k.items).1 (sym g.1)) ∙ e)
    by false e (suc n) g rest = rest (sym (ap (λ b. b || list_any (is_key x) ks) e) ∙ none) n (omega (arith, g.0), g.1)

-- what a look-up gives
pub IsNumber-found : (x : Name) (ks : Keys) (o : Option ℕ) → o ≡ position (is_key x) ks → is_some o ≡ list_any (is_key x) ks → IsNumber (names_in ks) x o
IsNumber-found x ks (Some i) e f = number-found x ks i (sym e)
IsNumber-found x ks None e f = number-absent x ks (sym f)

abbrev items_or : Option (Vec ℕ Global) → Name
items_or (Some v) = v.items
items_or None = []

-- a key that was added
pub number-stored : (ks : Keys) (i : ℕ) (k : Vec ℕ Global) → slice_get ks i ≡ Some k → HasNumber (names_in ks) k.items i
number-stored [] i k h = absurd (cc)
number-stored (x ∷ ks) zero k h = (omega arith, ap (λ (o : Option (Vec ℕ Global)). items_or o) h)
number-stored (x ∷ ks) (suc i) k h = let p = number-stored ks i k h in (omega (arith, p.0), p.1)

pub names_in-push : (ks : Keys) (k : Vec ℕ Global) → names_in (ks ++ k ∷ []) ≡ names_in ks ++ k.items ∷ []
names_in-push ks k = map-append (λ (v : Vec ℕ Global). v.items) ks (k ∷ [])

pub grown-insert : (x : Name) (ks new : Keys) (k : Vec ℕ Global) → k.items ≡ x → new ≡ cond (list_any (is_key k.items) ks) ks (ks ++ k ∷ []) → IsGrown x (names_in ks) (names_in new)
grown-insert x ks new k is e = by (list_any (is_key k.items) ks) refl
  where
    by : (b : Bool) → list_any (is_key k.items) ks ≡ b → IsGrown x (names_in ks) (names_in new)
    by true p = inl (ap names_in (e ∙ ap (λ b. cond b ks (ks ++ k ∷ [])) p))
    by false p = inr (ap names_in (e ∙ ap (λ b. cond b ks (ks ++ k ∷ [])) p) ∙ names_in-push ks k ∙ ap (λ y. names_in ks ++ y ∷ []) is, λ n h. number-absent k.items ks p n (h.0, h.1 ∙ sym is))

-- names that were there keep their numbers
pub length-grown : (x : Name) (old new : List Name) → IsGrown x old new → length old ≤ length new
length-grown x old new g = elim g [ inl e ↦ omega (arith, ap length e) | inr h ↦ omega (arith, ap length h.0, length-append old (x ∷ [])) ]

pub length-grown_by : (x : Name) (old new : List Name) → IsGrown x old new → length new ≤ length old + 1
length-grown_by x old new g = elim g [ inl e ↦ omega (arith, ap length e) | inr h ↦ omega (arith, ap length h.0, length-append old (x ∷ [])) ]

pub name_at-grown : (x : Name) (old new : List Name) → IsGrown x old new → (n : ℕ) → n < length old → name_at new n ≡ name_at old n
name_at-grown x old new g n h = elim g [ inl e ↦ ap (λ names. name_at names n) e | inr k ↦ ap (λ names. name_at names n) k.0 ∙ get_or_append_left old (x ∷ []) [] n h ]

one_number-push : (x : Name) (ns : List Name) → HaveOneNumber ns → ((n : ℕ) → HasNumber ns x n → ⊥) → HaveOneNumber (ns ++ x ∷ [])
one_number-push x ns one new i j h k e = by (nat_eq i (length ns)) refl (nat_eq j (length ns)) refl
  where
    long : length (ns ++ x ∷ []) ≡ length ns + 1
    long = length-append ns (x ∷ [])

    last : (n : ℕ) → nat_eq n (length ns) ≡ true → name_at (ns ++ x ∷ []) n ≡ x
    last n p = get_or_push ns x [] n (sym (eqb-true n (length ns) p))

    before : (n : ℕ) → n < length (ns ++ x ∷ []) → nat_eq n (length ns) ≡ false → n < length ns
    before n q p = grind (arith, long)

    kept : (n : ℕ) → n < length ns → name_at (ns ++ x ∷ []) n ≡ name_at ns n
    kept n q = get_or_append_left ns (x ∷ []) [] n q

    by : (a : Bool) → nat_eq i (length ns) ≡ a → (b : Bool) → nat_eq j (length ns) ≡ b → i ≡ j
    by true p true q = eqb-true i (length ns) p ∙ sym (eqb-true j (length ns) q)
    by true p false q = let l = before j k q in absurd (new j (l, sym (kept j l) ∙ sym e ∙ last i p))
    by false p true q = let l = before i h p in absurd (new i (l, sym (kept i l) ∙ e ∙ last j q))
    by false p false q = let l = before i h p in let m = before j k q in one i j l m (sym (kept i l) ∙ e ∙ kept j m)

pub one_number-grown : (x : Name) (old new : List Name) → IsGrown x old new → HaveOneNumber old → HaveOneNumber new
one_number-grown x old new g one = elim g [ inl e ↦ subst HaveOneNumber (sym e) one | inr h ↦ subst HaveOneNumber (sym h.0) (one_number-push x old one h.1) ]
