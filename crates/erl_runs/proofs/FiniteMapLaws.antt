-- What is looked up after putting in, and rows with the same look-ups are equal.
use Rattle.std.proofs.Common.{◌≡◌, refl, sym, ◌∙◌, ap, subst, Bool, true, false, ◌⊎◌, inl, inr}
use Rattle.std.specs.Prelude.{Option, Some, None}
use Rattle.std.proofs.lemmas.Bool.{true≢false}
use mathlib.Core.Bool.{Bool-set}
use Rattle.type_terms.specs.declared.term.Key.{Key}
use Rattle.type_terms.specs.Keys.{Bound, after, above, key_lt}
use Rattle.erl_runs.specs.Value.{Value, Row, no_entries, entry_and}
use Rattle.erl_runs.specs.FiniteMaps.{pick, get, place, insert}
use Rattle.type_terms.proofs.KeyLaws.{key-irr, key-same, key-trans, key-asym}

pick-here : (x y : Bool) (v : Value) (o : Option Value) → x ≡ false → y ≡ false → pick x y v o ≡ Some v
pick-here x y v o p q = λ i. pick (p i) (q i) v o

pick-later : (x y : Bool) (v : Value) (o : Option Value) → x ≡ false → y ≡ true → pick x y v o ≡ o
pick-later x y v o p q = λ i. pick (p i) (q i) v o

pick-none : (x y : Bool) (v : Value) (o : Option Value) → x ≡ true → pick x y v o ≡ None
pick-none x y v o p = λ i. pick (p i) y v o

or_value : Option Value → Value → Value
or_value (Some w) v = w
or_value None v = v

some-inj : (v w : Value) → Some v ≡ Some w → v ≡ w
unfolding or_value
some-inj v w e = ap (λ o. or_value o v) e

none-some : (v : Value) → None ≡ Some v → ⊥
none-some v e = cc

pub get-first : (b : Bound) (k : Key) (e : above b k ≡ true) (v : Value) (r : Row (after k)) → get (entry_and {b = b} k e v r) k ≡ Some v
get-first b k e v r = pick-here _ _ v (get r k) (key-irr k) (key-irr k)

pub get-insert_same : {b : Bound} (k : Key) (e : above b k ≡ true) (v : Value) (r : Row b) → get (insert k e v r) k ≡ Some v
get-insert_same k e v no_entries = get-first _ k e v no_entries
get-insert_same k e v (entry_and j f w r) = go (key_lt k j) (key_lt j k) refl refl (λ q. get-insert_same k q v r)
  where
    go : (x y : Bool) (p : key_lt k j ≡ x) (q : key_lt j k ≡ y) → ((q' : key_lt j k ≡ true) → get (insert k q' v r) k ≡ Some v) → get (place k j e f v w r (λ q'. insert k q' v r) x y p q) k ≡ Some v
    go true y p q ih = get-first _ k e v (entry_and j p w r)
    go false true p q ih = pick-later _ _ w _ p q ∙ ih q
    go false false p q ih = pick-here _ _ v _ p q

-- a key that is not above the bound is not there
pub get-below : (j : Key) (r : Row (after j)) (x : Key) → key_lt j x ≡ false → get r x ≡ None
get-below j no_entries x h = refl
get-below j (entry_and m e w r) x h = go (key_lt x m) (key_lt m x) refl refl
  where
    go : (a c : Bool) → key_lt x m ≡ a → key_lt m x ≡ c → pick a c w (get r x) ≡ None
    go true c p q = refl
    go false true p q = absurd (true≢false (sym (key-trans j m x e q) ∙ h))
    go false false p q = absurd (true≢false (sym (subst (λ z. key_lt j z ≡ true) (sym (key-same x m p q)) e) ∙ h))

pub get-insert_other : {b : Bound} (k : Key) (e : above b k ≡ true) (v : Value) (r : Row b) (x : Key) → (key_lt x k ≡ true) ⊎ (key_lt k x ≡ true) → get (insert k e v r) x ≡ get r x
get-insert_other k e v no_entries x (inl l) = pick-none _ _ v None l
get-insert_other k e v no_entries x (inr l) = pick-later _ _ v None (key-asym k x l) l
get-insert_other k e v (entry_and j f w r) x d = go (key_lt k j) (key_lt j k) refl refl (λ q. get-insert_other k q v r x d) d
  where
    go : (a c : Bool) (p : key_lt k j ≡ a) (q : key_lt j k ≡ c) → ((q' : key_lt j k ≡ true) → get (insert k q' v r) x ≡ get r x) → (key_lt x k ≡ true) ⊎ (key_lt k x ≡ true) → get (place k j e f v w r (λ q'. insert k q' v r) a c p q) x ≡ get (entry_and j f w r) x
    go true c p q ih (inl l) = pick-none _ _ v _ l ∙ sym (pick-none _ _ w (get r x) (key-trans x k j l p))
    go true c p q ih (inr l) = pick-later _ _ v _ (key-asym k x l) l
    go false true p q ih d' = ap (λ o. pick (key_lt x j) (key_lt j x) w o) (ih q)
    go false false p q ih (inl l) = let l' : key_lt x j ≡ true = subst (λ z. key_lt x z ≡ true) (key-same k j p q) l in pick-none _ _ v _ l' ∙ sym (pick-none _ _ w (get r x) l')
    go false false p q ih (inr l) = let l' : key_lt j x ≡ true = subst (λ z. key_lt z x ≡ true) (key-same k j p q) l in pick-later _ _ v (get r x) (key-asym j x l') l' ∙ sym (pick-later _ _ w (get r x) (key-asym j x l') l')

-- rows with the same first key, whose rests are equal if their look-ups are
rests : (b : Bound) (j : Key) (e f : above b j ≡ true) (v w : Value) (r s : Row (after j)) → ((x : Key) → get (entry_and {b = b} j e v r) x ≡ get (entry_and {b = b} j f w s) x) → (x : Key) → get r x ≡ get s x
rests b j e f v w r s h x = go (key_lt j x) refl
  where
    go : (a : Bool) → key_lt j x ≡ a → get r x ≡ get s x
    go true p = sym (pick-later _ _ v (get r x) (key-asym j x p) p) ∙ (h x ∙ pick-later _ _ w (get s x) (key-asym j x p) p)
    go false p = get-below j r x p ∙ sym (get-below j s x p)

-- a map is what its look-ups are
pub same-row : {b : Bound} (r s : Row b) → ((x : Key) → get r x ≡ get s x) → r ≡ s
same-row no_entries no_entries h = refl
same-row no_entries (entry_and k f w s) h = absurd (none-some w (h k ∙ get-first _ k f w s))
same-row (entry_and j e v r) no_entries h = absurd (none-some v (sym (h j) ∙ get-first _ j e v r))
same-row {b = b} (entry_and j e v r) (entry_and k f w s) h = go (key_lt j k) (key_lt k j) refl refl (same-row r)
  where
    go : (a c : Bool) → key_lt j k ≡ a → key_lt k j ≡ c → ((t : Row (after j)) → ((x : Key) → get r x ≡ get t x) → r ≡ t) → entry_and {b = b} j e v r ≡ entry_and {b = b} k f w s
    go true c p q ih = absurd (none-some v (sym (pick-none _ _ w (get s j) p) ∙ (sym (h j) ∙ get-first _ j e v r)))
    go false true p q ih = absurd (none-some w (sym (pick-none _ _ v (get r k) q) ∙ (h k ∙ get-first _ k f w s)))
    go false false p q ih =
        let vw : v ≡ w = some-inj v w (sym (get-first _ j e v r) ∙ (h j ∙ pick-here _ _ w (get s j) p q)) in
        subst (λ z. (f' : above b z ≡ true) (s' : Row (after z)) → ((x : Key) → get (entry_and {b = b} j e v r) x ≡ get (entry_and {b = b} z f' w s') x) → entry_and {b = b} j e v r ≡ entry_and {b = b} z f' w s') (key-same j k p q)
        (λ f' s' h'. λ i. entry_and j (Bool-set _ _ e f' i) (vw i) (ih s' (rests b j e f' v w r s' h') i))
        f s h

-- keys that are not equal are one less than the other
pub get-insert_apart : {b : Bound} (k : Key) (e : above b k ≡ true) (v : Value) (r : Row b) (x : Key) → (x ≡ k → ⊥) → get (insert k e v r) x ≡ get r x
get-insert_apart k e v r x h = go (key_lt x k) (key_lt k x) refl refl
  where
    go : (a c : Bool) → key_lt x k ≡ a → key_lt k x ≡ c → get (insert k e v r) x ≡ get r x
    go true c p q = get-insert_other k e v r x (inl p)
    go false true p q = get-insert_other k e v r x (inr q)
    go false false p q = absurd (h (key-same x k p q))
