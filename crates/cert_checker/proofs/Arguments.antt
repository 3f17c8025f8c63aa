-- Types and sets in turn, place by place.
use Rattle.std.proofs.Common.{◌≡◌, refl, sym, ◌∙◌, ap, subst, ℕ, zero, suc, ◌+◌, ◌<◌, List, [], ◌∷◌, ◌++◌, length, take, arith}
use Rattle.std.specs.Prelude.{Some, slice_get, slice_set}
use Rattle.type_terms.specs.declared.term.Key.{Key}
use Rattle.type_terms.specs.declared.term.Term.{Term}
use Rattle.type_terms.specs.Definitions.{given_definitions}
use Rattle.type_terms.specs.Instances.{no_variables}
use Rattle.key_sets.specs.declared.key_set.KeySet.{KeySet}
use Rattle.cert_checker.specs.declared.expression_type.ExpressionType.{ExpressionType}
use Rattle.cert_checker.specs.declared.scope.Scope.{Scope}
use Rattle.cert_checker.specs.Constraints.{IsWithin, AreWithin}
use Rattle.cert_checker.specs.Failures.{KeyIn, keys_in, Refutes}
use Rattle.cert_checker.specs.declared.refusal.Shown.TheVariants.{One}
use Rattle.cert_checker.specs.FlatTypes.{IsSetOf, AreSetsOf}
use Rattle.cert_checker.specs.Judging.{StandsFor, StandForAll}
use Rattle.cert_checker.proofs.Lists.{some-inj, none-some}
use Rattle.cert_checker.proofs.Takes.{take-more, below-or-there}

abbrev pub keys_of : List Key → List Term → Type 0
keys_of ks ts = keys_in ks ts given_definitions no_variables

-- ---- sets

pub sets-of : (ss : List KeySet) (ts : List Term) (k : ℕ) (t : Term) → AreSetsOf ss ts → slice_get ts k ≡ Some t → (s : KeySet) × (slice_get ss k ≡ Some s) × IsSetOf s t
sets-of [] [] k t h e = none-some t e
sets-of (s ∷ ss) (u ∷ ts) zero t h e = (s, refl, subst (IsSetOf s) (some-inj u t e) h.0)
sets-of (s ∷ ss) (u ∷ ts) (suc k) t h e = sets-of ss ts k t h.1 e
sets-of [] (u ∷ ts) k t h e = absurd h
sets-of (s ∷ ss) [] k t h e = absurd h

pub set-at : (ss : List KeySet) (ts : List Term) (k : ℕ) (s : KeySet) (t : Term) → AreSetsOf ss ts → Some s ≡ slice_get ss k → slice_get ts k ≡ Some t → IsSetOf s t
set-at ss ts k s t h e f = let r : (r : KeySet) × (slice_get ss k ≡ Some r) × IsSetOf r t = sets-of ss ts k t h f in subst (λ z. IsSetOf z t) (some-inj r.0 s (sym r.1 ∙ sym e)) r.2

pub sets-length : (ss : List KeySet) (ts : List Term) → AreSetsOf ss ts → length ss ≡ length ts
sets-length [] [] h = refl
sets-length (s ∷ ss) (t ∷ ts) h = ap suc (sets-length ss ts h.1)
sets-length [] (t ∷ ts) h = absurd h
sets-length (s ∷ ss) [] h = absurd h

module _ (scope : Scope) where
  -- ---- types

  pub stands-at : (fs : List ExpressionType) (ts : List Term) (k : ℕ) (f : ExpressionType) → StandForAll scope fs ts → slice_get fs k ≡ Some f → (t : Term) × (slice_get ts k ≡ Some t) × StandsFor scope f t
  stands-at [] [] k f h e = none-some f e
  stands-at (g ∷ fs) (t ∷ ts) zero f h e = (t, refl, subst (λ z. StandsFor scope z t) (some-inj g f e) h.0)
  stands-at (g ∷ fs) (t ∷ ts) (suc k) f h e = stands-at fs ts k f h.1 e
  stands-at [] (t ∷ ts) k f h e = absurd h
  stands-at (g ∷ fs) [] k f h e = absurd h

  pub stand-at : (fs : List ExpressionType) (ts : List Term) (k : ℕ) (f : ExpressionType) (t : Term) → StandForAll scope fs ts → slice_get fs k ≡ Some f → slice_get ts k ≡ Some t → StandsFor scope f t
  stand-at fs ts k f t h e g = let r : (u : Term) × (slice_get ts k ≡ Some u) × StandsFor scope f u = stands-at fs ts k f h e in subst (StandsFor scope f) (some-inj r.0 t (sym r.1 ∙ g)) r.2

  pub stand-length : (fs : List ExpressionType) (ts : List Term) → StandForAll scope fs ts → length fs ≡ length ts
  stand-length [] [] h = refl
  stand-length (f ∷ fs) (t ∷ ts) h = ap suc (stand-length fs ts h.1)
  stand-length [] (t ∷ ts) h = absurd h
  stand-length (f ∷ fs) [] h = absurd h

  pub stand-append : (fs : List ExpressionType) (ts : List Term) (f : ExpressionType) (t : Term) → StandForAll scope fs ts → StandsFor scope f t → StandForAll scope (fs ++ f ∷ []) (ts ++ t ∷ [])
  stand-append [] [] f t h k = (k, tt)
  stand-append (g ∷ fs) (u ∷ ts) f t h k = (h.0, stand-append fs ts f t h.1 k)
  stand-append [] (u ∷ ts) f t h k = absurd h
  stand-append (g ∷ fs) [] f t h k = absurd h

  pub stand-split : (fs : List ExpressionType) (f : ExpressionType) (ts : List Term) → StandForAll scope (fs ++ f ∷ []) ts → (us : List Term) × (u : Term) × (ts ≡ us ++ u ∷ []) × StandForAll scope fs us × StandsFor scope f u
  stand-split [] f (t ∷ []) h = ([], t, refl, tt, h.0)
  stand-split [] f [] h = absurd h
  stand-split [] f (t ∷ u ∷ ts) h = absurd h.1
  stand-split (g ∷ fs) f [] h = absurd h
  stand-split (g ∷ fs) f (t ∷ ts) h =
      let r : (us : List Term) × (u : Term) × (ts ≡ us ++ u ∷ []) × StandForAll scope fs us × StandsFor scope f u = stand-split fs f ts h.1 in
      (t ∷ r.0, r.1, ap (λ z. t ∷ z) r.2, (h.0, r.3), r.4)

  -- ---- comparisons so far

  -- each of the first arguments is within its parameter
  abbrev pub WithinSoFar : List ExpressionType → List KeySet → ℕ → Type 0
  WithinSoFar args params at = (ts us : List Term) → StandForAll scope args ts → AreSetsOf params us → (k : ℕ) (s t : Term) → k < at → slice_get ts k ≡ Some s → slice_get us k ≡ Some t → IsWithin s t

  pub within-none : (args : List ExpressionType) (params : List KeySet) → WithinSoFar args params 0
  within-none args params ts us h k j s t l e f = absurd (omega arith)

  pub within-more : (args : List ExpressionType) (params : List KeySet) (at : ℕ) (f : ExpressionType) → slice_get args at ≡ Some f →
      ((s t : Term) (us : List Term) → StandsFor scope f s → AreSetsOf params us → slice_get us at ≡ Some t → IsWithin s t) → WithinSoFar args params at → WithinSoFar args params (at + 1)
  within-more args params at f e h before ts us a b k s t l p q = below-or-there k at l
      (λ c. before ts us a b k s t c p q)
      (λ c. h s t us (stand-at args ts at f s a e (ap (slice_get ts) (sym c) ∙ p)) b (ap (slice_get us) (sym c) ∙ q))

  pub within-all : (ts us : List Term) → length ts ≡ length us → ((k : ℕ) (s t : Term) → k < length ts → slice_get ts k ≡ Some s → slice_get us k ≡ Some t → IsWithin s t) → AreWithin ts us
  within-all [] [] e h = tt
  within-all (t ∷ ts) (u ∷ us) e h = (h 0 t u (omega arith) refl refl, within-all ts us (cc) (λ k s v l p q. h (suc k) s v (omega arith) p q))
  within-all [] (u ∷ us) e h = absurd (cc)
  within-all (t ∷ ts) [] e h = absurd (cc)

  pub within-end : (args : List ExpressionType) (params : List KeySet) (at : ℕ) → at ≡ length args → length args ≡ length params → WithinSoFar args params at → (ts us : List Term) → StandForAll scope args ts → AreSetsOf params us → AreWithin ts us
  within-end args params at e l h ts us a b =
      let p : length args ≡ length ts = stand-length args ts a in
      let q : length params ≡ length us = sets-length params us b in
      within-all ts us (sym p ∙ (l ∙ q)) (λ k s t m f g. h ts us a b k s t (subst (λ z. k < z) (sym (e ∙ p)) m) f g)

-- ---- keys

pub keys-append : (ks : List Key) (ts : List Term) (k : Key) (t : Term) → keys_of ks ts → KeyIn k t → keys_of (ks ++ k ∷ []) (ts ++ t ∷ [])
keys-append [] [] k t h w = (w, tt)
keys-append (j ∷ ks) (u ∷ ts) k t h w = (h.0, keys-append ks ts k t h.1 w)
keys-append [] (u ∷ ts) k t h w = absurd h
keys-append (j ∷ ks) [] k t h w = absurd h

pub keys-length : (ks : List Key) (ts : List Term) → keys_of ks ts → length ks ≡ length ts
keys-length [] [] h = refl
keys-length (k ∷ ks) (t ∷ ts) h = ap suc (keys-length ks ts h.1)
keys-length [] (t ∷ ts) h = absurd h
keys-length (k ∷ ks) [] h = absurd h

pub keys-set : (ks : List Key) (ts : List Term) (k : ℕ) (key : Key) (t : Term) → keys_of ks ts → slice_get ts k ≡ Some t → KeyIn key t → keys_of (slice_set ks k key) ts × (slice_get (slice_set ks k key) k ≡ Some key)
keys-set [] [] k key t h e w = none-some t e
keys-set (j ∷ ks) (u ∷ ts) zero key t h e w = ((subst (KeyIn key) (sym (some-inj u t e)) w, h.1), refl)
keys-set (j ∷ ks) (u ∷ ts) (suc k) key t h e w = let r : keys_of (slice_set ks k key) ts × (slice_get (slice_set ks k key) k ≡ Some key) = keys-set ks ts k key t h.1 e w in ((h.0, r.0), r.1)
keys-set [] (u ∷ ts) k key t h e w = absurd h
keys-set (j ∷ ks) [] k key t h e w = absurd h

pub keys-at : (ks : List Key) (ts : List Term) (k : ℕ) (key : Key) (t : Term) → keys_of ks ts → slice_get ks k ≡ Some key → slice_get ts k ≡ Some t → KeyIn key t
keys-at [] ts k key t h e f = none-some key e
keys-at (j ∷ ks) (u ∷ ts) zero key t h e f = subst (λ z. KeyIn z t) (some-inj j key e) (subst (KeyIn j) (some-inj u t f) h.0)
keys-at (j ∷ ks) (u ∷ ts) (suc k) key t h e f = keys-at ks ts k key t h.1 e f
keys-at (j ∷ ks) [] k key t h e f = absurd h

module _ (scope : Scope) where
  -- an element of each type so far, and of one more
  pub elements-more : (args : List ExpressionType) (i : ℕ) (f : ExpressionType) (keys new : List Key) (key : Key) → slice_get args i ≡ Some f → new ≡ keys ++ key ∷ [] → ((t : Term) → StandsFor scope f t → KeyIn key t) →
      ((ts : List Term) → StandForAll scope (take i args) ts → keys_of keys ts) → (ts : List Term) → StandForAll scope (take (i + 1) args) ts → keys_of new ts
  elements-more args i f keys new key e q h k ts a =
      let r : (us : List Term) × (u : Term) × (ts ≡ us ++ u ∷ []) × StandForAll scope (take i args) us × StandsFor scope f u = stand-split scope (take i args) f ts (subst (λ z. StandForAll scope z ts) (take-more args i f e) a) in
      subst (λ z. keys_of z ts) (sym q) (subst (keys_of (keys ++ key ∷ [])) (sym r.2) (keys-append keys r.0 key r.1 (k r.0 r.3) (h r.1 r.4)))

  pub no-elements : (keys : List Key) (ts : List Term) → keys ≡ [] → StandForAll scope [] ts → keys_of keys ts
  no-elements keys [] e h = subst (λ z. keys_of z []) (sym e) tt
  no-elements keys (t ∷ ts) e h = absurd h

  -- the keys of arguments of which one isn't in its parameter
  pub keys-miss : (args : List ExpressionType) (params : List KeySet) (keys : List Key) (at : ℕ) (f : ExpressionType) (key : Key) (ts us : List Term) → slice_get args at ≡ Some f → at < length params →
      ((s t : Term) (us : List Term) → StandsFor scope f s → AreSetsOf params us → slice_get us at ≡ Some t → Refutes (One key) s t) →
      ((ts : List Term) (t : Term) → StandForAll scope args ts → slice_get ts at ≡ Some t → KeyIn key t → keys_of keys ts × (slice_get keys at ≡ Some key)) →
      StandForAll scope args ts → AreSetsOf params us → keys_of keys ts × (keys_of keys us → ⊥)
  keys-miss args params keys at f key ts us e l h k a b =
      let s : (s : Term) × (slice_get ts at ≡ Some s) × StandsFor scope f s = stands-at scope args ts at f a e in
      let t : (t : Term) × (slice_get us at ≡ Some t) = read us at (subst (λ z. at < z) (sets-length params us b) l) in
      let r = h s.0 t.0 us s.2 b t.1 in
      let m : keys_of keys ts × (slice_get keys at ≡ Some key) = k ts s.0 a s.1 r.0 in
      (m.0, λ w. r.1 (keys-at keys us at key t.0 w m.1 t.1))
    where
      read : (us : List Term) (at : ℕ) → at < length us → (t : Term) × (slice_get us at ≡ Some t)
      read [] at l = absurd (omega arith)
      read (u ∷ us) zero l = (u, refl)
      read (u ∷ us) (suc at) l = read us at (omega arith)
