-- The signs of a part are among those of the whole.
use Rattle.std.proofs.Common.{◌≡◌, refl, sym, ◌∙◌, ap, subst, ℕ, zero, suc, ◌+◌, List, [], ◌∷◌, ◌++◌, Bool, true, false, cond, ◌⊎◌, inl, inr, ⊎_elim, arith, add-zero}
use Rattle.std.specs.Prelude.{Some, slice_get, not, ◌&&◌, ◌||◌}
use Rattle.std.specs.List.{Contains}
use Rattle.type_terms.specs.declared.sign_search.Signs.{Signs}
use Rattle.type_terms.specs.declared.sign_search.DefSigns.{DefSigns}
use Rattle.type_terms.specs.declared.sign_search.Sought.{Sought}
use Rattle.type_terms.specs.declared.term.Term.{Term, Fun, Not, Var, Name}
use Rattle.type_terms.specs.declared.term.Term.TheViews as Views
use Rattle.type_terms.specs.Parts.{layer_positive_children, positive_children}
use Rattle.type_terms.specs.SignTables.{no_signs, own_signs, either, flipped, through, has_sign, wants_fun, wants_variable, fun_signs, variable_signs, name_signs, signs_in, signs_in_terms, signs_through}
use Rattle.type_terms.proofs.Contained.{contains-none, contains-cases, contains-first, contains-later}
use Rattle.type_terms.proofs.SignLaws.{both}
use Rattle.type_terms.proofs.SignTableLaws as Laws
use Rattle.type_terms.proofs.SignViews.{SignView, by_parts, by_fun, by_not, by_variable, by_name, sign-view, term-last}

-- signs one by one
pub or-cases : (a b : Bool) → (a || b) ≡ true → (a ≡ true) ⊎ (b ≡ true)
or-cases true b e = inl refl
or-cases false b e = inr e

pub or-left : (a b : Bool) → a ≡ true → (a || b) ≡ true
or-left true b e = refl
or-left false b e = absurd (cc)

pub or-right : (a b : Bool) → b ≡ true → (a || b) ≡ true
or-right true b e = refl
or-right false b e = e

pub and-cases : (a b : Bool) → (a && b) ≡ true → (a ≡ true) × (b ≡ true)
and-cases true b e = (refl, e)
and-cases false b e = absurd (cc)

pub and-both : (a b : Bool) → a ≡ true → b ≡ true → (a && b) ≡ true
and-both true b e q = q
and-both false b e q = absurd (cc)

unfoldable pub Has : Bool → Signs → Type 0
Has b s = has_sign b s ≡ true

pub has-none : {A : Type 0} (b : Bool) → Has b no_signs → A
unfolding Has
has-none true e = absurd (cc)
has-none false e = absurd (cc)

pub has-either : (b : Bool) (x y : Signs) → Has b (either x y) → Has b x ⊎ Has b y
unfolding Has
has-either true x y e = or-cases x.odd y.odd e
has-either false x y e = or-cases x.even y.even e

pub has-left : (b : Bool) (x y : Signs) → Has b x → Has b (either x y)
unfolding Has
has-left true x y e = or-left x.odd y.odd e
has-left false x y e = or-left x.even y.even e

pub has-right : (b : Bool) (x y : Signs) → Has b y → Has b (either x y)
unfolding Has
has-right true x y e = or-right x.odd y.odd e
has-right false x y e = or-right x.even y.even e

pub has-flipped : (b : Bool) (x : Signs) → Has b (flipped x) → Has (not b) x
unfolding Has
has-flipped true x e = e
has-flipped false x e = e

pub flipped-has : (b : Bool) (x : Signs) → Has b x → Has (not b) (flipped x)
unfolding Has
flipped-has true x e = e
flipped-has false x e = e

unfoldable pub Through : Bool → Signs → Signs → Type 0
Through b p x = (c : Bool) × Has c p × Has (both c b) x

pub has-through : (b : Bool) (p x : Signs) → Has b (through p x) → Through b p x
unfolding Has Through
has-through true p x e =
    ⊎_elim (λ q. let r : (p.even ≡ true) × (x.odd ≡ true) = and-cases p.even x.odd q in (false, r.0, r.1))
    (λ q. let r : (p.odd ≡ true) × (x.even ≡ true) = and-cases p.odd x.even q in (true, r.0, r.1))
    (or-cases (p.even && x.odd) (p.odd && x.even) e)
has-through false p x e =
    ⊎_elim (λ q. let r : (p.even ≡ true) × (x.even ≡ true) = and-cases p.even x.even q in (false, r.0, r.1))
    (λ q. let r : (p.odd ≡ true) × (x.odd ≡ true) = and-cases p.odd x.odd q in (true, r.0, r.1))
    (or-cases (p.even && x.even) (p.odd && x.odd) e)

pub through-has : (c b : Bool) (p x : Signs) → Has c p → Has b x → Has (both c b) (through p x)
unfolding Has
through-has true true p x e q = or-right (p.even && x.even) (p.odd && x.odd) (and-both p.odd x.odd e q)
through-has true false p x e q = or-right (p.even && x.odd) (p.odd && x.even) (and-both p.odd x.even e q)
through-has false true p x e q = or-left (p.even && x.odd) (p.odd && x.even) (and-both p.even x.odd e q)
through-has false false p x e q = or-left (p.even && x.even) (p.odd && x.odd) (and-both p.even x.even e q)

pub has-own : (b k : Bool) → Has b (own_signs k) → (b ≡ false) × (k ≡ true)
unfolding Has
has-own true k e = absurd (cc)
has-own false k e = (refl, e)

pub has-chosen : (b k : Bool) (x : Signs) → Has b (cond k x no_signs) → (k ≡ true) × Has b x
unfolding Has
has-chosen b true x e = (refl, e)
has-chosen b false x e = has-none b e

pub chosen-has : (b k : Bool) (x : Signs) → k ≡ true → Has b x → Has b (cond k x no_signs)
chosen-has b true x e h = h
chosen-has b false x e h = absurd (cc)

pub both-twice : (c b : Bool) → both c (both c b) ≡ b
both-twice true true = refl
both-twice true false = refl
both-twice false b = refl

pub both-cancel : (d c b : Bool) → both (both d c) (both d b) ≡ both c b
both-cancel true true true = refl
both-cancel true true false = refl
both-cancel true false true = refl
both-cancel true false false = refl
both-cancel false c b = refl

pub not-twice : (b : Bool) → not (not b) ≡ b
not-twice true = refl
not-twice false = refl

module _ (table : List DefSigns) where
  unfoldable pub Sign : Sought → Bool → Term → Type 0
  Sign w b t = Has b (signs_in table w t)

  abbrev pub Parameter : ℕ → ℕ → Bool → Type 0
  Parameter n i c = Has c (variable_signs (slice_get table n) i)

  pub from-terms : (w : Sought) (b : Bool) (ts : List Term) → Has b (signs_in_terms table w ts) → (c : Term) × Contains ts c × Sign w b c
  unfolding Sign
  from-terms w b [] h = has-none b h
  from-terms w b (t ∷ ts) h =
      ⊎_elim (λ k. (t, contains-first t ts, k)) (λ k. let q : (c : Term) × Contains ts c × Sign w b c = from-terms w b ts k in (q.0, contains-later t q.0 ts q.1, q.2)) (has-either b (signs_in table w t) (signs_in_terms table w ts) h)

  pub into-terms : (w : Sought) (b : Bool) (ts : List Term) (c : Term) → Contains ts c → Sign w b c → Has b (signs_in_terms table w ts)
  unfolding Sign
  into-terms w b [] c k h = absurd (contains-none c k)
  into-terms w b (t ∷ ts) c k h =
      ⊎_elim (λ (e : t ≡ c). has-left b (signs_in table w t) (signs_in_terms table w ts) (subst (λ (d : Term). Has b (signs_in table w d)) (sym e) h))
      (λ k'. has-right b (signs_in table w t) (signs_in_terms table w ts) (into-terms w b ts c k' h))
      (contains-cases t c ts k)

  abbrev pub FromArgument : Sought → ℕ → ℕ → List Term → Bool → Type 0
  FromArgument w n j ts b = (i : ℕ) × (t : Term) × (c : Bool) × (slice_get ts i ≡ Some t) × Parameter n (i + j) c × Sign w (both c b) t

  pub from-arguments : (w : Sought) (n j : ℕ) (b : Bool) (ts : List Term) → Has b (signs_through table w n j ts) → FromArgument w n j ts b
  unfolding Sign Through
  from-arguments w n j b [] h = has-none b h
  from-arguments w n j b (t ∷ ts) h =
      ⊎_elim (λ k. let q : (c : Bool) × Parameter n j c × Sign w (both c b) t = has-through b (variable_signs (slice_get table n) j) (signs_in table w t) k in let z : j ≡ 0 + j = omega arith in (0, t, q.0, refl, subst (λ m. Parameter n m q.0) z q.1, q.2))
      (λ k. let q : FromArgument w n (suc j) ts b = from-arguments w n (suc j) b ts k in let z : q.0 + suc j ≡ suc q.0 + j = omega arith in (suc q.0, q.1, q.2, q.3, subst (λ m. Parameter n m q.2) z q.4, q.5))
      (has-either b (through (variable_signs (slice_get table n) j) (signs_in table w t)) (signs_through table w n (suc j) ts) h)

  pub into-arguments : (w : Sought) (n j : ℕ) (ts : List Term) (i : ℕ) (t : Term) (c b : Bool) → slice_get ts i ≡ Some t → Parameter n (i + j) c → Sign w b t → Has (both c b) (signs_through table w n j ts)
  unfolding Sign
  into-arguments w n j [] i t c b g p h = absurd (cc)
  into-arguments w n j (s ∷ ts) zero t c b g p h =
      let z : 0 + j ≡ j = omega arith in
      has-left (both c b) (through (variable_signs (slice_get table n) j) (signs_in table w s)) (signs_through table w n (suc j) ts)
      (through-has c b (variable_signs (slice_get table n) j) (signs_in table w s) (subst (λ m. Parameter n m c) z p) (subst (λ (d : Term). Has b (signs_in table w d)) (sym (some_inj g)) h))
    where
      some_inj : Some s ≡ Some t → s ≡ t
      some_inj r = cc
  into-arguments w n j (s ∷ ts) (suc i) t c b g p h =
      let z : suc i + j ≡ i + suc j = omega arith in
      has-right (both c b) (through (variable_signs (slice_get table n) j) (signs_in table w s)) (signs_through table w n (suc j) ts) (into-arguments w n (suc j) ts i t c b g (subst (λ m. Parameter n m c) z p) h)

  -- what a part has the whole has
  pub at-terms : (w : Sought) (b : Bool) (t c : Term) (ts : List Term) → signs_in table w t ≡ signs_in_terms table w ts → Contains ts c → Sign w b c → Sign w b t
  unfolding Sign
  at-terms w b t c ts e k h = subst (Has b) (sym e) (into-terms w b ts c k h)

  pub fun-parts : (w : Sought) (ts : List Term) (t : Term) → signs_in table w (Fun ts t) ≡ either (own_signs (wants_fun w)) (signs_in_terms table w (ts ++ t ∷ []))
  fun-parts w ts t = Laws.signs-Fun table w ts t ∙ ap (either (own_signs (wants_fun w))) (term-last table w ts t)

  pub lift-fun : (w : Sought) (b : Bool) (ts : List Term) (t c : Term) → Contains (ts ++ t ∷ []) c → Sign w b c → Sign w b (Fun ts t)
  unfolding Sign
  lift-fun w b ts t c k h = subst (Has b) (sym (fun-parts w ts t)) (has-right b (own_signs (wants_fun w)) (signs_in_terms table w (ts ++ t ∷ [])) (into-terms w b (ts ++ t ∷ []) c k h))

  pub lift-not : (w : Sought) (b : Bool) (t : Term) → Sign w b t → Sign w (not b) (Not t)
  unfolding Sign
  lift-not w b t h = subst (Has (not b)) (sym (Laws.signs-Not table w t)) (flipped-has b (signs_in table w t) h)

  pub lift-argument : (w : Sought) (n : ℕ) (ts : List Term) (i : ℕ) (t : Term) (c b : Bool) → slice_get ts i ≡ Some t → Parameter n i c → Sign w b t → Sign w (both c b) (Name n ts)
  unfolding Sign
  lift-argument w n ts i t c b g p h = subst (Has (both c b)) (sym (Laws.signs-Name table w n ts)) (has-right (both c b) (name_signs table w n) (signs_through table w n 0 ts) (into-arguments w n 0 ts i t c b g (subst (λ m. Parameter n m c) (sym (add-zero i)) p) h))

  pub lift-name : (w : Sought) (b : Bool) (n : ℕ) (ts : List Term) → wants_fun w ≡ true → Has b (fun_signs (slice_get table n)) → Sign w b (Name n ts)
  unfolding Sign
  lift-name w b n ts e h = subst (Has b) (sym (Laws.signs-Name table w n ts)) (has-left b (name_signs table w n) (signs_through table w n 0 ts) (chosen-has b (wants_fun w) (fun_signs (slice_get table n)) e h))

  pub lift-child : (w : Sought) (b : Bool) (whole c : Term) → Contains (positive_children whole) c → Sign w b c → Sign w b whole
  lift-child w b whole c k h = go whole (sign-view table whole) k
    where
      go : (t : Term) → SignView table t → Contains (positive_children t) c → Sign w b t
      go _ (by_parts t ts e p q r) k' = at-terms w b t c ts (q w) (subst (λ (l : List Term). Contains l c) p k') h
      go _ (by_fun ts t) k' = lift-fun w b ts t c (subst (λ (l : List Term). Contains l c) (ap layer_positive_children (Views.outs-Fun ts t)) k') h
      go _ (by_not t) k' = absurd (contains-none c (subst (λ (l : List Term). Contains l c) (ap layer_positive_children (Views.outs-Not t)) k'))
      go _ (by_variable n) k' = absurd (contains-none c (subst (λ (l : List Term). Contains l c) (ap layer_positive_children (Views.outs-Var n)) k'))
      go _ (by_name n ts) k' = absurd (contains-none c (subst (λ (l : List Term). Contains l c) (ap layer_positive_children (Views.outs-Name n ts)) k'))

  -- what is sought has its own sign
  pub fun-itself : (w : Sought) (ts : List Term) (t : Term) → wants_fun w ≡ true → Sign w false (Fun ts t)
  unfolding Sign Has
  fun-itself w ts t e = subst (Has false) (sym (fun-parts w ts t)) (has-left false (own_signs (wants_fun w)) (signs_in_terms table w (ts ++ t ∷ [])) e)

  pub variable-itself : (w : Sought) (n : ℕ) → wants_variable w n ≡ true → Sign w false (Var n)
  unfolding Sign Has
  variable-itself w n e = subst (Has false) (sym (Laws.signs-Var table w n)) e
