-- A name unfolds to its body.
use Rattle.std.proofs.Common.{◌≡◌, refl, sym, ◌∙◌, ap, ℕ, zero, suc, ◌<◌, List, length, arith, eq-eqb}
use Rattle.std.proofs.lemmas.Bool.{eqb-true}
use Rattle.std.specs.Prelude.{Option, Some, None as Nothing, slice_get, nat_eq, if◌then◌else◌, Bool, true, false}
use Rattle.type_terms.specs.declared.term.Term.{Term, Any, None, Ints, AtomLit, AnyAtom, Nil, Cons', Tuple', AnyTuple, Map', Fun', AnyFun, Or', And', Not', Var, Name', Row_of-Term, end_of-Term, more_of-Term}
use Rattle.type_terms.specs.Replacement.{Substitution, replaced, replaced_row, terms_of, argument_of}
use Rattle.type_terms.specs.declared.term.Def.{Def}
use Rattle.type_terms.specs.Unfolding.{NameUnfolding, unfolded_in, unfolded_row, body_of, or_none, name_unfolded, unfolded}
use Rattle.type_terms.proofs.Ranks.{all_bare, all_bare_row, all_bare_args, Ranked}
use Rattle.type_terms.proofs.ReplacementLaws.{replaced-id, replaced_row-id, replaced_row-replaced, replaced_fields-replaced, replaced_rest-replaced}

mutual
  pub unfolded-replaced : (e : NameUnfolding) (f h g : Substitution) (t : Term) → unfolded_in e f h (replaced g t) ≡ unfolded_in e (λ i. replaced f (g i)) (λ i. unfolded_in e f h (g i)) t
  unfolded-replaced e f h g Any = refl
  unfolded-replaced e f h g None = refl
  unfolded-replaced e f h g (Ints a b) = refl
  unfolded-replaced e f h g (AtomLit a) = refl
  unfolded-replaced e f h g AnyAtom = refl
  unfolded-replaced e f h g Nil = refl
  unfolded-replaced e f h g (Cons' s a t b) = λ i. Cons' s (replaced_row-replaced f g a i) t (replaced_row-replaced f g b i)
  unfolded-replaced e f h g (Tuple' s ts) = λ i. Tuple' s (replaced_row-replaced f g ts i)
  unfolded-replaced e f h g AnyTuple = refl
  unfolded-replaced e f h g (Map' s fs r q) = λ i. Map' s (replaced_fields-replaced f g fs i) (replaced_rest-replaced f g r i) (replaced_rest-replaced f g q i)
  unfolded-replaced e f h g (Fun' s ts t a) = λ i. Fun' s (replaced_row-replaced f g ts i) t (replaced_row-replaced f g a i)
  unfolded-replaced e f h g (AnyFun n) = refl
  unfolded-replaced e f h g (Or' s ts) = λ i. Or' s (unfolded_row-replaced e f h g ts i)
  unfolded-replaced e f h g (And' s ts) = λ i. And' s (unfolded_row-replaced e f h g ts i)
  unfolded-replaced e f h g (Not' s ts) = λ i. Not' s (unfolded_row-replaced e f h g ts i)
  unfolded-replaced e f h g (Var n) = refl
  unfolded-replaced e f h g (Name' n s ts) = λ i. e n (terms_of (replaced_row-replaced f g ts i)) (terms_of (unfolded_row-replaced e f h g ts i))

  pub unfolded_row-replaced : {m : _} (e : NameUnfolding) (f h g : Substitution) (ts : Row_of-Term m) → unfolded_row e f h (replaced_row g ts) ≡ unfolded_row e (λ i. replaced f (g i)) (λ i. unfolded_in e f h (g i)) ts
  unfolded_row-replaced e f h g end_of-Term = refl
  unfolded_row-replaced e f h g (more_of-Term t ts) = λ i. more_of-Term (unfolded-replaced e f h g t i) (unfolded_row-replaced e f h g ts i)

-- two ways to name_unfolded names that agree on those that stand unfolded
module _ (P : ℕ → Type 0) (o : ℕ → ℕ → Type 0) (e e' : NameUnfolding) (same : (m : ℕ) (ps hs hs' : List Term) → P m → ((i : ℕ) → o m i → argument_of hs i ≡ argument_of hs' i) → e m ps hs ≡ e' m ps hs') where
  mutual
    pub unfolded-agree : (f h h' : Substitution) (t : Term) → all_bare P (λ i. h i ≡ h' i) o t → unfolded_in e f h t ≡ unfolded_in e' f h' t
    unfolded-agree f h h' Any a = refl
    unfolded-agree f h h' None a = refl
    unfolded-agree f h h' (Ints x y) a = refl
    unfolded-agree f h h' (AtomLit x) a = refl
    unfolded-agree f h h' AnyAtom a = refl
    unfolded-agree f h h' Nil a = refl
    unfolded-agree f h h' (Cons' s x t y) a = refl
    unfolded-agree f h h' (Tuple' s ts) a = refl
    unfolded-agree f h h' AnyTuple a = refl
    unfolded-agree f h h' (Map' s fs r q) a = refl
    unfolded-agree f h h' (Fun' s ts t x) a = refl
    unfolded-agree f h h' (AnyFun n) a = refl
    unfolded-agree f h h' (Or' s ts) a = λ i. Or' s (unfolded_row-agree f h h' ts a i)
    unfolded-agree f h h' (And' s ts) a = λ i. And' s (unfolded_row-agree f h h' ts a i)
    unfolded-agree f h h' (Not' s ts) a = λ i. Not' s (unfolded_row-agree f h h' ts a i)
    unfolded-agree f h h' (Var n) a = a
    unfolded-agree f h h' (Name' n s ts) a = same n _ _ _ a.0 (unfolded_args-agree n (λ j. j) f h h' ts a.1)

    pub unfolded_row-agree : {m : _} (f h h' : Substitution) (ts : Row_of-Term m) → all_bare_row P (λ i. h i ≡ h' i) o ts → unfolded_row e f h ts ≡ unfolded_row e' f h' ts
    unfolded_row-agree f h h' end_of-Term a = refl
    unfolded_row-agree f h h' (more_of-Term t ts) a = λ i. more_of-Term (unfolded-agree f h h' t a.0 i) (unfolded_row-agree f h h' ts a.1 i)

    pub unfolded_args-agree : {m : _} (n : ℕ) (w : ℕ → ℕ) (f h h' : Substitution) (ts : Row_of-Term m) → all_bare_args P (λ i. h i ≡ h' i) o n w ts → (i : ℕ) → o n (w i) → argument_of (terms_of (unfolded_row e f h ts)) i ≡ argument_of (terms_of (unfolded_row e' f h' ts)) i
    unfolded_args-agree n w f h h' end_of-Term a i k = refl
    unfolded_args-agree n w f h h' (more_of-Term t ts) a zero k = unfolded-agree f h h' t (a.0 k)
    unfolded_args-agree n w f h h' (more_of-Term t ts) a (suc i) k = unfolded_args-agree n (λ j. w (suc j)) f h h' ts a.1 i k

-- weaker facts of what stands unfolded
module _ (P P' : ℕ → Type 0) (V V' : ℕ → Type 0) (o : ℕ → ℕ → Type 0) (p : (n : ℕ) → P n → P' n) (v : (n : ℕ) → V n → V' n) where
  mutual
    pub all_bare-map : (t : Term) → all_bare P V o t → all_bare P' V' o t
    all_bare-map Any a = tt
    all_bare-map None a = tt
    all_bare-map (Ints x y) a = tt
    all_bare-map (AtomLit x) a = tt
    all_bare-map AnyAtom a = tt
    all_bare-map Nil a = tt
    all_bare-map (Cons' s x t y) a = tt
    all_bare-map (Tuple' s ts) a = tt
    all_bare-map AnyTuple a = tt
    all_bare-map (Map' s fs r q) a = tt
    all_bare-map (Fun' s ts t x) a = tt
    all_bare-map (AnyFun n) a = tt
    all_bare-map (Or' s ts) a = all_bare_row-map ts a
    all_bare-map (And' s ts) a = all_bare_row-map ts a
    all_bare-map (Not' s ts) a = all_bare_row-map ts a
    all_bare-map (Var n) a = v n a
    all_bare-map (Name' n s ts) a = (p n a.0, all_bare_args-map n (λ j. j) ts a.1)

    pub all_bare_row-map : {m : _} (ts : Row_of-Term m) → all_bare_row P V o ts → all_bare_row P' V' o ts
    all_bare_row-map end_of-Term a = tt
    all_bare_row-map (more_of-Term t ts) a = (all_bare-map t a.0, all_bare_row-map ts a.1)

    pub all_bare_args-map : {m : _} (n : ℕ) (w : ℕ → ℕ) (ts : Row_of-Term m) → all_bare_args P V o n w ts → all_bare_args P' V' o n w ts
    all_bare_args-map n w end_of-Term a = tt
    all_bare_args-map n w (more_of-Term t ts) a = ((λ k. all_bare-map t (a.0 k)), all_bare_args-map n (λ j. w (suc j)) ts a.1)

pub body-eq : (o : Option Def) (n : ℕ) (t : Term) → body_of o n ≡ Some t → (d : Def) × (o ≡ Some d) × (d.body ≡ t) × (n ≡ d.params)
body-eq Nothing n t e = absurd (cc)
body-eq (Some d) n t e = go (nat_eq d.params n) refl e
  where
    some_inj : Some d.body ≡ Some t → d.body ≡ t
    some_inj q = cc

    go : (b : Bool) → nat_eq d.params n ≡ b → (if b then Some d.body else Nothing) ≡ Some t → (d' : Def) × (Some d ≡ Some d') × (d'.body ≡ t) × (n ≡ d'.params)
    go true p q = (d, refl, some_inj q, sym (eqb-true d.params n p))
    go false p q = absurd (cc)

pub name_unfolded-undefined : (defs : List Def) (k n : ℕ) (ps hs : List Term) → ((def : Def) → slice_get defs n ≡ Some def → def.params ≡ length ps → ⊥) → name_unfolded defs k n ps hs ≡ None
name_unfolded-undefined defs zero n ps hs h = refl
name_unfolded-undefined defs (suc k) n ps hs h = go (body_of (slice_get defs n) (length ps)) refl
  where
    go : (b : Option Term) → body_of (slice_get defs n) (length ps) ≡ b → or_none b (unfolded_in (name_unfolded defs k) (argument_of ps) (argument_of hs)) ≡ None
    go Nothing e = refl
    go (Some t) e =
        let q : (d : Def) × (slice_get defs n ≡ Some d) × (d.body ≡ t) × (length ps ≡ d.params) = body-eq (slice_get defs n) (length ps) t e in
        absurd (h q.0 q.1 (sym q.3))

module _ (defs : List Def) (rank : ℕ → ℕ) (o : ℕ → ℕ → Type 0) (ranked : Ranked defs rank o) where
  -- one more level of definitions changes nothing
  pub name_unfolded-stable : (k : ℕ) (m : ℕ) (ps hs hs' : List Term) → rank m < k → ((i : ℕ) → o m i → argument_of hs i ≡ argument_of hs' i) → name_unfolded defs k m ps hs ≡ name_unfolded defs (suc k) m ps hs'
  name_unfolded-stable zero m ps hs hs' l a = absurd (omega arith)
  name_unfolded-stable (suc k) m ps hs hs' l a = go (name_unfolded-stable k) (body_of (slice_get defs m) (length ps)) refl
    where
      go : ((m' : ℕ) (qs ks ks' : List Term) → rank m' < k → ((i : ℕ) → o m' i → argument_of ks i ≡ argument_of ks' i) → name_unfolded defs k m' qs ks ≡ name_unfolded defs (suc k) m' qs ks') → (b : Option Term) → body_of (slice_get defs m) (length ps) ≡ b → or_none b (unfolded_in (name_unfolded defs k) (argument_of ps) (argument_of hs)) ≡ or_none b (unfolded_in (name_unfolded defs (suc k)) (argument_of ps) (argument_of hs'))
      go levels_below Nothing e = refl
      go levels_below (Some t) e =
          let q : (d : Def) × (slice_get defs m ≡ Some d) × (d.body ≡ t) × (length ps ≡ d.params) = body-eq (slice_get defs m) (length ps) t e in
          let b : all_bare (λ m'. rank m' < rank m) (o m) o t = rw q.2 at (ranked.bodies m q.0 q.1) in
          unfolded-agree (λ m'. rank m' < k) o (name_unfolded defs k) (name_unfolded defs (suc k)) levels_below (argument_of ps) (argument_of hs) (argument_of hs') t
          (all_bare-map (λ m'. rank m' < rank m) (λ m'. rank m' < k) (o m) (λ i. argument_of hs i ≡ argument_of hs' i) o (λ m' h. omega arith) a t b)

  body-argument_of : (n : ℕ) (d : Def) (l : ℕ) → slice_get defs n ≡ Some d → l ≡ d.params → body_of (slice_get defs n) l ≡ Some d.body
  body-argument_of n d l e q = rw (e, q) (go (nat_eq d.params d.params) (eq-eqb d.params d.params refl))
    where
      go : (b : Bool) → b ≡ true → (if b then Some d.body else Nothing) ≡ Some d.body
      go true q = refl
      go false q = absurd (cc)

  argument-unfolded : {m : _} (e : NameUnfolding) (ts : Row_of-Term m) (i : ℕ) → argument_of (terms_of (unfolded_row e Var Var ts)) i ≡ unfolded_in e Var Var (argument_of (terms_of ts) i)
  argument-unfolded e end_of-Term i = refl
  argument-unfolded e (more_of-Term t ts) zero = refl
  argument-unfolded e (more_of-Term t ts) (suc i) = argument-unfolded e ts i

  -- a name unfolds as its body with the arguments put in
  pub unfolded-name : {m : _} (n : ℕ) (ts : Row_of-Term m) (d : Def) → slice_get defs n ≡ Some d → length (terms_of ts) ≡ d.params → name_unfolded defs (length defs) n (terms_of (replaced_row Var ts)) (terms_of (unfolded_row (name_unfolded defs (length defs)) Var Var ts)) ≡ unfolded defs (replaced (argument_of (terms_of ts)) d.body)
  unfolded-name n ts d e q =
      let E : NameUnfolding = name_unfolded defs (length defs) in
      let hs : List Term = terms_of (unfolded_row E Var Var ts) in
      let L : List Term = terms_of ts in
      let step : name_unfolded defs (length defs) n L hs ≡ name_unfolded defs (suc (length defs)) n L hs = name_unfolded-stable (length defs) n L hs hs (ranked.bounded n) (λ i k. refl) in
      let into : name_unfolded defs (suc (length defs)) n L hs ≡ unfolded_in E (argument_of L) (argument_of hs) d.body = ap (λ b. or_none b (unfolded_in E (argument_of L) (argument_of hs))) (body-argument_of n d (length L) e q) in
      let plain : (i : ℕ) → argument_of L i ≡ replaced Var (argument_of L i) = λ i. sym (replaced-id (argument_of L i)) in
      ap (λ r. name_unfolded defs (length defs) n (terms_of r) hs) (replaced_row-id ts)
      ∙ (step ∙ (into ∙ ((λ j. unfolded_in E (λ i. plain i j) (λ i. argument-unfolded E ts i j) d.body) ∙ sym (unfolded-replaced E Var Var (argument_of L) d.body))))
