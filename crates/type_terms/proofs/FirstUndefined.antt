-- The first undefined name stands in a body, and the names of the earlier bodies are defined.
use Rattle.std.proofs.Common.{◌≡◌, refl, sym, ◌∙◌, ap, subst, ℕ, zero, suc, ◌<◌, List, [], ◌∷◌, ◌++◌, length, ◌⊎◌, inl, inr, ⊎_elim, arith}
use Rattle.std.specs.Prelude.{Option, Some, None as Nothing, slice_get}
use Rattle.std.specs.List.{Contains}
use Rattle.std.proofs.lemmas.List.Elements.{Contains-append_left, Contains-append_right}
use Rattle.type_terms.specs.declared.term.Def.{Def}
use Rattle.type_terms.specs.declared.term.Field.{Field}
use Rattle.type_terms.specs.declared.term.Term.{Term, out-Term, roll-Term, roll-out-Term, Name}
use Rattle.type_terms.specs.declared.term.Term.TheOpen as F
use Rattle.type_terms.specs.declared.term.Term.TheViews as Views
use Rattle.type_terms.specs.Parts.{layer_children, children, field_terms, rest_terms, IsPart, itself, in_child}
use Rattle.type_terms.specs.Definitions.{NamesAreDefined}
use Rattle.type_terms.specs.Unfolding.{body_of}
use Rattle.type_terms.specs.Undefined.{or_else, without_body, undefined_name, undefined_in, undefined_in_terms, undefined_in_fields, undefined_in_rest, undefined_in_bodies, undefined_among}
use Rattle.type_terms.proofs.Contained.{contains-first, contains-later}
use Rattle.type_terms.proofs.Induction.{by-children}
use Rattle.type_terms.proofs.UndefinedMeaning.{there-body, none-defined}
use Rattle.type_terms.proofs.UndefinedLaws as Laws

first-or-later : (a b : Option ℕ) (n : ℕ) → or_else a b ≡ Some n → (a ≡ Some n) ⊎ (b ≡ Some n)
first-or-later Nothing b n e = inr e
first-or-later (Some m) b n e = inl e

none-some : {A : Type 0} (n : ℕ) → Nothing ≡ Some n → A
none-some n e = absurd (cc)

without-body : (b : Option Term) (m n : ℕ) → without_body b m ≡ Some n → m ≡ n
without-body Nothing m n e = cc
without-body (Some body) m n e = none-some n e

module _ (defs : List Def) where
  -- a term of a list in which there is a first undefined name
  abbrev Among : ℕ → List Term → Type 0
  Among n ts = (c : Term) × Contains ts c × (undefined_in defs c ≡ Some n)

  -- an undefined name in a term
  abbrev Found : ℕ → Term → Type 0
  Found n t = (arguments : List Term) × IsPart (Name n arguments) t × (undefined_name defs n (length arguments) ≡ Some n)

  terms-some : (n : ℕ) (ts : List Term) → undefined_in_terms defs ts ≡ Some n → Among n ts
  terms-some n [] e = none-some n e
  terms-some n (t ∷ ts) e =
      ⊎_elim (λ (p : undefined_in defs t ≡ Some n). (t, contains-first t ts, p)) (λ (q : undefined_in_terms defs ts ≡ Some n). let r : Among n ts = terms-some n ts q in (r.0, contains-later t r.0 ts r.1, r.2))
      (first-or-later (undefined_in defs t) (undefined_in_terms defs ts) n e)

  fields-some : (n : ℕ) (fs : List Field) → undefined_in_fields defs fs ≡ Some n → Among n (field_terms fs)
  fields-some n [] e = none-some n e
  fields-some n (f ∷ fs) e =
      ⊎_elim (λ (p : undefined_in defs f.term ≡ Some n). (f.term, contains-first f.term (field_terms fs), p)) (λ (q : undefined_in_fields defs fs ≡ Some n). let r : Among n (field_terms fs) = fields-some n fs q in (r.0, contains-later f.term r.0 (field_terms fs) r.1, r.2))
      (first-or-later (undefined_in defs f.term) (undefined_in_fields defs fs) n e)

  rest-some : (n : ℕ) (r : Option Term) → undefined_in_rest defs r ≡ Some n → Among n (rest_terms r)
  rest-some n Nothing e = none-some n e
  rest-some n (Some t) e = (t, contains-first t [], e)

  left : (n : ℕ) (xs ys : List Term) → Among n xs → Among n (xs ++ ys)
  left n xs ys a = (a.0, Contains-append_left xs ys a.0 a.1, a.2)

  right : (n : ℕ) (xs ys : List Term) → Among n ys → Among n (xs ++ ys)
  right n xs ys a = (a.0, Contains-append_right xs ys a.0 a.1, a.2)

  -- a child with a first undefined name, or the term itself is one
  abbrev Level : ℕ → F.Term-F Term Field → Type 0
  Level n l = Among n (layer_children l) ⊎ ((arguments : List Term) × (roll-Term l ≡ Name n arguments) × (undefined_name defs n (length arguments) ≡ Some n))

  -- a term's law at its level
  at-level : (l t : Term) (a : Option ℕ) (n : ℕ) → l ≡ t → undefined_in defs t ≡ a → undefined_in defs l ≡ Some n → a ≡ Some n
  at-level l t a n e q h = sym q ∙ (sym (ap (undefined_in defs) e) ∙ h)

  leaf : {A : Type 0} (n : ℕ) (l t : Term) → l ≡ t → undefined_in defs t ≡ Nothing → undefined_in defs l ≡ Some n → A
  leaf n l t e q h = none-some n (at-level l t Nothing n e q h)

  level-some : (n : ℕ) (l : F.Term-F Term Field) → undefined_in defs (roll-Term l) ≡ Some n → Level n l
  level-some n F.Any e = leaf n _ _ Views.rolls-Any (Laws.undefined-Any defs) e
  level-some n F.None e = leaf n _ _ Views.rolls-None (Laws.undefined-None defs) e
  level-some n (F.Ints low high) e = leaf n _ _ (Views.rolls-Ints low high) (Laws.undefined-Ints defs low high) e
  level-some n (F.AtomLit name) e = leaf n _ _ (Views.rolls-AtomLit name) (Laws.undefined-AtomLit defs name) e
  level-some n F.AnyAtom e = leaf n _ _ Views.rolls-AnyAtom (Laws.undefined-AnyAtom defs) e
  level-some n F.Nil e = leaf n _ _ Views.rolls-Nil (Laws.undefined-Nil defs) e
  level-some n (F.Cons s t) e =
      inl (⊎_elim (λ (p : undefined_in defs s ≡ Some n). (s, contains-first s (t ∷ []), p)) (λ (p : undefined_in defs t ≡ Some n). (t, contains-later s t (t ∷ []) (contains-first t []), p))
      (first-or-later (undefined_in defs s) (undefined_in defs t) n (at-level _ _ _ n (Views.rolls-Cons s t) (Laws.undefined-Cons defs s t) e)))
  level-some n (F.Tuple ts) e = inl (terms-some n ts (at-level _ _ _ n (Views.rolls-Tuple ts) (Laws.undefined-Tuple defs ts) e))
  level-some n F.AnyTuple e = leaf n _ _ Views.rolls-AnyTuple (Laws.undefined-AnyTuple defs) e
  level-some n (F.Map fs r q) e =
      inl (⊎_elim (λ (p : undefined_in_fields defs fs ≡ Some n). left n (field_terms fs) (rest_terms r ++ rest_terms q) (fields-some n fs p))
      (λ (p : or_else (undefined_in_rest defs r) (undefined_in_rest defs q) ≡ Some n). right n (field_terms fs) (rest_terms r ++ rest_terms q)
      (⊎_elim (λ (o : undefined_in_rest defs r ≡ Some n). left n (rest_terms r) (rest_terms q) (rest-some n r o)) (λ (o : undefined_in_rest defs q ≡ Some n). right n (rest_terms r) (rest_terms q) (rest-some n q o)) (first-or-later (undefined_in_rest defs r) (undefined_in_rest defs q) n p)))
      (first-or-later (undefined_in_fields defs fs) (or_else (undefined_in_rest defs r) (undefined_in_rest defs q)) n (at-level _ _ _ n (Views.rolls-Map fs r q) (Laws.undefined-Map defs fs r q) e)))
  level-some n (F.Fun ts t) e =
      inl (⊎_elim (λ (p : undefined_in_terms defs ts ≡ Some n). left n ts (t ∷ []) (terms-some n ts p)) (λ (p : undefined_in defs t ≡ Some n). right n ts (t ∷ []) (t, contains-first t [], p))
      (first-or-later (undefined_in_terms defs ts) (undefined_in defs t) n (at-level _ _ _ n (Views.rolls-Fun ts t) (Laws.undefined-Fun defs ts t) e)))
  level-some n (F.AnyFun arity) e = leaf n _ _ (Views.rolls-AnyFun arity) (Laws.undefined-AnyFun defs arity) e
  level-some n (F.Or ts) e = inl (terms-some n ts (at-level _ _ _ n (Views.rolls-Or ts) (Laws.undefined-Or defs ts) e))
  level-some n (F.And ts) e = inl (terms-some n ts (at-level _ _ _ n (Views.rolls-And ts) (Laws.undefined-And defs ts) e))
  level-some n (F.Not t) e = inl (t, contains-first t [], at-level _ _ _ n (Views.rolls-Not t) (Laws.undefined-Not defs t) e)
  level-some n (F.Var m) e = leaf n _ _ (Views.rolls-Var m) (Laws.undefined-Var defs m) e
  level-some n (F.Name m ts) e =
      ⊎_elim (λ (p : undefined_name defs m (length ts) ≡ Some n). let z : m ≡ n = without-body (body_of (slice_get defs m) (length ts)) m n p in
      inr (ts, subst (λ k. roll-Term (F.Name m ts) ≡ Name k ts) z (Views.rolls-Name m ts), subst (λ k. undefined_name defs k (length ts) ≡ Some n) z p))
      (λ (p : undefined_in_terms defs ts ≡ Some n). inl (terms-some n ts p))
      (first-or-later (undefined_name defs m (length ts)) (undefined_in_terms defs ts) n (at-level _ _ _ n (Views.rolls-Name m ts) (Laws.undefined-Name defs m ts) e))

  found : (n : ℕ) (t : Term) → undefined_in defs t ≡ Some n → Found n t
  found n = by-children (λ t. undefined_in defs t ≡ Some n → Found n t) (λ t ih e.
      ⊎_elim (λ (k : Among n (children t)). let r : Found n k.0 = ih k.0 k.1 k.2 in (r.0, in_child (Name n r.0) k.0 t k.1 r.1, r.2))
      (λ (k : (arguments : List Term) × (roll-Term (out-Term t) ≡ Name n arguments) × (undefined_name defs n (length arguments) ≡ Some n)). (k.0, subst (λ (w : Term). IsPart (Name n k.0) w) (sym k.1 ∙ roll-out-Term t) (itself (Name n k.0)), k.2))
      (level-some n (out-Term t) (ap (undefined_in defs) (roll-out-Term t) ∙ e)))

  -- the body with the first undefined name of a list
  abbrev First : List Def → ℕ → Type 0
  First more n = (k : ℕ) × (def : Def) × (slice_get more k ≡ Some def) × (undefined_in defs def.body ≡ Some n) × ((m : ℕ) (earlier : Def) → m < k → slice_get more m ≡ Some earlier → NamesAreDefined defs earlier.body)

  later : (d : Def) (more : List Def) (n : ℕ) → undefined_in defs d.body ≡ Nothing → First more n → First (d ∷ more) n
  later d more n e r = (suc r.0, r.1, r.2, r.3, before)
    where
      before : (m : ℕ) (earlier : Def) → m < suc r.0 → slice_get (d ∷ more) m ≡ Some earlier → NamesAreDefined defs earlier.body
      before zero earlier l g = subst (λ (x : Def). NamesAreDefined defs x.body) (same g) (none-defined defs d.body e)
        where
          same : Some d ≡ Some earlier → d ≡ earlier
          same q = cc
      before (suc m) earlier l g = r.4 m earlier (omega arith) g

  first-body : (more : List Def) (n : ℕ) → undefined_in_bodies defs more ≡ Some n → First more n
  first-body [] n e = none-some n e
  first-body (d ∷ more) n e = go (undefined_in defs d.body) (λ h. first-body more n h) refl e
    where
      go : (a : Option ℕ) → (undefined_in_bodies defs more ≡ Some n → First more n) → undefined_in defs d.body ≡ a → or_else a (undefined_in_bodies defs more) ≡ Some n → First (d ∷ more) n
      go (Some m) rest q h = (0, d, refl, q ∙ h, λ j earlier l g. absurd (omega arith))
      go Nothing rest q h = later d more n q (rest h)

  pub first-undefined : (n : ℕ) → undefined_among defs ≡ Some n →
      (k : ℕ) × (def : Def) × (arguments : List Term) × (slice_get defs k ≡ Some def) × IsPart (Name n arguments) def.body × ((other : Def) → slice_get defs n ≡ Some other → other.params ≡ length arguments → ⊥) × ((m : ℕ) (earlier : Def) → m < k → slice_get defs m ≡ Some earlier → NamesAreDefined defs earlier.body)
  first-undefined n e =
      let r : First defs n = first-body defs n e in
      let f : Found n r.1.body = found n r.1.body r.3 in
      (r.0, r.1, f.0, r.2, f.1, λ other g q. none-some n (sym (there-body defs n (length f.0) other g q) ∙ f.2), r.4)
