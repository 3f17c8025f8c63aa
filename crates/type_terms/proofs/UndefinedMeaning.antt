-- There is no undefined name exactly where each name is defined.
use Rattle.std.proofs.Common.{◌≡◌, refl, sym, ◌∙◌, ap, subst, ℕ, List, [], ◌∷◌, ◌++◌, length, Bool, true, false, ⊎_elim, eq-eqb}
use Rattle.std.specs.Prelude.{Option, Some, None as Nothing, slice_get, nat_eq, if◌then◌else◌}
use Rattle.std.specs.List.{Contains}
use Rattle.std.proofs.lemmas.List.Elements.{Contains-append_cases, Contains-append_left, Contains-append_right}
use Rattle.type_terms.specs.declared.term.Def.{Def}
use Rattle.type_terms.specs.declared.term.Field.{Field}
use Rattle.type_terms.specs.declared.term.Term.{Term, out-Term, roll-Term, roll-out-Term, Name}
use Rattle.type_terms.specs.declared.term.Term.TheOpen as F
use Rattle.type_terms.specs.declared.term.Term.TheViews as Views
use Rattle.type_terms.specs.Parts.{layer_children, field_terms, rest_terms, IsPart, itself, in_child}
use Rattle.type_terms.specs.Definitions.{NamesAreDefined}
use Rattle.type_terms.specs.Unfolding.{body_of}
use Rattle.type_terms.specs.Undefined.{or_else, without_body, undefined_name, undefined_in, undefined_in_terms, undefined_in_fields, undefined_in_rest, undefined_in_bodies, undefined_among}
use Rattle.type_terms.proofs.Contained.{contains-none, contains-cases, contains-first, contains-later}
use Rattle.type_terms.proofs.Induction.{by-children}
use Rattle.type_terms.proofs.UnfoldingLaws.{body-eq}
use Rattle.type_terms.proofs.UndefinedLaws as Laws

both-none : (a b : Option ℕ) → or_else a b ≡ Nothing → (a ≡ Nothing) × (b ≡ Nothing)
both-none Nothing b e = (refl, e)
both-none (Some n) b e = absurd (cc)

none-both : (a b : Option ℕ) → a ≡ Nothing → b ≡ Nothing → or_else a b ≡ Nothing
none-both Nothing b e q = q
none-both (Some n) b e q = absurd (cc)

module _ (defs : List Def) where
  None-in : Term → Type 0
  None-in t = undefined_in defs t ≡ Nothing

  terms-none : (ts : List Term) (c : Term) → undefined_in_terms defs ts ≡ Nothing → Contains ts c → None-in c
  unfolding None-in
  terms-none [] c e k = absurd (contains-none c k)
  terms-none (t ∷ ts) c e k =
      let q : (undefined_in defs t ≡ Nothing) × (undefined_in_terms defs ts ≡ Nothing) = both-none (undefined_in defs t) (undefined_in_terms defs ts) e in
      ⊎_elim (λ (p : t ≡ c). subst (λ (x : Term). undefined_in defs x ≡ Nothing) p q.0) (λ k'. terms-none ts c q.1 k') (contains-cases t c ts k)

  fields-none : (fs : List Field) (c : Term) → undefined_in_fields defs fs ≡ Nothing → Contains (field_terms fs) c → None-in c
  unfolding None-in
  fields-none [] c e k = absurd (contains-none c k)
  fields-none (f ∷ fs) c e k =
      let q : (undefined_in defs f.term ≡ Nothing) × (undefined_in_fields defs fs ≡ Nothing) = both-none (undefined_in defs f.term) (undefined_in_fields defs fs) e in
      ⊎_elim (λ (p : f.term ≡ c). subst (λ (x : Term). undefined_in defs x ≡ Nothing) p q.0) (λ k'. fields-none fs c q.1 k') (contains-cases f.term c (field_terms fs) k)

  rest-none : (r : Option Term) (c : Term) → undefined_in_rest defs r ≡ Nothing → Contains (rest_terms r) c → None-in c
  unfolding None-in
  rest-none Nothing c e k = absurd (contains-none c k)
  rest-none (Some t) c e k = ⊎_elim (λ (p : t ≡ c). subst (λ (x : Term). undefined_in defs x ≡ Nothing) p e) (λ k'. absurd (contains-none c k')) (contains-cases t c [] k)

  one-none : (t c : Term) → undefined_in defs t ≡ Nothing → Contains (t ∷ []) c → None-in c
  unfolding None-in
  one-none t c e k = ⊎_elim (λ (p : t ≡ c). subst (λ (x : Term). undefined_in defs x ≡ Nothing) p e) (λ k'. absurd (contains-none c k')) (contains-cases t c [] k)

  -- a term's law at its level
  at-level : (l t : Term) (a : Option ℕ) → l ≡ t → undefined_in defs t ≡ a → undefined_in defs l ≡ Nothing → a ≡ Nothing
  at-level l t a e q h = sym q ∙ (sym (ap (undefined_in defs) e) ∙ h)

  child-none : (l : F.Term-F Term Field) (c : Term) → Contains (layer_children l) c → undefined_in defs (roll-Term l) ≡ Nothing → None-in c
  child-none F.Any c k e = absurd (contains-none c k)
  child-none F.None c k e = absurd (contains-none c k)
  child-none (F.Ints low high) c k e = absurd (contains-none c k)
  child-none (F.AtomLit name) c k e = absurd (contains-none c k)
  child-none F.AnyAtom c k e = absurd (contains-none c k)
  child-none F.Nil c k e = absurd (contains-none c k)
  child-none (F.Cons s t) c k e =
      let q : (undefined_in defs s ≡ Nothing) × (undefined_in defs t ≡ Nothing) = both-none (undefined_in defs s) (undefined_in defs t) (at-level _ _ _ (Views.rolls-Cons s t) (Laws.undefined-Cons defs s t) e) in
      ⊎_elim (one-none s c q.0) (one-none t c q.1) (Contains-append_cases (s ∷ []) (t ∷ []) c k)
  child-none (F.Tuple ts) c k e = terms-none ts c (at-level _ _ _ (Views.rolls-Tuple ts) (Laws.undefined-Tuple defs ts) e) k
  child-none F.AnyTuple c k e = absurd (contains-none c k)
  child-none (F.Map fs r q) c k e =
      let p : (undefined_in_fields defs fs ≡ Nothing) × (or_else (undefined_in_rest defs r) (undefined_in_rest defs q) ≡ Nothing) = both-none (undefined_in_fields defs fs) (or_else (undefined_in_rest defs r) (undefined_in_rest defs q)) (at-level _ _ _ (Views.rolls-Map fs r q) (Laws.undefined-Map defs fs r q) e) in
      let p' : (undefined_in_rest defs r ≡ Nothing) × (undefined_in_rest defs q ≡ Nothing) = both-none (undefined_in_rest defs r) (undefined_in_rest defs q) p.1 in
      ⊎_elim (fields-none fs c p.0) (λ k'. ⊎_elim (rest-none r c p'.0) (rest-none q c p'.1) (Contains-append_cases (rest_terms r) (rest_terms q) c k')) (Contains-append_cases (field_terms fs) (rest_terms r ++ rest_terms q) c k)
  child-none (F.Fun ts t) c k e =
      let q : (undefined_in_terms defs ts ≡ Nothing) × (undefined_in defs t ≡ Nothing) = both-none (undefined_in_terms defs ts) (undefined_in defs t) (at-level _ _ _ (Views.rolls-Fun ts t) (Laws.undefined-Fun defs ts t) e) in
      ⊎_elim (terms-none ts c q.0) (one-none t c q.1) (Contains-append_cases ts (t ∷ []) c k)
  child-none (F.AnyFun n) c k e = absurd (contains-none c k)
  child-none (F.Or ts) c k e = terms-none ts c (at-level _ _ _ (Views.rolls-Or ts) (Laws.undefined-Or defs ts) e) k
  child-none (F.And ts) c k e = terms-none ts c (at-level _ _ _ (Views.rolls-And ts) (Laws.undefined-And defs ts) e) k
  child-none (F.Not t) c k e = one-none t c (at-level _ _ _ (Views.rolls-Not t) (Laws.undefined-Not defs t) e) k
  child-none (F.Var n) c k e = absurd (contains-none c k)
  child-none (F.Name n ts) c k e = terms-none ts c (both-none (undefined_name defs n (length ts)) (undefined_in_terms defs ts) (at-level _ _ _ (Views.rolls-Name n ts) (Laws.undefined-Name defs n ts) e)).1 k

  part-none : (part whole : Term) → IsPart part whole → None-in whole → None-in part
  unfolding None-in
  part-none _ _ (itself t) e = e
  part-none _ _ (in_child part child whole k b) e = part-none part child b (child-none (out-Term whole) child k (ap (undefined_in defs) (roll-out-Term whole) ∙ e))

  body-there : (n count : ℕ) → undefined_name defs n count ≡ Nothing → (def : Def) × (slice_get defs n ≡ Some def) × (def.params ≡ count)
  body-there n count e = go (body_of (slice_get defs n) count) refl e
    where
      go : (b : Option Term) → body_of (slice_get defs n) count ≡ b → without_body b n ≡ Nothing → (def : Def) × (slice_get defs n ≡ Some def) × (def.params ≡ count)
      go Nothing p q = absurd (cc)
      go (Some body) p q = let r : (d : Def) × (slice_get defs n ≡ Some d) × (d.body ≡ body) × (count ≡ d.params) = body-eq (slice_get defs n) count body p in (r.0, r.1, sym r.3)

  pub there-body : (n count : ℕ) (def : Def) → slice_get defs n ≡ Some def → def.params ≡ count → undefined_name defs n count ≡ Nothing
  there-body n count def e q = ap (λ o. without_body (body_of o count) n) e ∙ go (nat_eq def.params count) (eq-eqb def.params count q)
    where
      go : (b : Bool) → b ≡ true → without_body (if b then Some def.body else Nothing) n ≡ Nothing
      go true p = refl
      go false p = absurd (cc)

  pub none-defined : (t : Term) → undefined_in defs t ≡ Nothing → NamesAreDefined defs t
  unfolding None-in
  none-defined t e n args p = body-there n (length args) (both-none (undefined_name defs n (length args)) (undefined_in_terms defs args) (sym (Laws.undefined-Name defs n args) ∙ part-none (Name n args) t p e)).0

  none-terms : (ts : List Term) → ((c : Term) → Contains ts c → None-in c) → undefined_in_terms defs ts ≡ Nothing
  unfolding None-in
  none-terms [] h = refl
  none-terms (t ∷ ts) h = none-both (undefined_in defs t) (undefined_in_terms defs ts) (h t (contains-first t ts)) (none-terms ts (λ c k. h c (contains-later t c ts k)))

  none-fields : (fs : List Field) → ((c : Term) → Contains (field_terms fs) c → None-in c) → undefined_in_fields defs fs ≡ Nothing
  unfolding None-in
  none-fields [] h = refl
  none-fields (f ∷ fs) h = none-both (undefined_in defs f.term) (undefined_in_fields defs fs) (h f.term (contains-first f.term (field_terms fs))) (none-fields fs (λ c k. h c (contains-later f.term c (field_terms fs) k)))

  none-rest : (r : Option Term) → ((c : Term) → Contains (rest_terms r) c → None-in c) → undefined_in_rest defs r ≡ Nothing
  unfolding None-in
  none-rest Nothing h = refl
  none-rest (Some t) h = h t (contains-first t [])

  to-level : (l t : Term) (a : Option ℕ) → l ≡ t → undefined_in defs t ≡ a → a ≡ Nothing → undefined_in defs l ≡ Nothing
  to-level l t a e q h = ap (undefined_in defs) e ∙ (q ∙ h)

  level-none : (l : F.Term-F Term Field) → ((c : Term) → Contains (layer_children l) c → None-in c) → ((n : ℕ) (args : List Term) → roll-Term l ≡ Name n args → undefined_name defs n (length args) ≡ Nothing) → undefined_in defs (roll-Term l) ≡ Nothing
  unfolding None-in
  level-none F.Any h g = to-level _ _ _ Views.rolls-Any (Laws.undefined-Any defs) refl
  level-none F.None h g = to-level _ _ _ Views.rolls-None (Laws.undefined-None defs) refl
  level-none (F.Ints low high) h g = to-level _ _ _ (Views.rolls-Ints low high) (Laws.undefined-Ints defs low high) refl
  level-none (F.AtomLit name) h g = to-level _ _ _ (Views.rolls-AtomLit name) (Laws.undefined-AtomLit defs name) refl
  level-none F.AnyAtom h g = to-level _ _ _ Views.rolls-AnyAtom (Laws.undefined-AnyAtom defs) refl
  level-none F.Nil h g = to-level _ _ _ Views.rolls-Nil (Laws.undefined-Nil defs) refl
  level-none (F.Cons s t) h g = to-level _ _ _ (Views.rolls-Cons s t) (Laws.undefined-Cons defs s t) (none-both _ _ (h s (contains-first s (t ∷ []))) (h t (contains-later s t (t ∷ []) (contains-first t []))))
  level-none (F.Tuple ts) h g = to-level _ _ _ (Views.rolls-Tuple ts) (Laws.undefined-Tuple defs ts) (none-terms ts h)
  level-none F.AnyTuple h g = to-level _ _ _ Views.rolls-AnyTuple (Laws.undefined-AnyTuple defs) refl
  level-none (F.Map fs r q) h g =
      to-level _ _ _ (Views.rolls-Map fs r q) (Laws.undefined-Map defs fs r q) (none-both _ _ (none-fields fs (λ c k. h c (Contains-append_left (field_terms fs) (rest_terms r ++ rest_terms q) c k)))
      (none-both _ _ (none-rest r (λ c k. h c (Contains-append_right (field_terms fs) (rest_terms r ++ rest_terms q) c (Contains-append_left (rest_terms r) (rest_terms q) c k))))
      (none-rest q (λ c k. h c (Contains-append_right (field_terms fs) (rest_terms r ++ rest_terms q) c (Contains-append_right (rest_terms r) (rest_terms q) c k))))))
  level-none (F.Fun ts t) h g = to-level _ _ _ (Views.rolls-Fun ts t) (Laws.undefined-Fun defs ts t) (none-both _ _ (none-terms ts (λ c k. h c (Contains-append_left ts (t ∷ []) c k))) (h t (Contains-append_right ts (t ∷ []) t (contains-first t []))))
  level-none (F.AnyFun n) h g = to-level _ _ _ (Views.rolls-AnyFun n) (Laws.undefined-AnyFun defs n) refl
  level-none (F.Or ts) h g = to-level _ _ _ (Views.rolls-Or ts) (Laws.undefined-Or defs ts) (none-terms ts h)
  level-none (F.And ts) h g = to-level _ _ _ (Views.rolls-And ts) (Laws.undefined-And defs ts) (none-terms ts h)
  level-none (F.Not t) h g = to-level _ _ _ (Views.rolls-Not t) (Laws.undefined-Not defs t) (h t (contains-first t []))
  level-none (F.Var n) h g = to-level _ _ _ (Views.rolls-Var n) (Laws.undefined-Var defs n) refl
  level-none (F.Name n ts) h g = to-level _ _ _ (Views.rolls-Name n ts) (Laws.undefined-Name defs n ts) (none-both _ _ (g n ts (Views.rolls-Name n ts)) (none-terms ts h))

  pub defined-none : (t : Term) → NamesAreDefined defs t → undefined_in defs t ≡ Nothing
  unfolding None-in
  defined-none = by-children (λ t. NamesAreDefined defs t → undefined_in defs t ≡ Nothing) (λ t ih names.
      sym (ap (undefined_in defs) (roll-out-Term t))
      ∙ level-none (out-Term t) (λ c k. ih c k (λ n args p. names n args (in_child (Name n args) c t k p)))
      (λ n args e. let p : IsPart (Name n args) t = subst (λ (w : Term). IsPart (Name n args) w) (sym e ∙ roll-out-Term t) (itself (Name n args)) in let d : (def : Def) × (slice_get defs n ≡ Some def) × (def.params ≡ length args) = names n args p in there-body n (length args) d.0 d.1 d.2))

  bodies-none : (more : List Def) → undefined_in_bodies defs more ≡ Nothing → (def : Def) → Contains more def → NamesAreDefined defs def.body
  bodies-none [] e def k = absurd (contains-none def k)
  bodies-none (d ∷ more) e def k =
      let q : (undefined_in defs d.body ≡ Nothing) × (undefined_in_bodies defs more ≡ Nothing) = both-none (undefined_in defs d.body) (undefined_in_bodies defs more) e in
      ⊎_elim (λ (p : d ≡ def). subst (λ (x : Def). NamesAreDefined defs x.body) p (none-defined d.body q.0)) (λ k'. bodies-none more q.1 def k') (contains-cases d def more k)

  none-bodies : (more : List Def) → ((def : Def) → Contains more def → NamesAreDefined defs def.body) → undefined_in_bodies defs more ≡ Nothing
  none-bodies [] h = refl
  none-bodies (d ∷ more) h = none-both (undefined_in defs d.body) (undefined_in_bodies defs more) (defined-none d.body (h d (contains-first d more))) (none-bodies more (λ def k. h def (contains-later d def more k)))

  pub among-none : undefined_among defs ≡ Nothing → (def : Def) → Contains defs def → NamesAreDefined defs def.body
  among-none e = bodies-none defs e

  pub none-among : ((def : Def) → Contains defs def → NamesAreDefined defs def.body) → undefined_among defs ≡ Nothing
  none-among h = none-bodies defs h
