-- What stands in a term under so many `Not` stands there too once variables are replaced, and in what the term stands in.
use Rattle.std.proofs.Common.{◌≡◌, refl, sym, ◌∙◌, ap, subst, ℕ, zero, suc, List, [], ◌∷◌, ◌++◌, map, Bool, true, false, cond, ⊎_elim}
use Rattle.std.specs.Prelude.{Option, Some, None as Nothing, not}
use Rattle.std.specs.Option.{option_map}
use Rattle.std.specs.List.{Contains}
use Rattle.std.proofs.lemmas.List.Elements.{Contains-append_cases, Contains-append_left, Contains-append_right}
use Rattle.type_terms.specs.declared.term.Def.{Def}
use Rattle.type_terms.specs.declared.term.Field.{Field}
use Rattle.type_terms.specs.declared.term.Term.{Term, out-Term, roll-Term, roll-out-Term, Cons, Tuple, Map, Fun, Or, And}
use Rattle.type_terms.specs.declared.term.Term.TheOpen as F
use Rattle.type_terms.specs.declared.term.Term.TheViews as Views
use Rattle.type_terms.specs.Parts.{field_terms, rest_terms, layer_positive_children, positive_children}
use Rattle.type_terms.specs.Replacement.{Substitution, replaced, replaced_by, argument_of, field_replaced}
use Rattle.type_terms.specs.Signs.{StandsUnder, itself, in_child, in_not, in_body}
use Rattle.type_terms.proofs.Contained.{contains-none, contains-cases, contains-first, contains-later}
use Rattle.type_terms.proofs.ReplacementLaws.{replaced-replaced}
use Rattle.type_terms.proofs.ReplacementParts as Parts

-- the sign of a part, by its sign in another part and that one's
abbrev pub both : Bool → Bool → Bool
both outer inner = cond outer (not inner) inner

pub both-not : (outer inner : Bool) → not (both outer inner) ≡ both (not outer) inner
both-not false inner = refl
both-not true true = refl
both-not true false = refl

pub stands-joined : (defs : List Def) (inner outer : Bool) (x y z : Term) → StandsUnder defs inner x y → StandsUnder defs outer y z → StandsUnder defs (both outer inner) x z
stands-joined defs inner _ x _ _ s (itself t) = s
stands-joined defs inner _ x _ _ s (in_child odd part child whole k r) = in_child (both odd inner) x child whole k (stands-joined defs inner odd x part child s r)
stands-joined defs inner _ x _ _ s (in_not odd part negated whole e r) = subst (λ b. StandsUnder defs b x whole) (both-not odd inner) (in_not (both odd inner) x negated whole e (stands-joined defs inner odd x part negated s r))
stands-joined defs inner _ x _ _ s (in_body odd part whole n arguments def e g r) = in_body (both odd inner) x whole n arguments def e g (stands-joined defs inner odd x part (replaced_by arguments def.body) s r)

mapped : (f : Substitution) (ts : List Term) (c : Term) → Contains ts c → Contains (map (replaced f) ts) (replaced f c)
mapped f [] c k = absurd (contains-none c k)
mapped f (t ∷ ts) c k = ⊎_elim (λ (e : t ≡ c). subst (λ (d : Term). Contains (map (replaced f) (t ∷ ts)) (replaced f d)) e (contains-first (replaced f t) (map (replaced f) ts))) (λ k'. contains-later (replaced f t) (replaced f c) (map (replaced f) ts) (mapped f ts c k')) (contains-cases t c ts k)

mapped-fields : (f : Substitution) (fs : List Field) (c : Term) → Contains (field_terms fs) c → Contains (field_terms (map (field_replaced f) fs)) (replaced f c)
mapped-fields f [] c k = absurd (contains-none c k)
mapped-fields f (d ∷ fs) c k = ⊎_elim (λ (e : d.term ≡ c). subst (λ (t : Term). Contains (field_terms (map (field_replaced f) (d ∷ fs))) (replaced f t)) e (contains-first (replaced f d.term) (field_terms (map (field_replaced f) fs)))) (λ k'. contains-later (replaced f d.term) (replaced f c) (field_terms (map (field_replaced f) fs)) (mapped-fields f fs c k')) (contains-cases d.term c (field_terms fs) k)

mapped-rest : (f : Substitution) (r : Option Term) (c : Term) → Contains (rest_terms r) c → Contains (rest_terms (option_map (replaced f) r)) (replaced f c)
mapped-rest f Nothing c k = absurd (contains-none c k)
mapped-rest f (Some t) c k = mapped f (t ∷ []) c k

module _ (f : Substitution) where
  Kept : Term → Term → Type 0
  Kept whole c = Contains (positive_children (replaced f whole)) (replaced f c)

  kept-by : (whole t u : Term) (ts : List Term) (c : Term) → whole ≡ t → replaced f t ≡ u → positive_children u ≡ ts → Contains ts (replaced f c) → Kept whole c
  unfolding Kept
  kept-by whole t u ts c e q p k = subst (λ (v : Term). Contains (positive_children v) (replaced f c)) (sym (ap (replaced f) e ∙ q)) (subst (λ (l : List Term). Contains l (replaced f c)) (sym p) k)

  kept-layer : (l : F.Term-F Term Field) (c : Term) → Contains (layer_positive_children l) c → Kept (roll-Term l) c
  kept-layer F.Any c k = absurd (contains-none c k)
  kept-layer F.None c k = absurd (contains-none c k)
  kept-layer (F.Ints low high) c k = absurd (contains-none c k)
  kept-layer (F.AtomLit name) c k = absurd (contains-none c k)
  kept-layer F.AnyAtom c k = absurd (contains-none c k)
  kept-layer F.Nil c k = absurd (contains-none c k)
  kept-layer (F.Cons s t) c k = kept-by _ (Cons s t) (Cons (replaced f s) (replaced f t)) (map (replaced f) (s ∷ t ∷ [])) c (Views.rolls-Cons s t) (Parts.replaced-Cons f s t) (ap layer_positive_children (Views.outs-Cons (replaced f s) (replaced f t))) (mapped f (s ∷ t ∷ []) c k)
  kept-layer (F.Tuple ts) c k = kept-by _ (Tuple ts) (Tuple (map (replaced f) ts)) (map (replaced f) ts) c (Views.rolls-Tuple ts) (Parts.replaced-Tuple f ts) (ap layer_positive_children (Views.outs-Tuple (map (replaced f) ts))) (mapped f ts c k)
  kept-layer F.AnyTuple c k = absurd (contains-none c k)
  kept-layer (F.Map fs r q) c k =
      let fs' : List Field = map (field_replaced f) fs in
      let r' : Option Term = option_map (replaced f) r in
      let q' : Option Term = option_map (replaced f) q in
      kept-by _ (Map fs r q) (Map fs' r' q') (field_terms fs' ++ (rest_terms r' ++ rest_terms q')) c (Views.rolls-Map fs r q) (Parts.replaced-Map f fs r q) (ap layer_positive_children (Views.outs-Map fs' r' q'))
      (⊎_elim (λ k'. Contains-append_left (field_terms fs') (rest_terms r' ++ rest_terms q') (replaced f c) (mapped-fields f fs c k'))
      (λ k'. Contains-append_right (field_terms fs') (rest_terms r' ++ rest_terms q') (replaced f c)
      (⊎_elim (λ k''. Contains-append_left (rest_terms r') (rest_terms q') (replaced f c) (mapped-rest f r c k''))
      (λ k''. Contains-append_right (rest_terms r') (rest_terms q') (replaced f c) (mapped-rest f q c k''))
      (Contains-append_cases (rest_terms r) (rest_terms q) c k')))
      (Contains-append_cases (field_terms fs) (rest_terms r ++ rest_terms q) c k))
  kept-layer (F.Fun ts t) c k =
      kept-by _ (Fun ts t) (Fun (map (replaced f) ts) (replaced f t)) (map (replaced f) ts ++ (replaced f t ∷ [])) c (Views.rolls-Fun ts t) (Parts.replaced-Fun f ts t) (ap layer_positive_children (Views.outs-Fun (map (replaced f) ts) (replaced f t)))
      (⊎_elim (λ k'. Contains-append_left (map (replaced f) ts) (replaced f t ∷ []) (replaced f c) (mapped f ts c k')) (λ k'. Contains-append_right (map (replaced f) ts) (replaced f t ∷ []) (replaced f c) (mapped f (t ∷ []) c k')) (Contains-append_cases ts (t ∷ []) c k))
  kept-layer (F.AnyFun n) c k = absurd (contains-none c k)
  kept-layer (F.Or ts) c k = kept-by _ (Or ts) (Or (map (replaced f) ts)) (map (replaced f) ts) c (Views.rolls-Or ts) (Parts.replaced-Or f ts) (ap layer_positive_children (Views.outs-Or (map (replaced f) ts))) (mapped f ts c k)
  kept-layer (F.And ts) c k = kept-by _ (And ts) (And (map (replaced f) ts)) (map (replaced f) ts) c (Views.rolls-And ts) (Parts.replaced-And f ts) (ap layer_positive_children (Views.outs-And (map (replaced f) ts))) (mapped f ts c k)
  kept-layer (F.Not t) c k = absurd (contains-none c k)
  kept-layer (F.Var n) c k = absurd (contains-none c k)
  kept-layer (F.Name n ts) c k = absurd (contains-none c k)

  kept : (whole c : Term) → Contains (positive_children whole) c → Contains (positive_children (replaced f whole)) (replaced f c)
  unfolding Kept
  kept whole c k = subst (λ (w : Term). Contains (positive_children (replaced f w)) (replaced f c)) (roll-out-Term whole) (kept-layer (out-Term whole) c k)

pub argument-mapped : (f : Substitution) (ts : List Term) (i : ℕ) → argument_of (map (replaced f) ts) i ≡ replaced f (argument_of ts i)
argument-mapped f [] i = refl
argument-mapped f (t ∷ ts) zero = refl
argument-mapped f (t ∷ ts) (suc i) = argument-mapped f ts i

pub replaced-body : (f : Substitution) (ts : List Term) (body : Term) → replaced f (replaced_by ts body) ≡ replaced_by (map (replaced f) ts) body
replaced-body f ts body = replaced-replaced f (argument_of ts) body ∙ sym (λ j. replaced (λ i. argument-mapped f ts i j) body)

pub stands-replaced : (f : Substitution) (defs : List Def) (b : Bool) (part whole : Term) → StandsUnder defs b part whole → StandsUnder defs b (replaced f part) (replaced f whole)
stands-replaced f defs _ _ _ (itself t) = itself (replaced f t)
stands-replaced f defs _ _ _ (in_child odd part child whole k s) = in_child odd (replaced f part) (replaced f child) (replaced f whole) (kept f whole child k) (stands-replaced f defs odd part child s)
stands-replaced f defs _ _ _ (in_not odd part negated whole e s) = in_not odd (replaced f part) (replaced f negated) (replaced f whole) (ap (replaced f) e ∙ Parts.replaced-Not f negated) (stands-replaced f defs odd part negated s)
stands-replaced f defs _ _ _ (in_body odd part whole n arguments def e g s) =
    in_body odd (replaced f part) (replaced f whole) n (map (replaced f) arguments) def (ap (replaced f) e ∙ Parts.replaced-Name f n arguments) g
    (subst (λ (w : Term). StandsUnder defs odd (replaced f part) w) (replaced-body f arguments def.body) (stands-replaced f defs odd part (replaced_by arguments def.body) s))
