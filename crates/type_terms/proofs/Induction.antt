-- Induction on a type term by its children, and a term by its level.
use Rattle.std.proofs.Common.{◌≡◌, ◌∙◌, ap, subst, List, [], ◌∷◌, ◌⊎◌, ⊎_elim}
use Rattle.std.specs.List.{Contains}
use Rattle.std.proofs.lemmas.List.Elements.{Contains-append_cases}
use Rattle.type_terms.specs.declared.term.Field.{Field}
use Rattle.type_terms.specs.declared.term.Term.{Term, Any, None, Ints, AtomLit, AnyAtom, Nil, Cons', Tuple', AnyTuple, Map', Fun', AnyFun, Or', And', Not', Var, Name', Row_of-Term, end_of-Term, more_of-Term, Row_of-Field, end_of-Field, more_of-Field, Held-Term-Map-1, Term-Map-1-None', Some', view-Term-Map-1, items-the_row-Field, items_shown-the_row-Field-2}
use Rattle.type_terms.specs.declared.term.Term.TheViews as Views
use Rattle.type_terms.specs.Parts.{layer_children, children, field_terms, rest_terms}
use Rattle.type_terms.specs.Replacement.{terms_of}
use Rattle.type_terms.proofs.Contained.{contains-none, contains-cases}
use Rattle.type_terms.proofs.PartLaws.{shown-terms, shown-term}

nothing-in : {A : Type 0} (l : List Term) (c : Term) → l ≡ [] → Contains l c → A
nothing-in l c e k = absurd (contains-none c (subst (λ (x : List Term). Contains x c) e k))

contains-cases-two : (s t c : Term) → Contains (s ∷ t ∷ []) c → Contains (s ∷ []) c ⊎ Contains (t ∷ []) c
contains-cases-two s t c k = Contains-append_cases (s ∷ []) (t ∷ []) c k

module _ (P : Term → Type 0) (step : (t : Term) → ((c : Term) → Contains (children t) c → P c) → P t) where
  mutual
    pub by-children : (t : Term) → P t
    by-children Any = step Any (λ c k. nothing-in _ c (ap layer_children Views.outs-Any) k)
    by-children None = step None (λ c k. nothing-in _ c (ap layer_children Views.outs-None) k)
    by-children (Ints low high) = step (Ints low high) (λ c k. nothing-in _ c (ap layer_children (Views.outs-Ints low high)) k)
    by-children (AtomLit name) = step (AtomLit name) (λ c k. nothing-in _ c (ap layer_children (Views.outs-AtomLit name)) k)
    by-children AnyAtom = step AnyAtom (λ c k. nothing-in _ c (ap layer_children Views.outs-AnyAtom) k)
    by-children Nil = step Nil (λ c k. nothing-in _ c (ap layer_children Views.outs-Nil) k)
    by-children (Cons' s a t b) = step (Cons' s a t b) (λ c k. ⊎_elim (λ k'. row-child a c (subst (λ (l : List Term). Contains l c) (shown-term s a) k')) (λ k'. row-child b c (subst (λ (l : List Term). Contains l c) (shown-term t b) k')) (contains-cases-two _ _ c (subst (λ (l : List Term). Contains l c) (ap layer_children (Views.outs-Cons' s a t b)) k)))
    by-children (Tuple' s ts) = step (Tuple' s ts) (λ c k. row-child ts c (subst (λ (l : List Term). Contains l c) (ap layer_children (Views.outs-Tuple' s ts) ∙ shown-terms s ts) k))
    by-children AnyTuple = step AnyTuple (λ c k. nothing-in _ c (ap layer_children Views.outs-AnyTuple) k)
    by-children (Map' s fs r q) = step (Map' s fs r q) (λ c k. ⊎_elim (λ k'. field-child fs c (subst (λ (l : List Field). Contains (field_terms l) c) (items_shown-the_row-Field-2 s fs) k')) (λ k'. ⊎_elim (rest-child r c) (rest-child q c) (Contains-append_cases _ _ c k')) (Contains-append_cases _ _ c (subst (λ (l : List Term). Contains l c) (ap layer_children (Views.outs-Map' s fs r q)) k)))
    by-children (Fun' s ts t a) = step (Fun' s ts t a) (λ c k. ⊎_elim (λ k'. row-child ts c (subst (λ (l : List Term). Contains l c) (shown-terms s ts) k')) (λ k'. row-child a c (subst (λ (l : List Term). Contains l c) (shown-term t a) k')) (Contains-append_cases _ _ c (subst (λ (l : List Term). Contains l c) (ap layer_children (Views.outs-Fun' s ts t a)) k)))
    by-children (AnyFun n) = step (AnyFun n) (λ c k. nothing-in _ c (ap layer_children (Views.outs-AnyFun n)) k)
    by-children (Or' s ts) = step (Or' s ts) (λ c k. row-child ts c (subst (λ (l : List Term). Contains l c) (ap layer_children (Views.outs-Or' s ts) ∙ shown-terms s ts) k))
    by-children (And' s ts) = step (And' s ts) (λ c k. row-child ts c (subst (λ (l : List Term). Contains l c) (ap layer_children (Views.outs-And' s ts) ∙ shown-terms s ts) k))
    by-children (Not' s ts) = step (Not' s ts) (λ c k. row-child ts c (subst (λ (l : List Term). Contains l c) (ap layer_children (Views.outs-Not' s ts) ∙ shown-term s ts) k))
    by-children (Var n) = step (Var n) (λ c k. nothing-in _ c (ap layer_children (Views.outs-Var n)) k)
    by-children (Name' n s ts) = step (Name' n s ts) (λ c k. row-child ts c (subst (λ (l : List Term). Contains l c) (ap layer_children (Views.outs-Name' n s ts) ∙ shown-terms s ts) k))

    row-child : {m : _} (ts : Row_of-Term m) (c : Term) → Contains (terms_of ts) c → P c
    row-child end_of-Term c k = absurd (contains-none c k)
    row-child (more_of-Term t ts) c k = ⊎_elim (λ (e : t ≡ c). subst P e (by-children t)) (λ k'. row-child ts c k') (contains-cases t c (terms_of ts) k)

    field-child : {m : _} (fs : Row_of-Field m) (c : Term) → Contains (field_terms (items-the_row-Field m fs)) c → P c
    field-child end_of-Field c k = absurd (contains-none c k)
    field-child (more_of-Field key required t fs) c k = ⊎_elim (λ (e : t ≡ c). subst P e (by-children t)) (λ k'. field-child fs c k') (contains-cases t c _ k)

    rest-child : (r : Held-Term-Map-1) (c : Term) → Contains (rest_terms (view-Term-Map-1 r)) c → P c
    rest-child Term-Map-1-None' c k = absurd (contains-none c k)
    rest-child (Some' s t) c k = row-child t c (subst (λ (l : List Term). Contains l c) (shown-term s t) k)
