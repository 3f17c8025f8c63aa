-- The names that stand in a term whose variables are replaced: names of the term, and those in what stands for its variables.
use Rattle.std.proofs.Common.{◌≡◌, refl, sym, ◌∙◌, ap, subst, ⊎_elim, ◌⊎◌, inl, inr, ℕ, List, [], ◌∷◌, ◌++◌, map, ◌<◌, arith}
use Rattle.std.specs.Prelude.{Option, Some, None as Nothing}
use Rattle.std.specs.Option.{option_map}
use Rattle.std.specs.List.{Contains}
use Rattle.std.proofs.lemmas.List.{map-append}
use Rattle.type_terms.specs.Parts.{layer_children, children, field_terms, rest_terms, IsPart, itself, in_child}
use Rattle.type_terms.specs.Replacement.{Substitution, field_replaced, terms_of, replaced}
use Rattle.type_terms.specs.declared.term.Field.{Field}
use Rattle.type_terms.specs.declared.term.Term.{Term, roll-Term, out-Term, roll-out-Term, Any, None, Ints, AtomLit, AnyAtom, Nil, Cons, Cons', Tuple, Tuple', AnyTuple, Map, Map', Fun, Fun', AnyFun, Or, Or', And, And', Not, Not', Var, Name, Name'}
use Rattle.type_terms.specs.declared.term.Term.TheOpen as F
use Rattle.type_terms.specs.declared.term.Term.TheViews as Views
use Rattle.type_terms.proofs.Contained.{contains-none, contains-first, contains-later, contains-cases}
use Rattle.type_terms.proofs.Induction.{by-children}
use Rattle.type_terms.proofs.PartLaws.{kind_number, name-terms, name-number, name-arguments}
use Rattle.type_terms.proofs.ReplacementParts as Parts

pub part-through : (u v w : Term) → IsPart u v → IsPart v w → IsPart u w
part-through u _ _ p (itself v) = p
part-through u _ _ p (in_child v c w k q) = in_child u c w k (part-through u v c p q)

contains-mapped : (g : Term → Term) (ts : List Term) (c : Term) → Contains (map g ts) c → (d : Term) × Contains ts d × (c ≡ g d)
contains-mapped g [] c k = absurd (contains-none c k)
contains-mapped g (t ∷ ts) c k =
    ⊎_elim (λ (e : g t ≡ c). (t, contains-first t ts, sym e))
    (λ k'. let r : (d : Term) × Contains ts d × (c ≡ g d) = contains-mapped g ts c k' in (r.0, contains-later t r.0 ts r.1, r.2))
    (contains-cases (g t) c (map g ts) k)

module _ (f : Substitution) where
  -- a term is a variable, or its children are replaced
  Replaces : Term → Type 0
  Replaces t = ((i : ℕ) × (t ≡ Var i)) ⊎ (children (replaced f t) ≡ map (replaced f) (children t))

  replaces-by : (w t u : Term) (ts us : List Term) → w ≡ t → replaced f t ≡ u → children t ≡ ts → children u ≡ us → us ≡ map (replaced f) ts → Replaces w
  unfolding Replaces
  replaces-by w t u ts us e r c d q = inr (ap (λ (x : Term). children (replaced f x)) e ∙ (ap children r ∙ (d ∙ (q ∙ sym (ap (λ (l : List Term). map (replaced f) l) (ap children e ∙ c))))))

  fields-replaced : (fs : List Field) → field_terms (map (field_replaced f) fs) ≡ map (replaced f) (field_terms fs)
  fields-replaced [] = refl
  fields-replaced (g ∷ fs) = ap (λ (l : List Term). replaced f g.term ∷ l) (fields-replaced fs)

  rest-replaced : (r : Option Term) → rest_terms (option_map (replaced f) r) ≡ map (replaced f) (rest_terms r)
  rest-replaced Nothing = refl
  rest-replaced (Some t) = refl

  map-replaced : (fs : List Field) (r q : Option Term) → field_terms (map (field_replaced f) fs) ++ (rest_terms (option_map (replaced f) r) ++ rest_terms (option_map (replaced f) q)) ≡ map (replaced f) (field_terms fs ++ (rest_terms r ++ rest_terms q))
  map-replaced fs r q =
      (λ j. fields-replaced fs j ++ (rest-replaced r j ++ rest-replaced q j))
      ∙ (ap (λ (l : List Term). map (replaced f) (field_terms fs) ++ l) (sym (map-append (replaced f) (rest_terms r) (rest_terms q))) ∙ sym (map-append (replaced f) (field_terms fs) (rest_terms r ++ rest_terms q)))

  is-variable : (n : ℕ) → Replaces (roll-Term (F.Var n))
  unfolding Replaces
  is-variable n = inl (n, Views.rolls-Var n)

  layer-replaces : (l : F.Term-F Term Field) → Replaces (roll-Term l)
  layer-replaces F.Any = replaces-by _ Any Any [] [] Views.rolls-Any refl (ap layer_children Views.outs-Any) (ap layer_children Views.outs-Any) refl
  layer-replaces F.None = replaces-by _ None None [] [] Views.rolls-None refl (ap layer_children Views.outs-None) (ap layer_children Views.outs-None) refl
  layer-replaces (F.Ints low high) = replaces-by _ (Ints low high) (Ints low high) [] [] (Views.rolls-Ints low high) refl (ap layer_children (Views.outs-Ints low high)) (ap layer_children (Views.outs-Ints low high)) refl
  layer-replaces (F.AtomLit name) = replaces-by _ (AtomLit name) (AtomLit name) [] [] (Views.rolls-AtomLit name) refl (ap layer_children (Views.outs-AtomLit name)) (ap layer_children (Views.outs-AtomLit name)) refl
  layer-replaces F.AnyAtom = replaces-by _ AnyAtom AnyAtom [] [] Views.rolls-AnyAtom refl (ap layer_children Views.outs-AnyAtom) (ap layer_children Views.outs-AnyAtom) refl
  layer-replaces F.Nil = replaces-by _ Nil Nil [] [] Views.rolls-Nil refl (ap layer_children Views.outs-Nil) (ap layer_children Views.outs-Nil) refl
  layer-replaces (F.Cons s t) = replaces-by _ (Cons s t) (Cons (replaced f s) (replaced f t)) (s ∷ t ∷ []) (replaced f s ∷ replaced f t ∷ []) (Views.rolls-Cons s t) (Parts.replaced-Cons f s t) (ap layer_children (Views.outs-Cons s t)) (ap layer_children (Views.outs-Cons (replaced f s) (replaced f t))) refl
  layer-replaces (F.Tuple ts) = replaces-by _ (Tuple ts) (Tuple (map (replaced f) ts)) ts (map (replaced f) ts) (Views.rolls-Tuple ts) (Parts.replaced-Tuple f ts) (ap layer_children (Views.outs-Tuple ts)) (ap layer_children (Views.outs-Tuple (map (replaced f) ts))) refl
  layer-replaces F.AnyTuple = replaces-by _ AnyTuple AnyTuple [] [] Views.rolls-AnyTuple refl (ap layer_children Views.outs-AnyTuple) (ap layer_children Views.outs-AnyTuple) refl
  layer-replaces (F.Map fs r q) = replaces-by _ (Map fs r q) (Map (map (field_replaced f) fs) (option_map (replaced f) r) (option_map (replaced f) q)) (field_terms fs ++ (rest_terms r ++ rest_terms q)) _ (Views.rolls-Map fs r q) (Parts.replaced-Map f fs r q) (ap layer_children (Views.outs-Map fs r q)) (ap layer_children (Views.outs-Map (map (field_replaced f) fs) (option_map (replaced f) r) (option_map (replaced f) q))) (map-replaced fs r q)
  layer-replaces (F.Fun ts t) = replaces-by _ (Fun ts t) (Fun (map (replaced f) ts) (replaced f t)) (ts ++ (t ∷ [])) (map (replaced f) ts ++ (replaced f t ∷ [])) (Views.rolls-Fun ts t) (Parts.replaced-Fun f ts t) (ap layer_children (Views.outs-Fun ts t)) (ap layer_children (Views.outs-Fun (map (replaced f) ts) (replaced f t))) (sym (map-append (replaced f) ts (t ∷ [])))
  layer-replaces (F.AnyFun n) = replaces-by _ (AnyFun n) (AnyFun n) [] [] (Views.rolls-AnyFun n) refl (ap layer_children (Views.outs-AnyFun n)) (ap layer_children (Views.outs-AnyFun n)) refl
  layer-replaces (F.Or ts) = replaces-by _ (Or ts) (Or (map (replaced f) ts)) ts (map (replaced f) ts) (Views.rolls-Or ts) (Parts.replaced-Or f ts) (ap layer_children (Views.outs-Or ts)) (ap layer_children (Views.outs-Or (map (replaced f) ts))) refl
  layer-replaces (F.And ts) = replaces-by _ (And ts) (And (map (replaced f) ts)) ts (map (replaced f) ts) (Views.rolls-And ts) (Parts.replaced-And f ts) (ap layer_children (Views.outs-And ts)) (ap layer_children (Views.outs-And (map (replaced f) ts))) refl
  layer-replaces (F.Not t) = replaces-by _ (Not t) (Not (replaced f t)) (t ∷ []) (replaced f t ∷ []) (Views.rolls-Not t) (Parts.replaced-Not f t) (ap layer_children (Views.outs-Not t)) (ap layer_children (Views.outs-Not (replaced f t))) refl
  layer-replaces (F.Var n) = is-variable n
  layer-replaces (F.Name n ts) = replaces-by _ (Name n ts) (Name n (map (replaced f) ts)) ts (map (replaced f) ts) (Views.rolls-Name n ts) (Parts.replaced-Name f n ts) (ap layer_children (Views.outs-Name n ts)) (ap layer_children (Views.outs-Name n (map (replaced f) ts))) refl

  replaces : (t : Term) → Replaces t
  replaces t = subst Replaces (roll-out-Term t) (layer-replaces (out-Term t))

  -- a part of a replaced term: a part of the term, replaced, or a part of what stands for a variable
  Split : Term → Term → Type 0
  Split u t = ((v : Term) × IsPart v t × (u ≡ replaced f v)) ⊎ ((i : ℕ) × IsPart (Var i) t × IsPart u (f i))

  split-child : (u c t : Term) → Contains (children t) c → Split u c → Split u t
  unfolding Split
  split-child u c t k s = ⊎_elim (λ a. inl (a.0, in_child a.0 c t k a.1, a.2)) (λ b. inr (b.0, in_child (Var b.0) c t k b.1, b.2)) s

  split-step : (t : Term) → ((c : Term) → Contains (children t) c → (u : Term) → IsPart u (replaced f c) → Split u c) → (u w : Term) → w ≡ replaced f t → IsPart u w → Split u t
  unfolding Split Replaces
  split-step t ih _ _ e (itself w) = inl (t, itself t, e)
  split-step t ih _ _ e (in_child u c w k b) = ⊎_elim
      (λ (v : (i : ℕ) × (t ≡ Var i)). inr (v.0, subst (λ (x : Term). IsPart x t) v.1 (itself t), subst (λ (x : Term). IsPart u x) (e ∙ ap (replaced f) v.1) (in_child u c w k b)))
      (λ (q : children (replaced f t) ≡ map (replaced f) (children t)).
      let d : (d : Term) × Contains (children t) d × (c ≡ replaced f d) = contains-mapped (replaced f) (children t) c (subst (λ (l : List Term). Contains l c) (ap children e ∙ q) k) in
      split-child u d.0 t d.1 (ih d.0 d.1 u (subst (λ (x : Term). IsPart u x) d.2 b)))
      (replaces t)

  split : (t u : Term) → IsPart u (replaced f t) → Split u t
  split = by-children (λ t. (u : Term) → IsPart u (replaced f t) → Split u t) (λ t ih u p. split-step t ih u (replaced f t) refl p)

  -- where a replaced term is a name, it was one, or a variable
  Named : Term → ℕ → List Term → Type 0
  Named v m args = ((own : List Term) × (v ≡ Name m own) × (args ≡ map (replaced f) own)) ⊎ ((i : ℕ) × (v ≡ Var i))

  not-named : (v : Term) (m : ℕ) (args : List Term) (k : ℕ) → k < 16 → 16 ≡ k → Named v m args
  not-named v m args k l e = absurd (omega arith)

  named : (v : Term) (m : ℕ) (args : List Term) → Name m args ≡ replaced f v → Named v m args
  unfolding Named
  named Any m args e = not-named Any m args 0 (omega arith) (ap kind_number e)
  named None m args e = not-named None m args 1 (omega arith) (ap kind_number e)
  named (Ints low high) m args e = not-named (Ints low high) m args 2 (omega arith) (ap kind_number e)
  named (AtomLit name) m args e = not-named (AtomLit name) m args 3 (omega arith) (ap kind_number e)
  named AnyAtom m args e = not-named AnyAtom m args 4 (omega arith) (ap kind_number e)
  named Nil m args e = not-named Nil m args 5 (omega arith) (ap kind_number e)
  named (Cons' s a t b) m args e = not-named (Cons' s a t b) m args 6 (omega arith) (ap kind_number e)
  named (Tuple' s ts) m args e = not-named (Tuple' s ts) m args 7 (omega arith) (ap kind_number e)
  named AnyTuple m args e = not-named AnyTuple m args 8 (omega arith) (ap kind_number e)
  named (Map' s fs r q) m args e = not-named (Map' s fs r q) m args 9 (omega arith) (ap kind_number e)
  named (Fun' s ts t a) m args e = not-named (Fun' s ts t a) m args 10 (omega arith) (ap kind_number e)
  named (AnyFun n) m args e = not-named (AnyFun n) m args 11 (omega arith) (ap kind_number e)
  named (Or' s ts) m args e = not-named (Or' s ts) m args 12 (omega arith) (ap kind_number e)
  named (And' s ts) m args e = not-named (And' s ts) m args 13 (omega arith) (ap kind_number e)
  named (Not' s ts) m args e = not-named (Not' s ts) m args 14 (omega arith) (ap kind_number e)
  named (Var n) m args e = inr (n, refl)
  named (Name' n s ts) m args e =
      let same : Name m args ≡ Name n (map (replaced f) (terms_of ts)) = e ∙ (ap (replaced f) (name-terms n s ts) ∙ Parts.replaced-Name f n (terms_of ts)) in
      inl (terms_of ts, name-terms n s ts ∙ ap (λ (x : ℕ). Name x (terms_of ts)) (sym (name-number m n args (map (replaced f) (terms_of ts)) same)), name-arguments m n args (map (replaced f) (terms_of ts)) same)

  -- a name in a replaced term is one of the term, with its arguments replaced, or stands in what stands for a variable
  pub names-of-replaced : (t : Term) (m : ℕ) (args : List Term) → IsPart (Name m args) (replaced f t) → ((own : List Term) × IsPart (Name m own) t × (args ≡ map (replaced f) own)) ⊎ ((i : ℕ) × IsPart (Var i) t × IsPart (Name m args) (f i))
  unfolding Split Named
  names-of-replaced t m args p = ⊎_elim
      (λ (a : (v : Term) × IsPart v t × (Name m args ≡ replaced f v)). ⊎_elim
      (λ (b : (own : List Term) × (a.0 ≡ Name m own) × (args ≡ map (replaced f) own)). inl (b.0, subst (λ (x : Term). IsPart x t) b.1 a.1, b.2))
      (λ (b : (i : ℕ) × (a.0 ≡ Var i)). inr (b.0, subst (λ (x : Term). IsPart x t) b.1 a.1, subst (λ (x : Term). IsPart (Name m args) x) (a.2 ∙ ap (replaced f) b.1) (itself (Name m args))))
      (named a.0 m args a.2))
      (λ b. inr b)
      (split t (Name m args) p)
