-- A type term by what its signs are made of: those of its children, or of a fun type, a negation, a variable or a name.
use Rattle.std.proofs.Common.{◌≡◌, refl, sym, ◌∙◌, ap, subst, ℕ, List, [], ◌∷◌, ◌++◌, map}
use Rattle.std.specs.Prelude.{Option, Some, None as Nothing}
use Rattle.std.specs.Option.{option_map}
use Rattle.type_terms.specs.declared.sign_search.DefSigns.{DefSigns}
use Rattle.type_terms.specs.declared.sign_search.Sought.{Sought}
use Rattle.type_terms.specs.declared.term.Field.{Field}
use Rattle.type_terms.specs.declared.term.Term.{Term, out-Term, roll-Term, roll-out-Term, Any, None, Ints, AtomLit, AnyAtom, Nil, Cons, Tuple, AnyTuple, Map, Fun, AnyFun, Or, And, Not, Var, Name}
use Rattle.type_terms.specs.declared.term.Term.TheOpen as F
use Rattle.type_terms.specs.declared.term.Term.TheViews as Views
use Rattle.type_terms.specs.Parts.{layer_children, children, layer_positive_children, positive_children, field_terms, rest_terms}
use Rattle.type_terms.specs.Replacement.{Substitution, replaced, field_replaced}
use Rattle.type_terms.specs.SignTables.{no_signs, either, signs_in, signs_in_terms, signs_in_fields, rest_signs}
use Rattle.type_terms.proofs.ReplacementParts as Parts
use Rattle.type_terms.proofs.SignListLaws.{either-none, either-twice}
use Rattle.type_terms.proofs.SignTableLaws as Laws

pub data SignView (table : List DefSigns) : Term → Type 0 where
  by_parts : (t : Term) (ts : List Term) → children t ≡ ts → positive_children t ≡ ts → ((w : Sought) → signs_in table w t ≡ signs_in_terms table w ts) → ((f : Substitution) (w : Sought) → signs_in table w (replaced f t) ≡ signs_in_terms table w (map (replaced f) ts)) → SignView table t
  by_fun : (ts : List Term) (t : Term) → SignView table (Fun ts t)
  by_not : (t : Term) → SignView table (Not t)
  by_variable : (n : ℕ) → SignView table (Var n)
  by_name : (n : ℕ) (ts : List Term) → SignView table (Name n ts)

pub terms-joined : (table : List DefSigns) (w : Sought) (ss ts : List Term) → signs_in_terms table w (ss ++ ts) ≡ either (signs_in_terms table w ss) (signs_in_terms table w ts)
terms-joined table w [] ts = refl
terms-joined table w (s ∷ ss) ts = ap (either (signs_in table w s)) (terms-joined table w ss ts) ∙ sym (either-twice (signs_in table w s) (signs_in_terms table w ss) (signs_in_terms table w ts))

pub term-last : (table : List DefSigns) (w : Sought) (ts : List Term) (t : Term) → either (signs_in_terms table w ts) (signs_in table w t) ≡ signs_in_terms table w (ts ++ t ∷ [])
term-last table w ts t = ap (either (signs_in_terms table w ts)) (sym (either-none (signs_in table w t))) ∙ sym (terms-joined table w ts (t ∷ []))

fields-terms : (table : List DefSigns) (w : Sought) (fs : List Field) → signs_in_fields table w fs ≡ signs_in_terms table w (field_terms fs)
fields-terms table w [] = refl
fields-terms table w (f ∷ fs) = ap (either (signs_in table w f.term)) (fields-terms table w fs)

rest-terms : (table : List DefSigns) (w : Sought) (r : Option Term) → rest_signs table w r ≡ signs_in_terms table w (rest_terms r)
rest-terms table w Nothing = refl
rest-terms table w (Some t) = sym (either-none (signs_in table w t))

map-terms : (table : List DefSigns) (w : Sought) (fs : List Field) (r q : Option Term) → either (signs_in_fields table w fs) (either (rest_signs table w r) (rest_signs table w q)) ≡ signs_in_terms table w (field_terms fs ++ (rest_terms r ++ rest_terms q))
map-terms table w fs r q = (λ i. either (fields-terms table w fs i) (either (rest-terms table w r i) (rest-terms table w q i))) ∙ (ap (either (signs_in_terms table w (field_terms fs))) (sym (terms-joined table w (rest_terms r) (rest_terms q))) ∙ sym (terms-joined table w (field_terms fs) (rest_terms r ++ rest_terms q)))

pub map-append : (f : Substitution) (ss ts : List Term) → map (replaced f) (ss ++ ts) ≡ map (replaced f) ss ++ map (replaced f) ts
map-append f [] ts = refl
map-append f (s ∷ ss) ts = ap (λ l. replaced f s ∷ l) (map-append f ss ts)

fields-replaced : (f : Substitution) (fs : List Field) → field_terms (map (field_replaced f) fs) ≡ map (replaced f) (field_terms fs)
fields-replaced f [] = refl
fields-replaced f (d ∷ fs) = ap (λ l. replaced f d.term ∷ l) (fields-replaced f fs)

rest-replaced : (f : Substitution) (r : Option Term) → rest_terms (option_map (replaced f) r) ≡ map (replaced f) (rest_terms r)
rest-replaced f Nothing = refl
rest-replaced f (Some t) = refl

map-replaced : (f : Substitution) (fs : List Field) (r q : Option Term) → field_terms (map (field_replaced f) fs) ++ (rest_terms (option_map (replaced f) r) ++ rest_terms (option_map (replaced f) q)) ≡ map (replaced f) (field_terms fs ++ (rest_terms r ++ rest_terms q))
map-replaced f fs r q = (λ i. fields-replaced f fs i ++ (rest-replaced f r i ++ rest-replaced f q i)) ∙ (ap (λ l. map (replaced f) (field_terms fs) ++ l) (sym (map-append f (rest_terms r) (rest_terms q))) ∙ sym (map-append f (field_terms fs) (rest_terms r ++ rest_terms q)))

module _ (table : List DefSigns) where
  no-parts : (t : Term) → children t ≡ [] → positive_children t ≡ [] → ((w : Sought) → signs_in table w t ≡ no_signs) → ((f : Substitution) → replaced f t ≡ t) → SignView table t
  no-parts t c p e r = by_parts t [] c p e (λ f w. ap (signs_in table w) (r f) ∙ e w)

  list-parts : (t : Term) (ts : List Term) (u : Substitution → Term) → children t ≡ ts → positive_children t ≡ ts → ((w : Sought) → signs_in table w t ≡ signs_in_terms table w ts) → ((f : Substitution) → replaced f t ≡ u f) → ((f : Substitution) (w : Sought) → signs_in table w (u f) ≡ signs_in_terms table w (map (replaced f) ts)) → SignView table t
  list-parts t ts u c p e r s = by_parts t ts c p e (λ f w. ap (signs_in table w) (r f) ∙ s f w)

  of-level : (l : F.Term-F Term Field) → SignView table (roll-Term l)
  of-level F.Any = subst (SignView table) (sym Views.rolls-Any) (no-parts Any (ap layer_children Views.outs-Any) (ap layer_positive_children Views.outs-Any) (λ w. Laws.signs-Any table w) (λ f. refl))
  of-level F.None = subst (SignView table) (sym Views.rolls-None) (no-parts None (ap layer_children Views.outs-None) (ap layer_positive_children Views.outs-None) (λ w. Laws.signs-None table w) (λ f. refl))
  of-level (F.Ints low high) = subst (SignView table) (sym (Views.rolls-Ints low high)) (no-parts (Ints low high) (ap layer_children (Views.outs-Ints low high)) (ap layer_positive_children (Views.outs-Ints low high)) (λ w. Laws.signs-Ints table w low high) (λ f. refl))
  of-level (F.AtomLit name) = subst (SignView table) (sym (Views.rolls-AtomLit name)) (no-parts (AtomLit name) (ap layer_children (Views.outs-AtomLit name)) (ap layer_positive_children (Views.outs-AtomLit name)) (λ w. Laws.signs-AtomLit table w name) (λ f. refl))
  of-level F.AnyAtom = subst (SignView table) (sym Views.rolls-AnyAtom) (no-parts AnyAtom (ap layer_children Views.outs-AnyAtom) (ap layer_positive_children Views.outs-AnyAtom) (λ w. Laws.signs-AnyAtom table w) (λ f. refl))
  of-level F.Nil = subst (SignView table) (sym Views.rolls-Nil) (no-parts Nil (ap layer_children Views.outs-Nil) (ap layer_positive_children Views.outs-Nil) (λ w. Laws.signs-Nil table w) (λ f. refl))
  of-level (F.Cons s t) =
      subst (SignView table) (sym (Views.rolls-Cons s t)) (list-parts (Cons s t) (s ∷ t ∷ []) (λ f. Cons (replaced f s) (replaced f t)) (ap layer_children (Views.outs-Cons s t)) (ap layer_positive_children (Views.outs-Cons s t))
      (λ w. Laws.signs-Cons table w s t ∙ ap (either (signs_in table w s)) (sym (either-none (signs_in table w t)))) (λ f. Parts.replaced-Cons f s t)
      (λ f w. Laws.signs-Cons table w (replaced f s) (replaced f t) ∙ ap (either (signs_in table w (replaced f s))) (sym (either-none (signs_in table w (replaced f t))))))
  of-level (F.Tuple ts) = subst (SignView table) (sym (Views.rolls-Tuple ts)) (list-parts (Tuple ts) ts (λ f. Tuple (map (replaced f) ts)) (ap layer_children (Views.outs-Tuple ts)) (ap layer_positive_children (Views.outs-Tuple ts)) (λ w. Laws.signs-Tuple table w ts) (λ f. Parts.replaced-Tuple f ts) (λ f w. Laws.signs-Tuple table w (map (replaced f) ts)))
  of-level F.AnyTuple = subst (SignView table) (sym Views.rolls-AnyTuple) (no-parts AnyTuple (ap layer_children Views.outs-AnyTuple) (ap layer_positive_children Views.outs-AnyTuple) (λ w. Laws.signs-AnyTuple table w) (λ f. refl))
  of-level (F.Map fs r q) =
      subst (SignView table) (sym (Views.rolls-Map fs r q)) (list-parts (Map fs r q) (field_terms fs ++ (rest_terms r ++ rest_terms q)) (λ f. Map (map (field_replaced f) fs) (option_map (replaced f) r) (option_map (replaced f) q)) (ap layer_children (Views.outs-Map fs r q)) (ap layer_positive_children (Views.outs-Map fs r q))
      (λ w. Laws.signs-Map table w fs r q ∙ map-terms table w fs r q) (λ f. Parts.replaced-Map f fs r q)
      (λ f w. Laws.signs-Map table w (map (field_replaced f) fs) (option_map (replaced f) r) (option_map (replaced f) q) ∙ (map-terms table w (map (field_replaced f) fs) (option_map (replaced f) r) (option_map (replaced f) q) ∙ ap (signs_in_terms table w) (map-replaced f fs r q))))
  of-level (F.Fun ts t) = subst (SignView table) (sym (Views.rolls-Fun ts t)) (by_fun ts t)
  of-level (F.AnyFun n) = subst (SignView table) (sym (Views.rolls-AnyFun n)) (no-parts (AnyFun n) (ap layer_children (Views.outs-AnyFun n)) (ap layer_positive_children (Views.outs-AnyFun n)) (λ w. Laws.signs-AnyFun table w n) (λ f. refl))
  of-level (F.Or ts) = subst (SignView table) (sym (Views.rolls-Or ts)) (list-parts (Or ts) ts (λ f. Or (map (replaced f) ts)) (ap layer_children (Views.outs-Or ts)) (ap layer_positive_children (Views.outs-Or ts)) (λ w. Laws.signs-Or table w ts) (λ f. Parts.replaced-Or f ts) (λ f w. Laws.signs-Or table w (map (replaced f) ts)))
  of-level (F.And ts) = subst (SignView table) (sym (Views.rolls-And ts)) (list-parts (And ts) ts (λ f. And (map (replaced f) ts)) (ap layer_children (Views.outs-And ts)) (ap layer_positive_children (Views.outs-And ts)) (λ w. Laws.signs-And table w ts) (λ f. Parts.replaced-And f ts) (λ f w. Laws.signs-And table w (map (replaced f) ts)))
  of-level (F.Not t) = subst (SignView table) (sym (Views.rolls-Not t)) (by_not t)
  of-level (F.Var n) = subst (SignView table) (sym (Views.rolls-Var n)) (by_variable n)
  of-level (F.Name n ts) = subst (SignView table) (sym (Views.rolls-Name n ts)) (by_name n ts)

  pub sign-view : (t : Term) → SignView table t
  sign-view t = subst (SignView table) (roll-out-Term t) (of-level (out-Term t))
