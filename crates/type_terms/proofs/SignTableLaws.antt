-- The signs in each kind of term.
use Rattle.std.proofs.Common.{◌≡◌, refl, sym, ◌∙◌, ap, ℕ, suc, ℤ, List, [], ◌∷◌, map}
use Rattle.std.specs.Prelude.{Option, Some, None as Nothing, slice_get}
use Rattle.type_terms.specs.Keys.{Name as KeyName}
use Rattle.type_terms.specs.declared.sign_search.Signs.{Signs}
use Rattle.type_terms.specs.declared.sign_search.DefSigns.{DefSigns}
use Rattle.type_terms.specs.declared.sign_search.Sought.{Sought}
use Rattle.type_terms.specs.declared.term.Field.{Field, fold-Field, fold_out-Field}
use Rattle.type_terms.specs.declared.term.Term.{Term, fold-roll-Term, Any, None, Ints, AtomLit, AnyAtom, Nil, Cons, Tuple, AnyTuple, Map, Fun, AnyFun, Or, And, Not, Var, Name}
use Rattle.type_terms.specs.declared.term.Term.TheOpen as F
use Rattle.type_terms.specs.declared.term.Term.TheViews as Views
use Rattle.type_terms.specs.SignTables.{no_signs, own_signs, either, flipped, wants_fun, wants_variable, name_signs, joined_signs, through, variable_signs, passed, layer_signs, signs_in, signs_in_terms, signs_in_fields, rest_signs, signs_through}

joined-terms : (table : List DefSigns) (w : Sought) (ts : List Term) → joined_signs (map (signs_in table w) ts) ≡ signs_in_terms table w ts
joined-terms table w [] = refl
joined-terms table w (t ∷ ts) = ap (either (signs_in table w t)) (joined-terms table w ts)

passed-terms : (table : List DefSigns) (w : Sought) (n j : ℕ) (ts : List Term) → passed (slice_get table n) j (map (signs_in table w) ts) ≡ signs_through table w n j ts
passed-terms table w n j [] = refl
passed-terms table w n j (t ∷ ts) = λ i. either (through (variable_signs (slice_get table n) j) (signs_in table w t)) (passed-terms table w n (suc j) ts i)

field-signs : List DefSigns → Sought → Field → Signs
field-signs table w f = fold-Field Signs Signs (layer_signs table w) (λ field. field.term) f

field-is : (table : List DefSigns) (w : Sought) (f : Field) → field-signs table w f ≡ signs_in table w f.term
unfolding field-signs signs_in
field-is table w f = fold_out-Field Signs Signs (layer_signs table w) (λ field. field.term) f

joined-fields : (table : List DefSigns) (w : Sought) (fs : List Field) → joined_signs (map (field-signs table w) fs) ≡ signs_in_fields table w fs
joined-fields table w [] = refl
joined-fields table w (f ∷ fs) = λ i. either (field-is table w f i) (joined-fields table w fs i)

pub signs-Any : (table : List DefSigns) (w : Sought) → signs_in table w Any ≡ no_signs
unfolding signs_in
signs-Any table w = ap (signs_in table w) (sym Views.rolls-Any) ∙ fold-roll-Term Signs Signs (layer_signs table w) (λ field. field.term) F.Any

pub signs-None : (table : List DefSigns) (w : Sought) → signs_in table w None ≡ no_signs
unfolding signs_in
signs-None table w = ap (signs_in table w) (sym Views.rolls-None) ∙ fold-roll-Term Signs Signs (layer_signs table w) (λ field. field.term) F.None

pub signs-Ints : (table : List DefSigns) (w : Sought) (low : Option ℤ) (high : Option ℤ) → signs_in table w (Ints low high) ≡ no_signs
unfolding signs_in
signs-Ints table w low high = ap (signs_in table w) (sym (Views.rolls-Ints low high)) ∙ fold-roll-Term Signs Signs (layer_signs table w) (λ field. field.term) (F.Ints low high)

pub signs-AtomLit : (table : List DefSigns) (w : Sought) (name : KeyName) → signs_in table w (AtomLit name) ≡ no_signs
unfolding signs_in
signs-AtomLit table w name = ap (signs_in table w) (sym (Views.rolls-AtomLit name)) ∙ fold-roll-Term Signs Signs (layer_signs table w) (λ field. field.term) (F.AtomLit name)

pub signs-AnyAtom : (table : List DefSigns) (w : Sought) → signs_in table w AnyAtom ≡ no_signs
unfolding signs_in
signs-AnyAtom table w = ap (signs_in table w) (sym Views.rolls-AnyAtom) ∙ fold-roll-Term Signs Signs (layer_signs table w) (λ field. field.term) F.AnyAtom

pub signs-Nil : (table : List DefSigns) (w : Sought) → signs_in table w Nil ≡ no_signs
unfolding signs_in
signs-Nil table w = ap (signs_in table w) (sym Views.rolls-Nil) ∙ fold-roll-Term Signs Signs (layer_signs table w) (λ field. field.term) F.Nil

pub signs-Cons : (table : List DefSigns) (w : Sought) (s : Term) (t : Term) → signs_in table w (Cons s t) ≡ either (signs_in table w s) (signs_in table w t)
unfolding signs_in
signs-Cons table w s t = ap (signs_in table w) (sym (Views.rolls-Cons s t)) ∙ fold-roll-Term Signs Signs (layer_signs table w) (λ field. field.term) (F.Cons s t)

pub signs-Tuple : (table : List DefSigns) (w : Sought) (ts : List Term) → signs_in table w (Tuple ts) ≡ signs_in_terms table w ts
unfolding signs_in
signs-Tuple table w ts = ap (signs_in table w) (sym (Views.rolls-Tuple ts)) ∙ (fold-roll-Term Signs Signs (layer_signs table w) (λ field. field.term) (F.Tuple ts) ∙ joined-terms table w ts)

pub signs-AnyTuple : (table : List DefSigns) (w : Sought) → signs_in table w AnyTuple ≡ no_signs
unfolding signs_in
signs-AnyTuple table w = ap (signs_in table w) (sym Views.rolls-AnyTuple) ∙ fold-roll-Term Signs Signs (layer_signs table w) (λ field. field.term) F.AnyTuple

pub signs-Map : (table : List DefSigns) (w : Sought) (fs : List Field) (r : Option Term) (q : Option Term) → signs_in table w (Map fs r q) ≡ either (signs_in_fields table w fs) (either (rest_signs table w r) (rest_signs table w q))
unfolding signs_in field-signs
signs-Map table w fs Nothing Nothing = ap (signs_in table w) (sym (Views.rolls-Map fs Nothing Nothing)) ∙ (fold-roll-Term Signs Signs (layer_signs table w) (λ field. field.term) (F.Map fs Nothing Nothing) ∙ ap (λ x. either x (either no_signs no_signs)) (joined-fields table w fs))
signs-Map table w fs Nothing (Some q) = ap (signs_in table w) (sym (Views.rolls-Map fs Nothing (Some q))) ∙ (fold-roll-Term Signs Signs (layer_signs table w) (λ field. field.term) (F.Map fs Nothing (Some q)) ∙ ap (λ x. either x (either no_signs (signs_in table w q))) (joined-fields table w fs))
signs-Map table w fs (Some r) Nothing = ap (signs_in table w) (sym (Views.rolls-Map fs (Some r) Nothing)) ∙ (fold-roll-Term Signs Signs (layer_signs table w) (λ field. field.term) (F.Map fs (Some r) Nothing) ∙ ap (λ x. either x (either (signs_in table w r) no_signs)) (joined-fields table w fs))
signs-Map table w fs (Some r) (Some q) = ap (signs_in table w) (sym (Views.rolls-Map fs (Some r) (Some q))) ∙ (fold-roll-Term Signs Signs (layer_signs table w) (λ field. field.term) (F.Map fs (Some r) (Some q)) ∙ ap (λ x. either x (either (signs_in table w r) (signs_in table w q))) (joined-fields table w fs))

pub signs-Fun : (table : List DefSigns) (w : Sought) (ts : List Term) (t : Term) → signs_in table w (Fun ts t) ≡ either (own_signs (wants_fun w)) (either (signs_in_terms table w ts) (signs_in table w t))
unfolding signs_in
signs-Fun table w ts t = ap (signs_in table w) (sym (Views.rolls-Fun ts t)) ∙ (fold-roll-Term Signs Signs (layer_signs table w) (λ field. field.term) (F.Fun ts t) ∙ ap (λ x. either (own_signs (wants_fun w)) (either x (signs_in table w t))) (joined-terms table w ts))

pub signs-AnyFun : (table : List DefSigns) (w : Sought) (n : Option ℕ) → signs_in table w (AnyFun n) ≡ no_signs
unfolding signs_in
signs-AnyFun table w n = ap (signs_in table w) (sym (Views.rolls-AnyFun n)) ∙ fold-roll-Term Signs Signs (layer_signs table w) (λ field. field.term) (F.AnyFun n)

pub signs-Or : (table : List DefSigns) (w : Sought) (ts : List Term) → signs_in table w (Or ts) ≡ signs_in_terms table w ts
unfolding signs_in
signs-Or table w ts = ap (signs_in table w) (sym (Views.rolls-Or ts)) ∙ (fold-roll-Term Signs Signs (layer_signs table w) (λ field. field.term) (F.Or ts) ∙ joined-terms table w ts)

pub signs-And : (table : List DefSigns) (w : Sought) (ts : List Term) → signs_in table w (And ts) ≡ signs_in_terms table w ts
unfolding signs_in
signs-And table w ts = ap (signs_in table w) (sym (Views.rolls-And ts)) ∙ (fold-roll-Term Signs Signs (layer_signs table w) (λ field. field.term) (F.And ts) ∙ joined-terms table w ts)

pub signs-Not : (table : List DefSigns) (w : Sought) (t : Term) → signs_in table w (Not t) ≡ flipped (signs_in table w t)
unfolding signs_in
signs-Not table w t = ap (signs_in table w) (sym (Views.rolls-Not t)) ∙ fold-roll-Term Signs Signs (layer_signs table w) (λ field. field.term) (F.Not t)

pub signs-Var : (table : List DefSigns) (w : Sought) (n : ℕ) → signs_in table w (Var n) ≡ own_signs (wants_variable w n)
unfolding signs_in
signs-Var table w n = ap (signs_in table w) (sym (Views.rolls-Var n)) ∙ fold-roll-Term Signs Signs (layer_signs table w) (λ field. field.term) (F.Var n)

pub signs-Name : (table : List DefSigns) (w : Sought) (n : ℕ) (ts : List Term) → signs_in table w (Name n ts) ≡ either (name_signs table w n) (signs_through table w n 0 ts)
unfolding signs_in
signs-Name table w n ts = ap (signs_in table w) (sym (Views.rolls-Name n ts)) ∙ (fold-roll-Term Signs Signs (layer_signs table w) (λ field. field.term) (F.Name n ts) ∙ ap (λ x. either (name_signs table w n) x) (passed-terms table w n 0 ts))

pub ruleset sign_laws = (signs-Any, signs-None, signs-Ints, signs-AtomLit, signs-AnyAtom, signs-Nil, signs-Cons, signs-Tuple, signs-AnyTuple, signs-Map, signs-Fun, signs-AnyFun, signs-Or, signs-And, signs-Not, signs-Var, signs-Name)
