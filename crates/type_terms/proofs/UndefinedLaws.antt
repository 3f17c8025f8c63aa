-- The first undefined name in each kind of term, and that there is none exactly where the names are defined.
use Rattle.std.proofs.Common.{◌≡◌, refl, sym, ◌∙◌, ap, ℕ, suc, ℤ, List, [], ◌∷◌, length, map}
use Rattle.std.specs.Prelude.{Option, Some, None as Nothing}
use Rattle.type_terms.specs.Keys.{Name as KeyName}
use Rattle.type_terms.specs.declared.term.Def.{Def}
use Rattle.type_terms.specs.declared.term.Field.{Field, fold-Field, fold_out-Field}
use Rattle.type_terms.specs.declared.term.Term.{Term, fold-roll-Term, Any, None, Ints, AtomLit, AnyAtom, Nil, Cons, Tuple, AnyTuple, Map, Fun, AnyFun, Or, And, Not, Var, Name}
use Rattle.type_terms.specs.declared.term.Term.TheOpen as F
use Rattle.type_terms.specs.declared.term.Term.TheViews as Views
use Rattle.type_terms.specs.Undefined.{or_else, first_of, undefined_name, layer_undefined, undefined_in, undefined_in_terms, undefined_in_fields, undefined_in_rest}

length-map : {A B : Type 0} (f : A → B) (xs : List A) → length (map f xs) ≡ length xs
length-map f [] = refl
length-map f (x ∷ xs) = ap suc (length-map f xs)

first-terms : (defs : List Def) (ts : List Term) → first_of (map (undefined_in defs) ts) ≡ undefined_in_terms defs ts
first-terms defs [] = refl
first-terms defs (t ∷ ts) = ap (or_else (undefined_in defs t)) (first-terms defs ts)

field-answer : List Def → Field → Option ℕ
field-answer defs f = fold-Field (Option ℕ) (Option ℕ) (layer_undefined defs) (λ field. field.term) f

field-is : (defs : List Def) (f : Field) → field-answer defs f ≡ undefined_in defs f.term
unfolding field-answer undefined_in
field-is defs f = fold_out-Field (Option ℕ) (Option ℕ) (layer_undefined defs) (λ field. field.term) f

first-fields : (defs : List Def) (fs : List Field) → first_of (map (field-answer defs) fs) ≡ undefined_in_fields defs fs
first-fields defs [] = refl
first-fields defs (f ∷ fs) = λ i. or_else (field-is defs f i) (first-fields defs fs i)

pub undefined-Any : (defs : List Def) → undefined_in defs Any ≡ Nothing
unfolding undefined_in
undefined-Any defs = ap (undefined_in defs) (sym Views.rolls-Any) ∙ fold-roll-Term (Option ℕ) (Option ℕ) (layer_undefined defs) (λ field. field.term) F.Any

pub undefined-None : (defs : List Def) → undefined_in defs None ≡ Nothing
unfolding undefined_in
undefined-None defs = ap (undefined_in defs) (sym Views.rolls-None) ∙ fold-roll-Term (Option ℕ) (Option ℕ) (layer_undefined defs) (λ field. field.term) F.None

pub undefined-Ints : (defs : List Def) (low : Option ℤ) (high : Option ℤ) → undefined_in defs (Ints low high) ≡ Nothing
unfolding undefined_in
undefined-Ints defs low high = ap (undefined_in defs) (sym (Views.rolls-Ints low high)) ∙ fold-roll-Term (Option ℕ) (Option ℕ) (layer_undefined defs) (λ field. field.term) (F.Ints low high)

pub undefined-AtomLit : (defs : List Def) (name : KeyName) → undefined_in defs (AtomLit name) ≡ Nothing
unfolding undefined_in
undefined-AtomLit defs name = ap (undefined_in defs) (sym (Views.rolls-AtomLit name)) ∙ fold-roll-Term (Option ℕ) (Option ℕ) (layer_undefined defs) (λ field. field.term) (F.AtomLit name)

pub undefined-AnyAtom : (defs : List Def) → undefined_in defs AnyAtom ≡ Nothing
unfolding undefined_in
undefined-AnyAtom defs = ap (undefined_in defs) (sym Views.rolls-AnyAtom) ∙ fold-roll-Term (Option ℕ) (Option ℕ) (layer_undefined defs) (λ field. field.term) F.AnyAtom

pub undefined-Nil : (defs : List Def) → undefined_in defs Nil ≡ Nothing
unfolding undefined_in
undefined-Nil defs = ap (undefined_in defs) (sym Views.rolls-Nil) ∙ fold-roll-Term (Option ℕ) (Option ℕ) (layer_undefined defs) (λ field. field.term) F.Nil

pub undefined-Cons : (defs : List Def) (s : Term) (t : Term) → undefined_in defs (Cons s t) ≡ or_else (undefined_in defs s) (undefined_in defs t)
unfolding undefined_in
undefined-Cons defs s t = ap (undefined_in defs) (sym (Views.rolls-Cons s t)) ∙ fold-roll-Term (Option ℕ) (Option ℕ) (layer_undefined defs) (λ field. field.term) (F.Cons s t)

pub undefined-Tuple : (defs : List Def) (ts : List Term) → undefined_in defs (Tuple ts) ≡ undefined_in_terms defs ts
unfolding undefined_in
undefined-Tuple defs ts = ap (undefined_in defs) (sym (Views.rolls-Tuple ts)) ∙ (fold-roll-Term (Option ℕ) (Option ℕ) (layer_undefined defs) (λ field. field.term) (F.Tuple ts) ∙ first-terms defs ts)

pub undefined-AnyTuple : (defs : List Def) → undefined_in defs AnyTuple ≡ Nothing
unfolding undefined_in
undefined-AnyTuple defs = ap (undefined_in defs) (sym Views.rolls-AnyTuple) ∙ fold-roll-Term (Option ℕ) (Option ℕ) (layer_undefined defs) (λ field. field.term) F.AnyTuple

pub undefined-Map : (defs : List Def) (fs : List Field) (r : Option Term) (q : Option Term) → undefined_in defs (Map fs r q) ≡ or_else (undefined_in_fields defs fs) (or_else (undefined_in_rest defs r) (undefined_in_rest defs q))
unfolding undefined_in field-answer
undefined-Map defs fs Nothing Nothing = ap (undefined_in defs) (sym (Views.rolls-Map fs Nothing Nothing)) ∙ (fold-roll-Term (Option ℕ) (Option ℕ) (layer_undefined defs) (λ field. field.term) (F.Map fs Nothing Nothing) ∙ ap (λ x. or_else x (or_else Nothing Nothing)) (first-fields defs fs))
undefined-Map defs fs Nothing (Some q) = ap (undefined_in defs) (sym (Views.rolls-Map fs Nothing (Some q))) ∙ (fold-roll-Term (Option ℕ) (Option ℕ) (layer_undefined defs) (λ field. field.term) (F.Map fs Nothing (Some q)) ∙ ap (λ x. or_else x (or_else Nothing (undefined_in defs q))) (first-fields defs fs))
undefined-Map defs fs (Some r) Nothing = ap (undefined_in defs) (sym (Views.rolls-Map fs (Some r) Nothing)) ∙ (fold-roll-Term (Option ℕ) (Option ℕ) (layer_undefined defs) (λ field. field.term) (F.Map fs (Some r) Nothing) ∙ ap (λ x. or_else x (or_else (undefined_in defs r) Nothing)) (first-fields defs fs))
undefined-Map defs fs (Some r) (Some q) = ap (undefined_in defs) (sym (Views.rolls-Map fs (Some r) (Some q))) ∙ (fold-roll-Term (Option ℕ) (Option ℕ) (layer_undefined defs) (λ field. field.term) (F.Map fs (Some r) (Some q)) ∙ ap (λ x. or_else x (or_else (undefined_in defs r) (undefined_in defs q))) (first-fields defs fs))

pub undefined-Fun : (defs : List Def) (ts : List Term) (t : Term) → undefined_in defs (Fun ts t) ≡ or_else (undefined_in_terms defs ts) (undefined_in defs t)
unfolding undefined_in
undefined-Fun defs ts t = ap (undefined_in defs) (sym (Views.rolls-Fun ts t)) ∙ (fold-roll-Term (Option ℕ) (Option ℕ) (layer_undefined defs) (λ field. field.term) (F.Fun ts t) ∙ ap (λ x. or_else x (undefined_in defs t)) (first-terms defs ts))

pub undefined-AnyFun : (defs : List Def) (n : Option ℕ) → undefined_in defs (AnyFun n) ≡ Nothing
unfolding undefined_in
undefined-AnyFun defs n = ap (undefined_in defs) (sym (Views.rolls-AnyFun n)) ∙ fold-roll-Term (Option ℕ) (Option ℕ) (layer_undefined defs) (λ field. field.term) (F.AnyFun n)

pub undefined-Or : (defs : List Def) (ts : List Term) → undefined_in defs (Or ts) ≡ undefined_in_terms defs ts
unfolding undefined_in
undefined-Or defs ts = ap (undefined_in defs) (sym (Views.rolls-Or ts)) ∙ (fold-roll-Term (Option ℕ) (Option ℕ) (layer_undefined defs) (λ field. field.term) (F.Or ts) ∙ first-terms defs ts)

pub undefined-And : (defs : List Def) (ts : List Term) → undefined_in defs (And ts) ≡ undefined_in_terms defs ts
unfolding undefined_in
undefined-And defs ts = ap (undefined_in defs) (sym (Views.rolls-And ts)) ∙ (fold-roll-Term (Option ℕ) (Option ℕ) (layer_undefined defs) (λ field. field.term) (F.And ts) ∙ first-terms defs ts)

pub undefined-Not : (defs : List Def) (t : Term) → undefined_in defs (Not t) ≡ undefined_in defs t
unfolding undefined_in
undefined-Not defs t = ap (undefined_in defs) (sym (Views.rolls-Not t)) ∙ fold-roll-Term (Option ℕ) (Option ℕ) (layer_undefined defs) (λ field. field.term) (F.Not t)

pub undefined-Var : (defs : List Def) (n : ℕ) → undefined_in defs (Var n) ≡ Nothing
unfolding undefined_in
undefined-Var defs n = ap (undefined_in defs) (sym (Views.rolls-Var n)) ∙ fold-roll-Term (Option ℕ) (Option ℕ) (layer_undefined defs) (λ field. field.term) (F.Var n)

pub undefined-Name : (defs : List Def) (n : ℕ) (ts : List Term) → undefined_in defs (Name n ts) ≡ or_else (undefined_name defs n (length ts)) (undefined_in_terms defs ts)
unfolding undefined_in
undefined-Name defs n ts = ap (undefined_in defs) (sym (Views.rolls-Name n ts)) ∙ (fold-roll-Term (Option ℕ) (Option ℕ) (layer_undefined defs) (λ field. field.term) (F.Name n ts) ∙ (λ i. or_else (undefined_name defs n (length-map (undefined_in defs) ts i)) (first-terms defs ts i)))

pub ruleset undefined_laws = (undefined-Any, undefined-None, undefined-Ints, undefined-AtomLit, undefined-AnyAtom, undefined-Nil, undefined-Cons, undefined-Tuple, undefined-AnyTuple, undefined-Map, undefined-Fun, undefined-AnyFun, undefined-Or, undefined-And, undefined-Not, undefined-Var, undefined-Name)
