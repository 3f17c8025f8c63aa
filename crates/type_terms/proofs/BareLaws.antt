-- The bare numbers in each kind of term, and in a list with one more item.
use Rattle.std.proofs.Common.{◌≡◌, refl, sym, ◌∙◌, ap, ℕ, zero, suc, ◌+◌, ◌<◌, ℤ, List, [], ◌∷◌, ◌++◌, length, map, take, get_or, Bool, cond, arith, append_assoc, append-nil, zero-add, add-zero, add-one, false}
use Rattle.std.specs.Prelude.{Option, Some, None as Nothing, slice_get}
use Rattle.std.specs.Option.{unwrap_or}
use Rattle.std.proofs.lemmas.Option.{unwrap_or-slice_get}
use Rattle.type_terms.specs.Keys.{Name as KeyName}
use Rattle.type_terms.specs.declared.term.Field.{Field}
use Rattle.type_terms.specs.declared.term.Term.{Term, fold-roll-Term, Any, None, Ints, AtomLit, AnyAtom, Nil, Cons, Tuple, AnyTuple, Map, Fun, AnyFun, Or, And, Not, Var, Name}
use Rattle.type_terms.specs.declared.term.Term.TheOpen as F
use Rattle.type_terms.specs.declared.term.Term.TheViews as Views
use Rattle.type_terms.specs.declared.openness.Wanted.{Wanted}
use Rattle.type_terms.specs.BareNumbers.{variable_number, name_number, joined, open_ones, layer_bare, bare_in, bare_in_terms, bare_in_arguments, open_by}

joined-terms : (w : Wanted) (o : ℕ → ℕ → Bool) (ts : List Term) → joined (map (bare_in w o) ts) ≡ bare_in_terms w o ts
joined-terms w o [] = refl
joined-terms w o (t ∷ ts) = ap (λ x. bare_in w o t ++ x) (joined-terms w o ts)

open-arguments : (w : Wanted) (o : ℕ → ℕ → Bool) (n j : ℕ) (ts : List Term) → open_ones (o n) j (map (bare_in w o) ts) ≡ bare_in_arguments w o n j ts
open-arguments w o n j [] = refl
open-arguments w o n j (t ∷ ts) = ap (λ x. cond (o n j) (bare_in w o t) [] ++ x) (open-arguments w o n (suc j) ts)

pub bare-Any : (w : Wanted) (o : ℕ → ℕ → Bool) → bare_in w o Any ≡ []
unfolding bare_in
bare-Any w o = ap (bare_in w o) (sym Views.rolls-Any) ∙ fold-roll-Term (List ℕ) (List ℕ) (layer_bare w o) (λ field. field.term) F.Any

pub bare-None : (w : Wanted) (o : ℕ → ℕ → Bool) → bare_in w o None ≡ []
unfolding bare_in
bare-None w o = ap (bare_in w o) (sym Views.rolls-None) ∙ fold-roll-Term (List ℕ) (List ℕ) (layer_bare w o) (λ field. field.term) F.None

pub bare-Ints : (w : Wanted) (o : ℕ → ℕ → Bool) (low : Option ℤ) (high : Option ℤ) → bare_in w o (Ints low high) ≡ []
unfolding bare_in
bare-Ints w o low high = ap (bare_in w o) (sym (Views.rolls-Ints low high)) ∙ fold-roll-Term (List ℕ) (List ℕ) (layer_bare w o) (λ field. field.term) (F.Ints low high)

pub bare-AtomLit : (w : Wanted) (o : ℕ → ℕ → Bool) (name : KeyName) → bare_in w o (AtomLit name) ≡ []
unfolding bare_in
bare-AtomLit w o name = ap (bare_in w o) (sym (Views.rolls-AtomLit name)) ∙ fold-roll-Term (List ℕ) (List ℕ) (layer_bare w o) (λ field. field.term) (F.AtomLit name)

pub bare-AnyAtom : (w : Wanted) (o : ℕ → ℕ → Bool) → bare_in w o AnyAtom ≡ []
unfolding bare_in
bare-AnyAtom w o = ap (bare_in w o) (sym Views.rolls-AnyAtom) ∙ fold-roll-Term (List ℕ) (List ℕ) (layer_bare w o) (λ field. field.term) F.AnyAtom

pub bare-Nil : (w : Wanted) (o : ℕ → ℕ → Bool) → bare_in w o Nil ≡ []
unfolding bare_in
bare-Nil w o = ap (bare_in w o) (sym Views.rolls-Nil) ∙ fold-roll-Term (List ℕ) (List ℕ) (layer_bare w o) (λ field. field.term) F.Nil

pub bare-Cons : (w : Wanted) (o : ℕ → ℕ → Bool) (s : Term) (t : Term) → bare_in w o (Cons s t) ≡ []
unfolding bare_in
bare-Cons w o s t = ap (bare_in w o) (sym (Views.rolls-Cons s t)) ∙ fold-roll-Term (List ℕ) (List ℕ) (layer_bare w o) (λ field. field.term) (F.Cons s t)

pub bare-Tuple : (w : Wanted) (o : ℕ → ℕ → Bool) (ts : List Term) → bare_in w o (Tuple ts) ≡ []
unfolding bare_in
bare-Tuple w o ts = ap (bare_in w o) (sym (Views.rolls-Tuple ts)) ∙ fold-roll-Term (List ℕ) (List ℕ) (layer_bare w o) (λ field. field.term) (F.Tuple ts)

pub bare-AnyTuple : (w : Wanted) (o : ℕ → ℕ → Bool) → bare_in w o AnyTuple ≡ []
unfolding bare_in
bare-AnyTuple w o = ap (bare_in w o) (sym Views.rolls-AnyTuple) ∙ fold-roll-Term (List ℕ) (List ℕ) (layer_bare w o) (λ field. field.term) F.AnyTuple

pub bare-Map : (w : Wanted) (o : ℕ → ℕ → Bool) (fs : List Field) (r : Option Term) (q : Option Term) → bare_in w o (Map fs r q) ≡ []
unfolding bare_in
bare-Map w o fs r q = ap (bare_in w o) (sym (Views.rolls-Map fs r q)) ∙ fold-roll-Term (List ℕ) (List ℕ) (layer_bare w o) (λ field. field.term) (F.Map fs r q)

pub bare-Fun : (w : Wanted) (o : ℕ → ℕ → Bool) (ts : List Term) (t : Term) → bare_in w o (Fun ts t) ≡ []
unfolding bare_in
bare-Fun w o ts t = ap (bare_in w o) (sym (Views.rolls-Fun ts t)) ∙ fold-roll-Term (List ℕ) (List ℕ) (layer_bare w o) (λ field. field.term) (F.Fun ts t)

pub bare-AnyFun : (w : Wanted) (o : ℕ → ℕ → Bool) (n : Option ℕ) → bare_in w o (AnyFun n) ≡ []
unfolding bare_in
bare-AnyFun w o n = ap (bare_in w o) (sym (Views.rolls-AnyFun n)) ∙ fold-roll-Term (List ℕ) (List ℕ) (layer_bare w o) (λ field. field.term) (F.AnyFun n)

pub bare-Or : (w : Wanted) (o : ℕ → ℕ → Bool) (ts : List Term) → bare_in w o (Or ts) ≡ bare_in_terms w o ts
unfolding bare_in
bare-Or w o ts = ap (bare_in w o) (sym (Views.rolls-Or ts)) ∙ (fold-roll-Term (List ℕ) (List ℕ) (layer_bare w o) (λ field. field.term) (F.Or ts) ∙ joined-terms w o ts)

pub bare-And : (w : Wanted) (o : ℕ → ℕ → Bool) (ts : List Term) → bare_in w o (And ts) ≡ bare_in_terms w o ts
unfolding bare_in
bare-And w o ts = ap (bare_in w o) (sym (Views.rolls-And ts)) ∙ (fold-roll-Term (List ℕ) (List ℕ) (layer_bare w o) (λ field. field.term) (F.And ts) ∙ joined-terms w o ts)

pub bare-Not : (w : Wanted) (o : ℕ → ℕ → Bool) (t : Term) → bare_in w o (Not t) ≡ bare_in w o t
unfolding bare_in
bare-Not w o t = ap (bare_in w o) (sym (Views.rolls-Not t)) ∙ fold-roll-Term (List ℕ) (List ℕ) (layer_bare w o) (λ field. field.term) (F.Not t)

pub bare-Var : (w : Wanted) (o : ℕ → ℕ → Bool) (n : ℕ) → bare_in w o (Var n) ≡ variable_number w n
unfolding bare_in
bare-Var w o n = ap (bare_in w o) (sym (Views.rolls-Var n)) ∙ fold-roll-Term (List ℕ) (List ℕ) (layer_bare w o) (λ field. field.term) (F.Var n)

pub bare-Name : (w : Wanted) (o : ℕ → ℕ → Bool) (n : ℕ) (ts : List Term) → bare_in w o (Name n ts) ≡ name_number w n ++ bare_in_arguments w o n 0 ts
unfolding bare_in
bare-Name w o n ts = ap (bare_in w o) (sym (Views.rolls-Name n ts)) ∙ (fold-roll-Term (List ℕ) (List ℕ) (layer_bare w o) (λ field. field.term) (F.Name n ts) ∙ ap (λ x. name_number w n ++ x) (open-arguments w o n 0 ts))

pub terms-more : (w : Wanted) (o : ℕ → ℕ → Bool) (ts : List Term) (t : Term) → bare_in_terms w o (ts ++ t ∷ []) ≡ bare_in_terms w o ts ++ bare_in w o t
terms-more w o [] t = append-nil (bare_in w o t)
terms-more w o (s ∷ ts) t = ap (λ x. bare_in w o s ++ x) (terms-more w o ts t) ∙ sym (append_assoc (bare_in w o s) (bare_in_terms w o ts) (bare_in w o t))

arguments-more : (w : Wanted) (o : ℕ → ℕ → Bool) (n : ℕ) (ts : List Term) (i j : ℕ) (d : Term) → i < length ts → bare_in_arguments w o n j (take (suc i) ts) ≡ bare_in_arguments w o n j (take i ts) ++ cond (o n (i + j)) (bare_in w o (get_or ts i d)) []
arguments-more w o n [] i j d l = absurd (omega arith)
arguments-more w o n (t ∷ ts) zero j d l = append-nil (cond (o n j) (bare_in w o t) []) ∙ ap (λ k. cond (o n k) (bare_in w o t) []) (sym (zero-add j))
arguments-more w o n (t ∷ ts) (suc i) j d l =
    let l' : i < length ts = omega arith in
    let e : i + suc j ≡ suc i + j = omega arith in
    ap (λ x. cond (o n j) (bare_in w o t) [] ++ x) (arguments-more w o n ts i (suc j) d l' ∙ ap (λ k. bare_in_arguments w o n (suc j) (take i ts) ++ cond (o n k) (bare_in w o (get_or ts i d)) []) e)
    ∙ sym (append_assoc (cond (o n j) (bare_in w o t) []) (bare_in_arguments w o n (suc j) (take i ts)) (cond (o n (suc i + j)) (bare_in w o (get_or ts i d)) []))

-- one more argument
pub argument-step : (w : Wanted) (o : ℕ → ℕ → Bool) (n : ℕ) (ts : List Term) (i : ℕ) (d : Term) (start found found' : List ℕ) (b : Bool) → i < length ts → found ≡ start ++ bare_in_arguments w o n 0 (take i ts) → o n i ≡ b → found' ≡ found ++ cond b (bare_in w o (get_or ts i d)) [] → found' ≡ start ++ bare_in_arguments w o n 0 (take (i + 1) ts)
argument-step w o n ts i d start found found' b l e q r =
    r
    ∙ (ap (λ x. x ++ cond b (bare_in w o (get_or ts i d)) []) e
    ∙ (append_assoc start (bare_in_arguments w o n 0 (take i ts)) (cond b (bare_in w o (get_or ts i d)) [])
    ∙ ap (λ x. start ++ x) (ap (λ x. bare_in_arguments w o n 0 (take i ts) ++ cond x (bare_in w o (get_or ts i d)) []) (sym q ∙ ap (o n) (sym (add-zero i))) ∙ (sym (arguments-more w o n ts i 0 d l) ∙ ap (λ k. bare_in_arguments w o n 0 (take k ts)) (sym (add-one i))))))

pub open-is : (table : List (List Bool)) (n i : ℕ) (ps : List Bool) (o : Option Bool) → slice_get table n ≡ Some ps → slice_get ps i ≡ o → open_by table n i ≡ unwrap_or o false
open-is table n i ps o e f = ap (λ qs. get_or qs i false) (sym (unwrap_or-slice_get table n []) ∙ ap (λ p. unwrap_or p []) e) ∙ (sym (unwrap_or-slice_get ps i false) ∙ ap (λ p. unwrap_or p false) f)

pub open-none : (table : List (List Bool)) (n i : ℕ) → slice_get table n ≡ Nothing → open_by table n i ≡ false
open-none table n i e = ap (λ qs. get_or qs i false) (sym (unwrap_or-slice_get table n []) ∙ ap (λ p. unwrap_or p []) e)

pub ruleset bare_laws = (bare-Any, bare-None, bare-Ints, bare-AtomLit, bare-AnyAtom, bare-Nil, bare-Cons, bare-Tuple, bare-AnyTuple, bare-Map, bare-Fun, bare-AnyFun, bare-Or, bare-And, bare-Not, bare-Var, bare-Name, terms-more)
