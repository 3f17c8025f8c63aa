-- The signs of all variables, found in one walk.
use Rattle.std.proofs.Common.{◌≡◌, refl, sym, ◌∙◌, ap, subst, ℕ, zero, suc, ◌+◌, ◌<◌, List, [], ◌∷◌, take, length, get_or, Bool, true, false, ◌⊎◌, inl, inr, arith, add-one}
use Rattle.std.proofs.lemmas.Bool.{eqb-true, eq-eqb}
use Rattle.std.proofs.lemmas.Result.{IfOk-weaker}
use Rattle.std.specs.Prelude.{IfOk, Result, Ok, Err, Option, slice_get, ◌&&◌, ◌||◌, nat_eq}
use Rattle.type_terms.specs.declared.sign_search.Signs.{Signs}
use Rattle.type_terms.specs.declared.sign_search.DefSigns.{DefSigns}
use Rattle.type_terms.specs.declared.sign_search.Sought.{Sought}
use Rattle.type_terms.specs.declared.sign_search.Sought.TheVariants.{Variable}
use Rattle.type_terms.specs.declared.term.Field.{Field}
use Rattle.type_terms.specs.declared.term.Term.{Term, Cons, Tuple, Map, Fun, Or, And, Not, Var, Name}
use Rattle.type_terms.specs.SignTables.{no_signs, own_signs, either, flipped, through, variable_signs, signs_in, signs_in_terms, signs_in_fields, rest_signs, signs_through, AddsSigns}
use Rattle.type_terms.proofs.SignTableLaws as Laws
use Rattle.type_terms.proofs.SignListLaws.{either-none, either-twice, through-step}

and-none : (a : Bool) → (a && false) ≡ false
and-none true = refl
and-none false = refl

or-swapped : (a b : Bool) → (a || b) ≡ (b || a)
or-swapped true true = refl
or-swapped true false = refl
or-swapped false true = refl
or-swapped false false = refl

shared : (p q a b c d : Bool) → ((p && (a || b)) || (q && (c || d))) ≡ (((p && a) || (q && c)) || ((p && b) || (q && d)))
shared true true true true true true = refl
shared true true true true true false = refl
shared true true true true false true = refl
shared true true true true false false = refl
shared true true true false true true = refl
shared true true true false true false = refl
shared true true true false false true = refl
shared true true true false false false = refl
shared true true false true true true = refl
shared true true false true true false = refl
shared true true false true false true = refl
shared true true false true false false = refl
shared true true false false true true = refl
shared true true false false true false = refl
shared true true false false false true = refl
shared true true false false false false = refl
shared true false true true true true = refl
shared true false true true true false = refl
shared true false true true false true = refl
shared true false true true false false = refl
shared true false true false true true = refl
shared true false true false true false = refl
shared true false true false false true = refl
shared true false true false false false = refl
shared true false false true true true = refl
shared true false false true true false = refl
shared true false false true false true = refl
shared true false false true false false = refl
shared true false false false true true = refl
shared true false false false true false = refl
shared true false false false false true = refl
shared true false false false false false = refl
shared false true true true true true = refl
shared false true true true true false = refl
shared false true true true false true = refl
shared false true true true false false = refl
shared false true true false true true = refl
shared false true true false true false = refl
shared false true true false false true = refl
shared false true true false false false = refl
shared false true false true true true = refl
shared false true false true true false = refl
shared false true false true false true = refl
shared false true false true false false = refl
shared false true false false true true = refl
shared false true false false true false = refl
shared false true false false false true = refl
shared false true false false false false = refl
shared false false true true true true = refl
shared false false true true true false = refl
shared false false true true false true = refl
shared false false true true false false = refl
shared false false true false true true = refl
shared false false true false true false = refl
shared false false true false false true = refl
shared false false true false false false = refl
shared false false false true true true = refl
shared false false false true true false = refl
shared false false false true false true = refl
shared false false false true false false = refl
shared false false false false true true = refl
shared false false false false true false = refl
shared false false false false false true = refl
shared false false false false false false = refl

nested : (r s p q a b : Bool) → ((r && ((p && a) || (q && b))) || (s && ((p && b) || (q && a)))) ≡ ((((r && p) || (s && q)) && a) || (((r && q) || (s && p)) && b))
nested true true true true true true = refl
nested true true true true true false = refl
nested true true true true false true = refl
nested true true true true false false = refl
nested true true true false true true = refl
nested true true true false true false = refl
nested true true true false false true = refl
nested true true true false false false = refl
nested true true false true true true = refl
nested true true false true true false = refl
nested true true false true false true = refl
nested true true false true false false = refl
nested true true false false true true = refl
nested true true false false true false = refl
nested true true false false false true = refl
nested true true false false false false = refl
nested true false true true true true = refl
nested true false true true true false = refl
nested true false true true false true = refl
nested true false true true false false = refl
nested true false true false true true = refl
nested true false true false true false = refl
nested true false true false false true = refl
nested true false true false false false = refl
nested true false false true true true = refl
nested true false false true true false = refl
nested true false false true false true = refl
nested true false false true false false = refl
nested true false false false true true = refl
nested true false false false true false = refl
nested true false false false false true = refl
nested true false false false false false = refl
nested false true true true true true = refl
nested false true true true true false = refl
nested false true true true false true = refl
nested false true true true false false = refl
nested false true true false true true = refl
nested false true true false true false = refl
nested false true true false false true = refl
nested false true true false false false = refl
nested false true false true true true = refl
nested false true false true true false = refl
nested false true false true false true = refl
nested false true false true false false = refl
nested false true false false true true = refl
nested false true false false true false = refl
nested false true false false false true = refl
nested false true false false false false = refl
nested false false true true true true = refl
nested false false true true true false = refl
nested false false true true false true = refl
nested false false true true false false = refl
nested false false true false true true = refl
nested false false true false true false = refl
nested false false true false false true = refl
nested false false true false false false = refl
nested false false false true true true = refl
nested false false false true true false = refl
nested false false false true false true = refl
nested false false false true false false = refl
nested false false false false true true = refl
nested false false false false true false = refl
nested false false false false false true = refl
nested false false false false false false = refl

none-of : (a b : Bool) → ((a && false) || (b && false)) ≡ false
none-of true true = refl
none-of true false = refl
none-of false true = refl
none-of false false = refl

first-of : (a b : Bool) → ((a && true) || (b && false)) ≡ a
first-of true true = refl
first-of true false = refl
first-of false true = refl
first-of false false = refl

second-of : (a b : Bool) → ((a && false) || (b && true)) ≡ b
second-of true true = refl
second-of true false = refl
second-of false true = refl
second-of false false = refl

pub through-none : (p : Signs) → through p no_signs ≡ no_signs
through-none p = λ i. record { even = none-of p.even p.odd i; odd = none-of p.even p.odd i }

pub through-own : (p : Signs) → through p (own_signs true) ≡ p
through-own p = λ i. record { even = first-of p.even p.odd i; odd = second-of p.even p.odd i }

pub own-through : (a : Signs) → through (own_signs true) a ≡ a
own-through a = λ i. record { even = or-false a.even i; odd = or-false a.odd i }
  where
    or-false : (b : Bool) → (b || false) ≡ b
    or-false true = refl
    or-false false = refl

pub through-either : (p a b : Signs) → through p (either a b) ≡ either (through p a) (through p b)
through-either p a b = λ i. record { even = shared p.even p.odd a.even b.even a.odd b.odd i; odd = shared p.even p.odd a.odd b.odd a.even b.even i }

pub through-flipped : (p a : Signs) → through (flipped p) a ≡ through p (flipped a)
through-flipped p a = λ i. record { even = or-swapped (p.odd && a.even) (p.even && a.odd) i; odd = or-swapped (p.odd && a.odd) (p.even && a.even) i }

pub through-twice : (r p a : Signs) → through r (through p a) ≡ through (through r p) a
through-twice r p a = λ i. record { even = nested r.even r.odd p.even p.odd a.even a.odd i; odd = nested r.even r.odd p.even p.odd a.odd a.even i }

IfOk-both : {X E : Type 0} (r : Result X E) (P Q R : X → Type 0) → ((x : X) → P x → Q x → R x) → IfOk r P → IfOk r Q → IfOk r R
IfOk-both (Ok x) P Q R f p q = f x p q
IfOk-both (Err y) P Q R f p q = tt

pub adds-none : (around : Signs) (old : List Signs) → AddsSigns around (λ i. no_signs) old old
adds-none around old = λ i. sym (ap (either (get_or old i no_signs)) (through-none around) ∙ either-none (get_or old i no_signs))

pub adds-both : (around : Signs) (f g : ℕ → Signs) (old middle new : List Signs) → AddsSigns around f old middle → AddsSigns around g middle new → AddsSigns around (λ i. either (f i) (g i)) old new
adds-both around f g old middle new p q = λ i.
    q i ∙ (ap (λ x. either x (through around (g i))) (p i)
    ∙ (either-twice (get_or old i no_signs) (through around (f i)) (through around (g i))
    ∙ ap (either (get_or old i no_signs)) (sym (through-either around (f i) (g i)))))

pub adds-same : (around : Signs) (f g : ℕ → Signs) (old new : List Signs) → ((i : ℕ) → f i ≡ g i) → AddsSigns around f old new → AddsSigns around g old new
adds-same around f g old new e p = λ i. p i ∙ ap (λ x. either (get_or old i no_signs) (through around x)) (e i)

pub adds-flipped : (around : Signs) (f : ℕ → Signs) (old new : List Signs) → AddsSigns (flipped around) f old new → AddsSigns around (λ i. flipped (f i)) old new
adds-flipped around f old new p = λ i. p i ∙ ap (either (get_or old i no_signs)) (through-flipped around (f i))

pub adds-through : (around parameter : Signs) (f : ℕ → Signs) (old new : List Signs) → AddsSigns (through around parameter) f old new → AddsSigns around (λ i. through parameter (f i)) old new
adds-through around parameter f old new p = λ i. p i ∙ ap (either (get_or old i no_signs)) (sym (through-twice around parameter (f i)))

pub adds-variable : (around : Signs) (n : ℕ) (old new : List Signs) → get_or new n no_signs ≡ either (get_or old n no_signs) around → ((i : ℕ) → (i ≡ n → ⊥) → get_or new i no_signs ≡ get_or old i no_signs) → AddsSigns around (λ i. own_signs (nat_eq i n)) old new
adds-variable around n old new here elsewhere = λ i. go i (nat_eq i n) refl
  where
    differs : nat_eq n n ≡ false → ⊥
    differs e = let t : nat_eq n n ≡ true = eq-eqb n n refl in absurd (cc)

    go : (i : ℕ) (b : Bool) → nat_eq i n ≡ b → get_or new i no_signs ≡ either (get_or old i no_signs) (through around (own_signs b))
    go i true e = subst (λ m. get_or new m no_signs ≡ either (get_or old m no_signs) (through around (own_signs true))) (sym (eqb-true i n e)) (here ∙ ap (either (get_or old n no_signs)) (sym (through-own around)))
    go i false e = elsewhere i (λ q. differs (sym (ap (λ m. nat_eq m n) q) ∙ e)) ∙ adds-none around old i

-- lists with one more item
terms-more : (table : List DefSigns) (w : Sought) (ts : List Term) (i : ℕ) (d : Term) → i < length ts → signs_in_terms table w (take (suc i) ts) ≡ either (signs_in_terms table w (take i ts)) (signs_in table w (get_or ts i d))
terms-more table w [] i d l = absurd (omega arith)
terms-more table w (t ∷ ts) zero d l = either-none (signs_in table w t)
terms-more table w (t ∷ ts) (suc i) d l = ap (either (signs_in table w t)) (terms-more table w ts i d (omega arith)) ∙ sym (either-twice (signs_in table w t) (signs_in_terms table w (take i ts)) (signs_in table w (get_or ts i d)))

fields-more : (table : List DefSigns) (w : Sought) (fs : List Field) (i : ℕ) (d : Field) → i < length fs → signs_in_fields table w (take (suc i) fs) ≡ either (signs_in_fields table w (take i fs)) (signs_in table w (get_or fs i d).term)
fields-more table w [] i d l = absurd (omega arith)
fields-more table w (f ∷ fs) zero d l = either-none (signs_in table w f.term)
fields-more table w (f ∷ fs) (suc i) d l = ap (either (signs_in table w f.term)) (fields-more table w fs i d (omega arith)) ∙ sym (either-twice (signs_in table w f.term) (signs_in_fields table w (take i fs)) (signs_in table w (get_or fs i d).term))

pub terms-step : (table : List DefSigns) (around : Signs) (ts : List Term) (n : ℕ) (d : Term) (old middle new : List Signs) → n < length ts → AddsSigns around (λ i. signs_in_terms table (Variable i) (take n ts)) old middle → AddsSigns around (λ i. signs_in table (Variable i) (get_or ts n d)) middle new → AddsSigns around (λ i. signs_in_terms table (Variable i) (take (n + 1) ts)) old new
terms-step table around ts n d old middle new l p q =
    adds-same around (λ i. either (signs_in_terms table (Variable i) (take n ts)) (signs_in table (Variable i) (get_or ts n d))) (λ i. signs_in_terms table (Variable i) (take (n + 1) ts)) old new
    (λ i. sym (terms-more table (Variable i) ts n d l) ∙ ap (λ k. signs_in_terms table (Variable i) (take k ts)) (sym (add-one n)))
    (adds-both around (λ i. signs_in_terms table (Variable i) (take n ts)) (λ i. signs_in table (Variable i) (get_or ts n d)) old middle new p q)

pub fields-step : (table : List DefSigns) (around : Signs) (fs : List Field) (n : ℕ) (d : Field) (old middle new : List Signs) → n < length fs → AddsSigns around (λ i. signs_in_fields table (Variable i) (take n fs)) old middle → AddsSigns around (λ i. signs_in table (Variable i) (get_or fs n d).term) middle new → AddsSigns around (λ i. signs_in_fields table (Variable i) (take (n + 1) fs)) old new
fields-step table around fs n d old middle new l p q =
    adds-same around (λ i. either (signs_in_fields table (Variable i) (take n fs)) (signs_in table (Variable i) (get_or fs n d).term)) (λ i. signs_in_fields table (Variable i) (take (n + 1) fs)) old new
    (λ i. sym (fields-more table (Variable i) fs n d l) ∙ ap (λ k. signs_in_fields table (Variable i) (take k fs)) (sym (add-one n)))
    (adds-both around (λ i. signs_in_fields table (Variable i) (take n fs)) (λ i. signs_in table (Variable i) (get_or fs n d).term) old middle new p q)

pub arguments-step : (table : List DefSigns) (around : Signs) (m : ℕ) (ts : List Term) (n : ℕ) (d : Term) (old middle new : List Signs) → n < length ts → AddsSigns around (λ i. signs_through table (Variable i) m 0 (take n ts)) old middle → AddsSigns (through around (variable_signs (slice_get table m) n)) (λ i. signs_in table (Variable i) (get_or ts n d)) middle new → AddsSigns around (λ i. signs_through table (Variable i) m 0 (take (n + 1) ts)) old new
arguments-step table around m ts n d old middle new l p q =
    adds-same around (λ i. either (signs_through table (Variable i) m 0 (take n ts)) (through (variable_signs (slice_get table m) n) (signs_in table (Variable i) (get_or ts n d)))) (λ i. signs_through table (Variable i) m 0 (take (n + 1) ts)) old new
    (λ i. through-step table (Variable i) m ts n d (signs_through table (Variable i) m 0 (take n ts)) l refl)
    (adds-both around (λ i. signs_through table (Variable i) m 0 (take n ts)) (λ i. through (variable_signs (slice_get table m) n) (signs_in table (Variable i) (get_or ts n d))) old middle new p (adds-through around (variable_signs (slice_get table m) n) (λ i. signs_in table (Variable i) (get_or ts n d)) middle new q))

-- where a term has no parts
pub adds-nothing : (a around : Signs) → either a (through around no_signs) ≡ a
adds-nothing a around = ap (either a) (through-none around) ∙ either-none a

pub ruleset leaf_laws = (Laws.signs-Any, Laws.signs-None, Laws.signs-Ints, Laws.signs-AtomLit, Laws.signs-AnyAtom, Laws.signs-Nil, Laws.signs-AnyTuple, Laws.signs-AnyFun, adds-nothing)

-- the parts of each kind of term, one after another
module _ {E : Type 0} (r : Result (Unit {0}) E) (table : List DefSigns) (around : Signs) (whole : Term) where
  pub adds-cons : (s t head tail : Term) (old middle new : List Signs) → whole ≡ Cons s t → head ≡ s → tail ≡ t → AddsSigns around (λ i. signs_in table (Variable i) head) old middle → IfOk r (λ _. AddsSigns around (λ i. signs_in table (Variable i) tail) middle new) → IfOk r (λ _. AddsSigns around (λ i. signs_in table (Variable i) whole) old new)
  adds-cons s t head tail old middle new e h k p q =
      IfOk-weaker r (λ _. AddsSigns around (λ i. signs_in table (Variable i) tail) middle new) (λ _. AddsSigns around (λ i. signs_in table (Variable i) whole) old new)
      (λ _ q'. adds-same around (λ i. either (signs_in table (Variable i) head) (signs_in table (Variable i) tail)) (λ i. signs_in table (Variable i) whole) old new
      (λ i. (λ j. either (signs_in table (Variable i) (h j)) (signs_in table (Variable i) (k j))) ∙ (sym (Laws.signs-Cons table (Variable i) s t) ∙ ap (signs_in table (Variable i)) (sym e)))
      (adds-both around (λ i. signs_in table (Variable i) head) (λ i. signs_in table (Variable i) tail) old middle new p q')) q

  pub adds-map : (fs fs' : List Field) (m n m' n' : Option Term) (old first second new : List Signs) → whole ≡ Map fs m n → fs' ≡ fs → m' ≡ m → n' ≡ n → AddsSigns around (λ i. signs_in_fields table (Variable i) fs') old first → AddsSigns around (λ i. rest_signs table (Variable i) m') first second → IfOk r (λ _. AddsSigns around (λ i. rest_signs table (Variable i) n') second new) → IfOk r (λ _. AddsSigns around (λ i. signs_in table (Variable i) whole) old new)
  adds-map fs fs' m n m' n' old first second new e h k l p q o =
      IfOk-weaker r (λ _. AddsSigns around (λ i. rest_signs table (Variable i) n') second new) (λ _. AddsSigns around (λ i. signs_in table (Variable i) whole) old new)
      (λ _ o'. adds-same around (λ i. either (signs_in_fields table (Variable i) fs') (either (rest_signs table (Variable i) m') (rest_signs table (Variable i) n'))) (λ i. signs_in table (Variable i) whole) old new
      (λ i. (λ j. either (signs_in_fields table (Variable i) (h j)) (either (rest_signs table (Variable i) (k j)) (rest_signs table (Variable i) (l j)))) ∙ (sym (Laws.signs-Map table (Variable i) fs m n) ∙ ap (signs_in table (Variable i)) (sym e)))
      (adds-both around (λ i. signs_in_fields table (Variable i) fs') (λ i. either (rest_signs table (Variable i) m') (rest_signs table (Variable i) n')) old first new p
      (adds-both around (λ i. rest_signs table (Variable i) m') (λ i. rest_signs table (Variable i) n') first second new q o'))) o

  pub adds-fun : (ts ts' : List Term) (t t' : Term) (old middle new : List Signs) → whole ≡ Fun ts t → ts' ≡ ts → t' ≡ t → AddsSigns around (λ i. signs_in_terms table (Variable i) ts') old middle → IfOk r (λ _. AddsSigns around (λ i. signs_in table (Variable i) t') middle new) → IfOk r (λ _. AddsSigns around (λ i. signs_in table (Variable i) whole) old new)
  adds-fun ts ts' t t' old middle new e h k p q =
      IfOk-weaker r (λ _. AddsSigns around (λ i. signs_in table (Variable i) t') middle new) (λ _. AddsSigns around (λ i. signs_in table (Variable i) whole) old new)
      (λ _ q'. adds-same around (λ i. either (signs_in_terms table (Variable i) ts') (signs_in table (Variable i) t')) (λ i. signs_in table (Variable i) whole) old new
      (λ i. (λ j. either (signs_in_terms table (Variable i) (h j)) (signs_in table (Variable i) (k j))) ∙ (sym (Laws.signs-Fun table (Variable i) ts t) ∙ ap (signs_in table (Variable i)) (sym e)))
      (adds-both around (λ i. signs_in_terms table (Variable i) ts') (λ i. signs_in table (Variable i) t') old middle new p q')) q

  pub adds-not : (t t' : Term) (inside : Signs) (old new : List Signs) → whole ≡ Not t → t' ≡ t → inside ≡ flipped around → IfOk r (λ _. AddsSigns inside (λ i. signs_in table (Variable i) t') old new) → IfOk r (λ _. AddsSigns around (λ i. signs_in table (Variable i) whole) old new)
  adds-not t t' inside old new e h k q =
      IfOk-weaker r (λ _. AddsSigns inside (λ i. signs_in table (Variable i) t') old new) (λ _. AddsSigns around (λ i. signs_in table (Variable i) whole) old new)
      (λ _ q'. adds-same around (λ i. flipped (signs_in table (Variable i) t')) (λ i. signs_in table (Variable i) whole) old new
      (λ i. ap (λ x. flipped (signs_in table (Variable i) x)) h ∙ (sym (Laws.signs-Not table (Variable i) t) ∙ ap (signs_in table (Variable i)) (sym e)))
      (adds-flipped around (λ i. signs_in table (Variable i) t') old new (subst (λ x. AddsSigns x (λ i. signs_in table (Variable i) t') old new) k q'))) q

  pub adds-var : (n : ℕ) (old new : List Signs) → whole ≡ Var n → IfOk r (λ _. get_or new n no_signs ≡ either (get_or old n no_signs) around) → IfOk r (λ _. (i : ℕ) → (i ≡ n → ⊥) → get_or new i no_signs ≡ get_or old i no_signs) → IfOk r (λ _. AddsSigns around (λ i. signs_in table (Variable i) whole) old new)
  adds-var n old new e here elsewhere =
      IfOk-both r (λ _. get_or new n no_signs ≡ either (get_or old n no_signs) around) (λ _. (i : ℕ) → (i ≡ n → ⊥) → get_or new i no_signs ≡ get_or old i no_signs) (λ _. AddsSigns around (λ i. signs_in table (Variable i) whole) old new)
      (λ _ p q. adds-same around (λ i. own_signs (nat_eq i n)) (λ i. signs_in table (Variable i) whole) old new
      (λ i. sym (Laws.signs-Var table (Variable i) n) ∙ ap (signs_in table (Variable i)) (sym e))
      (adds-variable around n old new p q)) here elsewhere

  pub adds-name : (n : ℕ) (ts ts' : List Term) (old new : List Signs) → whole ≡ Name n ts → ts' ≡ ts → IfOk r (λ _. AddsSigns around (λ i. signs_through table (Variable i) n 0 ts') old new) → IfOk r (λ _. AddsSigns around (λ i. signs_in table (Variable i) whole) old new)
  adds-name n ts ts' old new e h q =
      IfOk-weaker r (λ _. AddsSigns around (λ i. signs_through table (Variable i) n 0 ts') old new) (λ _. AddsSigns around (λ i. signs_in table (Variable i) whole) old new)
      (λ _ q'. adds-same around (λ i. signs_through table (Variable i) n 0 ts') (λ i. signs_in table (Variable i) whole) old new
      (λ i. ap (λ (xs : List Term). signs_through table (Variable i) n 0 xs) h ∙ (sym (Laws.signs-Name table (Variable i) n ts) ∙ ap (signs_in table (Variable i)) (sym e))) q') q

  parts-of : (ts : List Term) → (whole ≡ Tuple ts) ⊎ ((whole ≡ Or ts) ⊎ (whole ≡ And ts)) → (i : ℕ) → signs_in table (Variable i) whole ≡ signs_in_terms table (Variable i) ts
  parts-of ts (inl e) i = ap (signs_in table (Variable i)) e ∙ Laws.signs-Tuple table (Variable i) ts
  parts-of ts (inr (inl e)) i = ap (signs_in table (Variable i)) e ∙ Laws.signs-Or table (Variable i) ts
  parts-of ts (inr (inr e)) i = ap (signs_in table (Variable i)) e ∙ Laws.signs-And table (Variable i) ts

  pub adds-parts : (ts ts' : List Term) (old new : List Signs) → (whole ≡ Tuple ts) ⊎ ((whole ≡ Or ts) ⊎ (whole ≡ And ts)) → ts' ≡ ts → IfOk r (λ _. AddsSigns around (λ i. signs_in_terms table (Variable i) ts') old new) → IfOk r (λ _. AddsSigns around (λ i. signs_in table (Variable i) whole) old new)
  adds-parts ts ts' old new e h q =
      IfOk-weaker r (λ _. AddsSigns around (λ i. signs_in_terms table (Variable i) ts') old new) (λ _. AddsSigns around (λ i. signs_in table (Variable i) whole) old new)
      (λ _ q'. adds-same around (λ i. signs_in_terms table (Variable i) ts') (λ i. signs_in table (Variable i) whole) old new (λ i. ap (λ (xs : List Term). signs_in_terms table (Variable i) xs) h ∙ sym (parts-of ts e i)) q') q
