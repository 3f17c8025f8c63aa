-- Marks of the variables that stand in the parts of a term, one part after another.
use Rattle.std.proofs.Common.{◌≡◌, refl, sym, ◌∙◌, ap, ℕ, zero, suc, ◌+◌, ◌<◌, List, [], ◌∷◌, take, length, map, get_or, Bool, true, false, ◌⊎◌, inl, inr, arith, add-one, subst}
use Rattle.std.proofs.lemmas.Bool.{eqb-true, eq-eqb}
use Rattle.std.proofs.lemmas.Result.{IfOk-weaker}
use Rattle.std.specs.Prelude.{IfOk, Result, Ok, Err, Option, Some, None as Nothing, ◌||◌, nat_eq}
use Rattle.type_terms.specs.declared.term.Field.{Field, fold-Field, fold_out-Field}
use Rattle.type_terms.specs.declared.term.Term.{Term, fold-roll-Term, Cons, Tuple, Map, Fun, Or, And, Not, Var, Name}
use Rattle.type_terms.specs.declared.term.Term.TheOpen as F
use Rattle.type_terms.specs.declared.term.Term.TheViews as Views
use Rattle.typespecs_rules.specs.SpecTerms.{holds_variable, holds_layer, some_true}
use Rattle.typespecs_rules.proofs.VariableLaws as Laws
use Rattle.typespecs_clauses.specs.Held.{holds_in_terms, holds_in_fields, holds_in_rest, Marks}

pub or-false : (a : Bool) → (a || false) ≡ a
or-false true = refl
or-false false = refl

pub or-twice : (a b c : Bool) → ((a || b) || c) ≡ (a || (b || c))
or-twice true b c = refl
or-twice false b c = refl

terms-are : (n : ℕ) (ts : List Term) → some_true (map (holds_variable n) ts) ≡ holds_in_terms n ts
terms-are n [] = refl
terms-are n (t ∷ ts) = ap (λ b. holds_variable n t || b) (terms-are n ts)

field-holds : ℕ → Field → Bool
field-holds n f = fold-Field Bool Bool (holds_layer n) (λ field. field.term) f

field-is : (n : ℕ) (f : Field) → field-holds n f ≡ holds_variable n f.term
unfolding field-holds holds_variable
field-is n f = fold_out-Field Bool Bool (holds_layer n) (λ field. field.term) f

fields-are : (n : ℕ) (fs : List Field) → some_true (map (field-holds n) fs) ≡ holds_in_fields n fs
fields-are n [] = refl
fields-are n (f ∷ fs) = λ i. field-is n f i || fields-are n fs i

holds-Map : (n : ℕ) (fs : List Field) (r q : Option Term) → holds_variable n (Map fs r q) ≡ (holds_in_fields n fs || (holds_in_rest n r || holds_in_rest n q))
unfolding holds_variable field-holds
holds-Map n fs Nothing Nothing = ap (holds_variable n) (sym (Views.rolls-Map fs Nothing Nothing)) ∙ (fold-roll-Term Bool Bool (holds_layer n) (λ field. field.term) (F.Map fs Nothing Nothing) ∙ ap (λ x. x || (false || false)) (fields-are n fs))
holds-Map n fs Nothing (Some q) = ap (holds_variable n) (sym (Views.rolls-Map fs Nothing (Some q))) ∙ (fold-roll-Term Bool Bool (holds_layer n) (λ field. field.term) (F.Map fs Nothing (Some q)) ∙ ap (λ x. x || (false || holds_variable n q)) (fields-are n fs))
holds-Map n fs (Some r) Nothing = ap (holds_variable n) (sym (Views.rolls-Map fs (Some r) Nothing)) ∙ (fold-roll-Term Bool Bool (holds_layer n) (λ field. field.term) (F.Map fs (Some r) Nothing) ∙ ap (λ x. x || (holds_variable n r || false)) (fields-are n fs))
holds-Map n fs (Some r) (Some q) = ap (holds_variable n) (sym (Views.rolls-Map fs (Some r) (Some q))) ∙ (fold-roll-Term Bool Bool (holds_layer n) (λ field. field.term) (F.Map fs (Some r) (Some q)) ∙ ap (λ x. x || (holds_variable n r || holds_variable n q)) (fields-are n fs))

IfOk-both : {X E : Type 0} (r : Result X E) (P Q R : X → Type 0) → ((x : X) → P x → Q x → R x) → IfOk r P → IfOk r Q → IfOk r R
IfOk-both (Ok x) P Q R f p q = f x p q
IfOk-both (Err y) P Q R f p q = tt

pub marks-both : (f g : ℕ → Bool) (old middle new : List Bool) → Marks f old middle → Marks g middle new → Marks (λ n. f n || g n) old new
marks-both f g old middle new p q = λ n. q n ∙ (ap (λ b. b || g n) (p n) ∙ or-twice (get_or old n false) (f n) (g n))

pub marks-same : (f g : ℕ → Bool) (old new : List Bool) → ((n : ℕ) → f n ≡ g n) → Marks f old new → Marks g old new
marks-same f g old new e p = λ n. p n ∙ ap (λ b. get_or old n false || b) (e n)

marks-variable : (m : ℕ) (old new : List Bool) → get_or new m false ≡ true → ((i : ℕ) → (i ≡ m → ⊥) → get_or new i false ≡ get_or old i false) → Marks (λ n. nat_eq m n) old new
marks-variable m old new here elsewhere = λ n. go n (nat_eq m n) refl
  where
    or-true : (a : Bool) → true ≡ (a || true)
    or-true true = refl
    or-true false = refl

    differs : nat_eq m m ≡ false → ⊥
    differs e = let t : nat_eq m m ≡ true = eq-eqb m m refl in absurd (cc)

    go : (n : ℕ) (b : Bool) → nat_eq m n ≡ b → get_or new n false ≡ (get_or old n false || b)
    go n true e = subst (λ k. get_or new k false ≡ (get_or old k false || true)) (eqb-true m n e) (here ∙ or-true (get_or old m false))
    go n false e = elsewhere n (λ q. differs (ap (λ k. nat_eq m k) (sym q) ∙ e)) ∙ sym (or-false (get_or old n false))

-- one more item
terms-more : (n : ℕ) (ts : List Term) (i : ℕ) (d : Term) → i < length ts → holds_in_terms n (take (suc i) ts) ≡ (holds_in_terms n (take i ts) || holds_variable n (get_or ts i d))
terms-more n [] i d l = absurd (omega arith)
terms-more n (t ∷ ts) zero d l = or-false (holds_variable n t)
terms-more n (t ∷ ts) (suc i) d l = ap (λ b. holds_variable n t || b) (terms-more n ts i d (omega arith)) ∙ sym (or-twice (holds_variable n t) (holds_in_terms n (take i ts)) (holds_variable n (get_or ts i d)))

fields-more : (n : ℕ) (fs : List Field) (i : ℕ) (d : Field) → i < length fs → holds_in_fields n (take (suc i) fs) ≡ (holds_in_fields n (take i fs) || holds_variable n (get_or fs i d).term)
fields-more n [] i d l = absurd (omega arith)
fields-more n (f ∷ fs) zero d l = or-false (holds_variable n f.term)
fields-more n (f ∷ fs) (suc i) d l = ap (λ b. holds_variable n f.term || b) (fields-more n fs i d (omega arith)) ∙ sym (or-twice (holds_variable n f.term) (holds_in_fields n (take i fs)) (holds_variable n (get_or fs i d).term))

pub terms-step : (ts : List Term) (i : ℕ) (d : Term) (old middle new : List Bool) → i < length ts → Marks (λ n. holds_in_terms n (take i ts)) old middle → Marks (λ n. holds_variable n (get_or ts i d)) middle new → Marks (λ n. holds_in_terms n (take (i + 1) ts)) old new
terms-step ts i d old middle new l p q =
    marks-same (λ n. holds_in_terms n (take i ts) || holds_variable n (get_or ts i d)) (λ n. holds_in_terms n (take (i + 1) ts)) old new
    (λ n. sym (terms-more n ts i d l) ∙ ap (λ k. holds_in_terms n (take k ts)) (sym (add-one i)))
    (marks-both (λ n. holds_in_terms n (take i ts)) (λ n. holds_variable n (get_or ts i d)) old middle new p q)

pub fields-step : (fs : List Field) (i : ℕ) (d : Field) (old middle new : List Bool) → i < length fs → Marks (λ n. holds_in_fields n (take i fs)) old middle → Marks (λ n. holds_variable n (get_or fs i d).term) middle new → Marks (λ n. holds_in_fields n (take (i + 1) fs)) old new
fields-step fs i d old middle new l p q =
    marks-same (λ n. holds_in_fields n (take i fs) || holds_variable n (get_or fs i d).term) (λ n. holds_in_fields n (take (i + 1) fs)) old new
    (λ n. sym (fields-more n fs i d l) ∙ ap (λ k. holds_in_fields n (take k fs)) (sym (add-one i)))
    (marks-both (λ n. holds_in_fields n (take i fs)) (λ n. holds_variable n (get_or fs i d).term) old middle new p q)

pub ruleset leaf_laws = (Laws.holds-Any, Laws.holds-None, Laws.holds-Ints, Laws.holds-AtomLit, Laws.holds-AnyAtom, Laws.holds-Nil, Laws.holds-AnyTuple, Laws.holds-AnyFun, or-false)

-- the parts of each kind of term, one after another
module _ {E : Type 0} (r : Result (Unit {0}) E) (whole : Term) where
  pub marks-cons : (s t head tail : Term) (old middle new : List Bool) → whole ≡ Cons s t → head ≡ s → tail ≡ t → Marks (λ n. holds_variable n head) old middle → IfOk r (λ _. Marks (λ n. holds_variable n tail) middle new) → IfOk r (λ _. Marks (λ n. holds_variable n whole) old new)
  marks-cons s t head tail old middle new e h k p q =
      IfOk-weaker r (λ _. Marks (λ n. holds_variable n tail) middle new) (λ _. Marks (λ n. holds_variable n whole) old new)
      (λ _ q'. marks-same (λ n. holds_variable n head || holds_variable n tail) (λ n. holds_variable n whole) old new
      (λ n. (λ j. holds_variable n (h j) || holds_variable n (k j)) ∙ (sym (Laws.holds-Cons n s t) ∙ ap (holds_variable n) (sym e)))
      (marks-both (λ n. holds_variable n head) (λ n. holds_variable n tail) old middle new p q')) q

  pub marks-map : (fs fs' : List Field) (l m : Option Term) (old first second new : List Bool) → whole ≡ Map fs l m → fs' ≡ fs → Marks (λ n. holds_in_fields n fs') old first → Marks (λ n. holds_in_rest n l) first second → IfOk r (λ _. Marks (λ n. holds_in_rest n m) second new) → IfOk r (λ _. Marks (λ n. holds_variable n whole) old new)
  marks-map fs fs' l m old first second new e h p q o =
      IfOk-weaker r (λ _. Marks (λ n. holds_in_rest n m) second new) (λ _. Marks (λ n. holds_variable n whole) old new)
      (λ _ o'. marks-same (λ n. holds_in_fields n fs' || (holds_in_rest n l || holds_in_rest n m)) (λ n. holds_variable n whole) old new
      (λ n. ap (λ (xs : List Field). holds_in_fields n xs || (holds_in_rest n l || holds_in_rest n m)) h ∙ (sym (holds-Map n fs l m) ∙ ap (holds_variable n) (sym e)))
      (marks-both (λ n. holds_in_fields n fs') (λ n. holds_in_rest n l || holds_in_rest n m) old first new p
      (marks-both (λ n. holds_in_rest n l) (λ n. holds_in_rest n m) first second new q o'))) o

  pub marks-fun : (ts ts' : List Term) (t t' : Term) (old middle new : List Bool) → whole ≡ Fun ts t → ts' ≡ ts → t' ≡ t → Marks (λ n. holds_in_terms n ts') old middle → IfOk r (λ _. Marks (λ n. holds_variable n t') middle new) → IfOk r (λ _. Marks (λ n. holds_variable n whole) old new)
  marks-fun ts ts' t t' old middle new e h k p q =
      IfOk-weaker r (λ _. Marks (λ n. holds_variable n t') middle new) (λ _. Marks (λ n. holds_variable n whole) old new)
      (λ _ q'. marks-same (λ n. holds_in_terms n ts' || holds_variable n t') (λ n. holds_variable n whole) old new
      (λ n. (λ j. holds_in_terms n (h j) || holds_variable n (k j)) ∙ (ap (λ b. b || holds_variable n t) (sym (terms-are n ts)) ∙ (sym (Laws.holds-Fun n ts t) ∙ ap (holds_variable n) (sym e))))
      (marks-both (λ n. holds_in_terms n ts') (λ n. holds_variable n t') old middle new p q')) q

  pub marks-not : (t t' : Term) (old new : List Bool) → whole ≡ Not t → t' ≡ t → IfOk r (λ _. Marks (λ n. holds_variable n t') old new) → IfOk r (λ _. Marks (λ n. holds_variable n whole) old new)
  marks-not t t' old new e h q =
      IfOk-weaker r (λ _. Marks (λ n. holds_variable n t') old new) (λ _. Marks (λ n. holds_variable n whole) old new)
      (λ _ q'. marks-same (λ n. holds_variable n t') (λ n. holds_variable n whole) old new
      (λ n. ap (holds_variable n) h ∙ (sym (Laws.holds-Not n t) ∙ ap (holds_variable n) (sym e))) q') q

  pub marks-var : (m : ℕ) (old new : List Bool) → whole ≡ Var m → IfOk r (λ _. get_or new m false ≡ true) → IfOk r (λ _. (i : ℕ) → (i ≡ m → ⊥) → get_or new i false ≡ get_or old i false) → IfOk r (λ _. Marks (λ n. holds_variable n whole) old new)
  marks-var m old new e here elsewhere =
      IfOk-both r (λ _. get_or new m false ≡ true) (λ _. (i : ℕ) → (i ≡ m → ⊥) → get_or new i false ≡ get_or old i false) (λ _. Marks (λ n. holds_variable n whole) old new)
      (λ _ p q. marks-same (λ n. nat_eq m n) (λ n. holds_variable n whole) old new
      (λ n. sym (Laws.holds-Var n m) ∙ ap (holds_variable n) (sym e))
      (marks-variable m old new p q)) here elsewhere

  parts-of : (ts : List Term) → (whole ≡ Tuple ts) ⊎ ((whole ≡ Or ts) ⊎ (whole ≡ And ts)) → (n : ℕ) → holds_variable n whole ≡ holds_in_terms n ts
  parts-of ts (inl e) n = ap (holds_variable n) e ∙ (Laws.holds-Tuple n ts ∙ terms-are n ts)
  parts-of ts (inr (inl e)) n = ap (holds_variable n) e ∙ (Laws.holds-Or n ts ∙ terms-are n ts)
  parts-of ts (inr (inr e)) n = ap (holds_variable n) e ∙ (Laws.holds-And n ts ∙ terms-are n ts)

  marks-list : (ts ts' : List Term) (old new : List Bool) → ((n : ℕ) → holds_variable n whole ≡ holds_in_terms n ts) → ts' ≡ ts → IfOk r (λ _. Marks (λ n. holds_in_terms n ts') old new) → IfOk r (λ _. Marks (λ n. holds_variable n whole) old new)
  marks-list ts ts' old new e h q =
      IfOk-weaker r (λ _. Marks (λ n. holds_in_terms n ts') old new) (λ _. Marks (λ n. holds_variable n whole) old new)
      (λ _ q'. marks-same (λ n. holds_in_terms n ts') (λ n. holds_variable n whole) old new (λ n. ap (λ (xs : List Term). holds_in_terms n xs) h ∙ sym (e n)) q') q

  pub marks-parts : (ts ts' : List Term) (old new : List Bool) → (whole ≡ Tuple ts) ⊎ ((whole ≡ Or ts) ⊎ (whole ≡ And ts)) → ts' ≡ ts → IfOk r (λ _. Marks (λ n. holds_in_terms n ts') old new) → IfOk r (λ _. Marks (λ n. holds_variable n whole) old new)
  marks-parts ts ts' old new e h q = marks-list ts ts' old new (parts-of ts e) h q

  pub marks-name : (m : ℕ) (ts ts' : List Term) (old new : List Bool) → whole ≡ Name m ts → ts' ≡ ts → IfOk r (λ _. Marks (λ n. holds_in_terms n ts') old new) → IfOk r (λ _. Marks (λ n. holds_variable n whole) old new)
  marks-name m ts ts' old new e h q = marks-list ts ts' old new (λ n. ap (holds_variable n) e ∙ (Laws.holds-Name n m ts ∙ terms-are n ts)) h q
