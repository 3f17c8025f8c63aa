-- What the variables of a clause stand for, settled bound by bound.
use Rattle.std.proofs.Common.{◌≡◌, ℕ, zero, suc, ◌+◌, ◌<◌, Bool, true, false, cond, ◌||◌, List, [], ◌∷◌, ◌++◌, length, take, get_or, refl, sym, ap, ◌∙◌, subst, Option, Some, None, is_some, true≢false, Bor, arith}
use Rattle.std.specs.Prelude.{slice_set}
use Rattle.std.specs.Option.{option_map}
use Rattle.std.specs.List.{Contains, list_any}
use Rattle.std.proofs.lemmas.List.{get_or-set_same, get_or-set_other}
use Rattle.std.proofs.lemmas.List.Folds.{list_any-append}
use Rattle.type_terms.specs.Keys.{Name, same_name}
use Rattle.type_terms.proofs.KeyLaws.{name-is, name-refl}
use Rattle.type_terms.specs.declared.term.Term.{Term, Var}
use Rattle.erl_tree.specs.declared.token.Node.{Node}
use Rattle.erl_tree.specs.declared.type_expr.TypeKind.{TypeKind, out-TypeKind}
use Rattle.erl_tree.specs.declared.form.SpecClauseKind.{SpecClauseKind}
use Rattle.erl_tree.specs.Lists.{Among}
use Rattle.typespecs_rules.specs.Declarations.{Declarations, position}
use Rattle.typespecs_rules.specs.TypeTerms.{RecordTuple, record_tuple, type_term, type_kind_term}
use Rattle.typespecs_rules.specs.TypeVariables.{variables_of, place_among, numbered_from}
use Rattle.typespecs_rules.specs.Bounds.{Bound, bounded, bound_of, bound_graph, IsCyclic, stands_once, with_bound, stands_for}
use Rattle.typespecs_lemmas.specs.Acyclic.{bounded_term}
use Rattle.typespecs_lemmas.proofs.AlikeTypes.{all-alike}
use Rattle.typespecs_lemmas.proofs.RecordTuples.{position-below, length-mapped, agreeing}
use Rattle.typespecs_lemmas.proofs.BoundTerms.{by-bound, placed, bound-leads, is-variable}
use Rattle.typespecs_clauses.specs.Names.{Entry, texts}
use Rattle.typespecs_clauses.specs.Occurrences.{ArePlaces}
use Rattle.typespecs_clauses.specs.Clause.{term_so_far, IsNotedAt, without_bound, variable_at, own_terms}
use Rattle.typespecs_clauses.proofs.NameLaws.{same-sym, texts-more}

same-some : {A : Type 0} (a b : A) → Some a ≡ Some b → a ≡ b
same-some a b e = cc

none-some : {A B : Type 0} (a : A) → ◌≡◌ {A = Option A} None (Some a) → B
none-some a e = absurd (true≢false (sym (ap is_some e)))

-- a variable with a place has the bound there
placed-step : (a : Bound) (bs : List Bound) (x : Name) (i : ℕ) (b : Bound) (s : Bool) → same_name x a.0 ≡ s → (o : Option ℕ) → place_among (bounded bs) x ≡ o → cond s (Some 0) (option_map suc o) ≡ Some i → i < suc (length bs) → b ≡ get_or (a ∷ bs) i b
    → ((k : ℕ) → place_among (bounded bs) x ≡ Some k → k < length bs → b ≡ get_or bs k b → (bound_of bs x ≡ Some b.1) × (x ≡ b.0)) → (cond s (Some a.1) (bound_of bs x) ≡ Some b.1) × (x ≡ b.0)
placed-step a bs x zero b true e o p q lt is later = (ap (λ (z : Bound). Some z.1) (sym is), name-is x a.0 e ∙ ap (λ (z : Bound). z.0) (sym is))
placed-step a bs x (suc j) b true e o p q lt is later = let z : 0 ≡ suc j = same-some 0 (suc j) q in absurd (omega arith)
placed-step a bs x i b false e None p q lt is later = none-some i q
placed-step a bs x zero b false e (Some k) p q lt is later = let z : suc k ≡ 0 = same-some (suc k) 0 q in absurd (omega arith)
placed-step a bs x (suc j) b false e (Some k) p q lt is later =
    let z : suc k ≡ suc j = same-some (suc k) (suc j) q in
    let y : k ≡ j = omega arith in
    let l : k < length bs = omega arith in
    later k p l (is ∙ ap (λ m. get_or bs m b) (sym y))

pub placed-at : (bs : List Bound) (x : Name) (i : ℕ) (b : Bound) → place_among (bounded bs) x ≡ Some i → i < length bs → b ≡ get_or bs i b → (bound_of bs x ≡ Some b.1) × (x ≡ b.0)
placed-at [] x i b e lt is = absurd (omega arith)
placed-at (a ∷ bs) x i b e lt is = placed-step a bs x i b (same_name x a.0) refl (place_among (bounded bs) x) refl e lt is (λ k p l q. placed-at bs x k b p l q)

-- at one place one name stands
one-step : (a : Name) (xs : List Name) (v w : Name) (n : ℕ) (s t : Bool) → same_name v a ≡ s → same_name w a ≡ t → (o m : Option ℕ) → place_among xs v ≡ o → place_among xs w ≡ m → cond s (Some 0) (option_map suc o) ≡ Some n → cond t (Some 0) (option_map suc m) ≡ Some n
    → ((k : ℕ) → place_among xs v ≡ Some k → place_among xs w ≡ Some k → v ≡ w) → v ≡ w
one-step a xs v w n true true e f o m g h q r later = name-is v a e ∙ sym (name-is w a f)
one-step a xs v w n true false e f o None g h q r later = none-some n r
one-step a xs v w n true false e f o (Some k) g h q r later = let z : 0 ≡ n = same-some 0 n q in let y : suc k ≡ n = same-some (suc k) n r in absurd (omega arith)
one-step a xs v w n false true e f None m g h q r later = none-some n q
one-step a xs v w n false true e f (Some k) m g h q r later = let z : suc k ≡ n = same-some (suc k) n q in let y : 0 ≡ n = same-some 0 n r in absurd (omega arith)
one-step a xs v w n false false e f None m g h q r later = none-some n q
one-step a xs v w n false false e f (Some k) None g h q r later = none-some n r
one-step a xs v w n false false e f (Some k) (Some l) g h q r later =
    let z : suc k ≡ n = same-some (suc k) n q in
    let y : suc l ≡ n = same-some (suc l) n r in
    let x : l ≡ k = omega arith in
    later k g (h ∙ ap Some x)

one-name : (xs : List Name) (v w : Name) (n : ℕ) → place_among xs v ≡ Some n → place_among xs w ≡ Some n → v ≡ w
one-name [] v w n q r = none-some n q
one-name (a ∷ xs) v w n q r = one-step a xs v w n (same_name v a) (same_name w a) refl refl (place_among xs v) (place_among xs w) refl refl q r (λ k g h. one-name xs v w k g h)

module _ (d : Declarations) (c : SpecClauseKind) (own : Name → Option Term) (acyclic : IsCyclic c.bounds → ⊥) where
  abbrev pub stands : Name → Option Term
  stands x = stands_for d c own x

  abbrev pub place : Name → Option ℕ
  place x = place_among (bounded c.bounds) x

  -- a variable without a place among the bounds stands for itself
  pub unbounded-stands : (x : Name) → place x ≡ None → stands x ≡ own x
  unbounded-stands x e = by-bound d c own acyclic x ∙ go (bound_of c.bounds x) refl
    where
      go : (o : Option (Node TypeKind)) → bound_of c.bounds x ≡ o → bounded_term d c own (stands_for d c own) x o ≡ own x
      go None p = refl
      go (Some t) p = let q = placed c.bounds x t p in none-some q.0 (sym e ∙ q.1)

  module _ (terms : Name → Option Term) (settled : List Bool) where
    abbrev pub SoFar : Type 0
    SoFar = (x : Name) → terms x ≡ term_so_far settled (own x) (stands x) (place x)

    -- where all that a bound mentions is settled, its term is what it has with what the variables stand for
    settled-bound : (tuples : Name → Option RecordTuple) → ((name : Name) → tuples name ≡ record_tuple d name) → SoFar → (x : Name) (t : Node TypeKind) (bound : bound_of c.bounds x ≡ Some t)
        → ((j : ℕ) → Contains (get_or (bound_graph c.bounds) (placed c.bounds x t bound).0 []) j → get_or settled j false ≡ true) → type_kind_term d tuples terms t.kind ≡ type_term d (stands_for d c own) t
    settled-bound tuples same so_far x t bound ready =
        all-alike d tuples (record_tuple d) terms (stands_for d c own) t.kind t.place t.marks
        (λ u i. agreeing tuples (record_tuple d) terms (stands_for d c own) (out-TypeKind u.kind) (λ name tag f fs o. same name) (λ y o w. go y (is-variable y t u i o w) (place y) refl))
      where
        go : (y : Name) → Among y (variables_of t) → (o : Option ℕ) → place y ≡ o → terms y ≡ stands y
        go y a None p = so_far y ∙ (ap (term_so_far settled (own y) (stands y)) p ∙ sym (unbounded-stands y p))
        go y a (Some j) p = so_far y ∙ (ap (term_so_far settled (own y) (stands y)) p ∙ ap (λ b. cond b (stands y) None) (ready j (bound-leads d c own x y t j bound a p)))

    pub settled-term : (tuples : Name → Option RecordTuple) → ((name : Name) → tuples name ≡ record_tuple d name) → SoFar → (i : ℕ) (b : Bound) → i < length c.bounds → b ≡ get_or c.bounds i b → place b.0 ≡ Some i
        → ((j : ℕ) → Contains (get_or (bound_graph c.bounds) i []) j → get_or settled j false ≡ true)
        → with_bound (stands_once c b.0) (own b.0) (type_kind_term d tuples terms b.1.kind) ≡ stands b.0
    settled-term tuples same so_far i b lt is here ready =
        let bound : bound_of c.bounds b.0 ≡ Some b.1 = (placed-at c.bounds b.0 i b here lt is).0 in
        let p = placed c.bounds b.0 b.1 bound in
        let at : i ≡ p.0 = same-some i p.0 (sym here ∙ p.1) in
        ap (with_bound (stands_once c b.0) (own b.0)) (settled-bound tuples same so_far b.0 b.1 bound (λ j h. ready j (subst (λ k. Contains (get_or (bound_graph c.bounds) k []) j) (sym at) h)))
        ∙ sym (by-bound d c own acyclic b.0 ∙ ap (bounded_term d c own (stands_for d c own) b.0) bound)

    -- one more bound is settled: its variable has its term from now on
    module _ (i : ℕ) (b : Bound) (lt : i < length settled) (is : place b.0 ≡ Some i) (so_far : SoFar) (term : Option Term) (right : term ≡ stands b.0) where
      marked : (j : ℕ) → j ≡ i → get_or (slice_set settled i true) j false ≡ true
      marked j e = ap (λ k. get_or (slice_set settled i true) k false) e ∙ get_or-set_same settled i true false lt

      others : (j : ℕ) → (j ≡ i → ⊥) → get_or (slice_set settled i true) j false ≡ get_or settled j false
      others j h = get_or-set_other settled i j true false h

      -- of another variable
      apart : (x : Name) → (x ≡ b.0 → ⊥) → (o : Option ℕ) → place x ≡ o → term_so_far settled (own x) (stands x) o ≡ term_so_far (slice_set settled i true) (own x) (stands x) o
      apart x h None p = refl
      apart x h (Some j) p = ap (λ m. cond m (stands x) None) (sym (others j (λ e. h (one-name (bounded c.bounds) x b.0 i (p ∙ ap Some e) is))))

      after : (x : Name) → x ≡ b.0 → term_so_far (slice_set settled i true) (own x) (stands x) (place x) ≡ term
      after x e =
          ap (term_so_far (slice_set settled i true) (own x) (stands x)) (ap place e ∙ is)
          ∙ (ap (λ m. cond m (stands x) None) (marked i refl) ∙ (ap stands e ∙ sym right))

      before-none : (x : Name) → x ≡ b.0 → term ≡ None → terms x ≡ None
      before-none x e none =
          so_far x ∙ (ap (term_so_far settled (own x) (stands x)) (ap place e ∙ is) ∙ go (get_or settled i false))
        where
          go : (m : Bool) → cond m (stands x) None ≡ None
          go true = ap stands e ∙ (sym right ∙ none)
          go false = refl

      pub settled-some : (t : Term) (new : Name → Option Term) → term ≡ Some t → ((x : Name) → new x ≡ cond (same_name b.0 x) (Some t) (terms x)) → (x : Name) → new x ≡ term_so_far (slice_set settled i true) (own x) (stands x) (place x)
      settled-some t new some set x = set x ∙ go (same_name b.0 x) refl
        where
          go : (s : Bool) → same_name b.0 x ≡ s → cond s (Some t) (terms x) ≡ term_so_far (slice_set settled i true) (own x) (stands x) (place x)
          go true e = sym some ∙ sym (after x (sym (name-is b.0 x e)))
          go false e = so_far x ∙ apart x (λ q. true≢false (sym (subst (λ (y : Name). same_name b.0 y ≡ true) (sym q) (name-refl b.0)) ∙ e)) (place x) refl

      pub settled-none : term ≡ None → (x : Name) → terms x ≡ term_so_far (slice_set settled i true) (own x) (stands x) (place x)
      settled-none none x = go (same_name b.0 x) refl
        where
          go : (s : Bool) → same_name b.0 x ≡ s → terms x ≡ term_so_far (slice_set settled i true) (own x) (stands x) (place x)
          go true e = before-none x (sym (name-is b.0 x e)) none ∙ sym (after x (sym (name-is b.0 x e)) ∙ none)
          go false e = so_far x ∙ apart x (λ q. true≢false (sym (subst (λ (y : Name). same_name b.0 y ≡ true) (sym q) (name-refl b.0)) ∙ e)) (place x) refl

      pub noted-step : (new : Name → Option Term) → IsNotedAt b.0 term terms new → (x : Name) → new x ≡ term_so_far (slice_set settled i true) (own x) (stands x) (place x)
      noted-step new noted = go term refl noted
        where
          go : (o : Option Term) → term ≡ o → IsNotedAt b.0 o terms new → (x : Name) → new x ≡ term_so_far (slice_set settled i true) (own x) (stands x) (place x)
          go None e set = λ x. set x ∙ settled-none e x
          go (Some t) e set = settled-some t new e set

    -- a bound at a place that is no variable's first changes nothing
    pub settled-again : (i : ℕ) (b : Bound) → i < length c.bounds → b ≡ get_or c.bounds i b → (place b.0 ≡ Some i → ⊥) → SoFar → (x : Name) → terms x ≡ term_so_far (slice_set settled i true) (own x) (stands x) (place x)
    settled-again i b lt is other so_far x = so_far x ∙ go (place x) refl
      where
        go : (o : Option ℕ) → place x ≡ o → term_so_far settled (own x) (stands x) o ≡ term_so_far (slice_set settled i true) (own x) (stands x) o
        go None p = refl
        go (Some j) p = ap (λ m. cond m (stands x) None) (sym (get_or-set_other settled i j true false (λ e. other (ap place (sym (placed-at c.bounds x i b (p ∙ ap Some e) lt is).1) ∙ (p ∙ ap Some e)))))

    -- once all are settled, each variable has what it stands for
    pub all-settled : SoFar → ((j : ℕ) → j < length c.bounds → get_or settled j false ≡ true) → (x : Name) → terms x ≡ stands x
    all-settled so_far all x = so_far x ∙ go (place x) refl
      where
        go : (o : Option ℕ) → place x ≡ o → term_so_far settled (own x) (stands x) o ≡ stands x
        go None p = sym (unbounded-stands x p)
        go (Some j) p =
            let l : j < length (bounded c.bounds) = position-below (same_name x) (bounded c.bounds) j p in
            let s : length (bounded c.bounds) ≡ length c.bounds = length-mapped (λ (b : Bound). b.0) c.bounds in
            ap (λ m. cond m (stands x) None) (all j (omega arith))

-- ---- variables without bounds

abbrev pub NamedSoFar : (Name → Option Term) → List Name → (Name → Option Term) → Type 0
NamedSoFar target xs terms = (x : Name) → terms x ≡ cond (list_any (same_name x) xs) (target x) None

any-push : (x y : Name) (xs : List Name) (s : Bool) → same_name x y ≡ s → list_any (same_name x) (xs ++ y ∷ []) ≡ (s || list_any (same_name x) xs)
any-push x y xs s e = list_any-append (same_name x) xs (y ∷ []) ∙ (ap (λ b. list_any (same_name x) xs || (b || false)) e ∙ swap (list_any (same_name x) xs) s)
  where
    swap : (a b : Bool) → (a || (b || false)) ≡ (b || a)
    swap true true = refl
    swap true false = refl
    swap false true = refl
    swap false false = refl

-- one more name, whose term is noted if it has one
pub named-step : (target : Name → Option Term) (xs : List Name) (y : Name) (terms new : Name → Option Term) → NamedSoFar target xs terms → IsNotedAt y (target y) terms new → NamedSoFar target (xs ++ y ∷ []) new
named-step target xs y terms new so_far noted x = go (target y) refl noted (same_name x y) refl
  where
    both-none : (b : Bool) (o : Option Term) → o ≡ None → cond b o None ≡ o
    both-none true o e = refl
    both-none false o e = sym e

    go : (o : Option Term) → target y ≡ o → IsNotedAt y o terms new → (s : Bool) → same_name x y ≡ s → new x ≡ cond (list_any (same_name x) (xs ++ y ∷ [])) (target x) None
    go None e set true f = set x ∙ (so_far x ∙ (both-none (list_any (same_name x) xs) (target x) (ap target (name-is x y f) ∙ e) ∙ ap (λ b. cond b (target x) None) (sym (any-push x y xs true f))))
    go None e set false f = set x ∙ (so_far x ∙ ap (λ b. cond b (target x) None) (sym (any-push x y xs false f)))
    go (Some t) e set true f = set x ∙ (ap (λ b. cond b (Some t) (terms x)) (same-sym y x ∙ f) ∙ (sym e ∙ (ap target (sym (name-is x y f)) ∙ ap (λ b. cond b (target x) None) (sym (any-push x y xs true f)))))
    go (Some t) e set false f = set x ∙ (ap (λ b. cond b (Some t) (terms x)) (same-sym y x ∙ f) ∙ (so_far x ∙ ap (λ b. cond b (target x) None) (sym (any-push x y xs false f))))

none-step : (b rest : Bool) (o : Option ℕ) → (b || rest) ≡ false → (rest ≡ false → o ≡ None) → cond b (Some 0) (option_map suc o) ≡ None
none-step true rest o e later = absurd (true≢false e)
none-step false rest o e later = ap (option_map suc) (later e)

position-none : {A : Type 0} (test : A → Bool) (xs : List A) → list_any test xs ≡ false → position test xs ≡ None
position-none test [] e = refl
position-none test (x ∷ xs) e = none-step (test x) (list_any test xs) (position test xs) e (λ f. position-none test xs f)

pub named-all : (bounds : List Bound) (first : ℕ) (places : List Entry) (names : List Name) (terms : Name → Option Term) → ArePlaces places names → NamedSoFar (λ x. without_bound (place_among (bounded bounds) x) (own_terms first places x)) names terms → (x : Name) → terms x ≡ without_bound (place_among (bounded bounds) x) (own_terms first places x)
named-all bounds first places names terms are so_far x = so_far x ∙ go (list_any (same_name x) names) refl
  where
    none : (o : Option ℕ) (p : Option Term) → p ≡ None → without_bound o p ≡ None
    none None p e = e
    none (Some k) p e = refl

    go : (b : Bool) → list_any (same_name x) names ≡ b → cond b (without_bound (place_among (bounded bounds) x) (own_terms first places x)) None ≡ without_bound (place_among (bounded bounds) x) (own_terms first places x)
    go true e = refl
    go false e = sym (none (place_among (bounded bounds) x) (own_terms first places x) (ap (variable_at first) (are x ∙ position-none (same_name x) names e)))

pub named-more : (target : Name → Option Term) (ns : List (Bor (List ℕ))) (i : ℕ) (n : Bor (List ℕ)) → i < length ns → n ≡ get_or ns i n → (terms new : Name → Option Term) → NamedSoFar target (texts (take i ns)) terms → IsNotedAt n.now (target n.now) terms new → NamedSoFar target (texts (take (i + 1) ns)) new
named-more target ns i n lt is terms new so_far noted =
    subst (λ xs. NamedSoFar target xs new) (ap (λ (b : Bor (List ℕ)). texts (take i ns) ++ b.now ∷ []) is ∙ sym (texts-more ns i n lt)) (named-step target (texts (take i ns)) n.now terms new so_far noted)

-- ---- all variables

-- before any bound is settled
pub stands-first : (own standing : Option Term) (settled : List Bool) (o : Option ℕ) → ((j : ℕ) → get_or settled j false ≡ false) → without_bound o own ≡ term_so_far settled own standing o
stands-first own standing settled None none = refl
stands-first own standing settled (Some j) none = sym (ap (λ b. cond b standing None) (none j))

-- variables by their places are the names with their numbers
pub own-numbered : (first : ℕ) (places : List Entry) (names : List Name) → ArePlaces places names → ◌≡◌ {A = Name → Option Term} (own_terms first places) (numbered_from first names)
own-numbered first places names are = λ j x. option_map (λ i. Var (first + i)) (are x j)
