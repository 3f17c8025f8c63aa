-- The terms of a clause: there is one for each of its types, where there is one for each variable that is needed.
use Rattle.std.proofs.Common.{◌≡◌, refl, ap, sym, subst, ◌∙◌, ⊎_elim, inl, inr, ℕ, zero, suc, List, [], ◌∷◌, map, length}
use Rattle.std.specs.Prelude.{Option, Some, None as Nothing, Bool, true, false, not, ◌||◌, cond, is_some}
use Rattle.std.specs.List.{filter, list_any}
use Rattle.type_terms.specs.Keys.{Name, same_name}
use Rattle.type_terms.specs.declared.term.Term.{Term}
use Rattle.type_terms.proofs.KeyLaws.{name-is, name-refl}
use Rattle.erl_tree.specs.declared.token.Node.{Node}
use Rattle.erl_tree.specs.declared.type_expr.TypeKind.{TypeKind}
use Rattle.erl_tree.specs.declared.form.SpecClauseKind.{SpecClauseKind}
use Rattle.erl_tree.specs.Lists.{Among}
use Rattle.erl_runs.specs.Records.{find_record}
use Rattle.erl_runs.specs.Specs.{all_present}
use Rattle.typespecs_rules.specs.Declarations.{Declarations}
use Rattle.typespecs_rules.specs.TypeTerms.{record_tuple, type_term}
use Rattle.typespecs_rules.specs.TypeVariables.{variables_of, first_occurrences, place_among, numbered_from, clause_types, clause_occurrences, clause_variables}
use Rattle.typespecs_rules.specs.Bounds.{Bound, bound_of, IsCyclic, stands_once, with_bound, stands_within, stands_for}
use Rattle.typespecs_rules.specs.SpecTerms.{clause_term, arrow_with}
use Rattle.typespecs_rules.specs.TypeFaults.{type_faults, any_variable}
use Rattle.typespecs_rules.proofs.RightTypes.{then-some, map-some}
use Rattle.typespecs_lemmas.specs.Acyclic.{bounded_term}
use Rattle.typespecs_lemmas.proofs.AlikeTypes.{among-left, among-right, among-each}
use Rattle.typespecs_lemmas.proofs.BoundTerms.{is-variable, placed, BoundChain, bound-leads, chain-number, one-level, no-bound-chain}
use Rattle.typespecs_lemmas.proofs.RightHere.{present-mapped, right-here}
use Rattle.typespecs_lemmas.proofs.Definitions.{any-placed}

-- ---- names

among-any : (x : Name) (xs : List Name) → Among x xs → list_any (same_name x) xs ≡ true
among-any x [] a = absurd a
among-any x (y ∷ xs) a = ⊎_elim (λ e. first (same_name x y) (list_any (same_name x) xs) (subst (λ z. same_name x z ≡ true) e (name-refl x))) (λ r. later (same_name x y) (list_any (same_name x) xs) (among-any x xs r)) a
  where
    first : (b c : Bool) → b ≡ true → (b || c) ≡ true
    first true c e = refl
    first false c e = absurd (cc)

    later : (b c : Bool) → c ≡ true → (b || c) ≡ true
    later true c e = refl
    later false c e = e

-- a name that stands among others has a place there
pub place-there : (x : Name) (xs : List Name) → Among x xs → is_some (place_among xs x) ≡ true
place-there x xs a = any-placed (same_name x) xs (among-any x xs a)

among-filtered : (test : Name → Bool) (x : Name) (xs : List Name) → test x ≡ true → Among x xs → Among x (filter test xs)
among-filtered test x [] e a = absurd a
among-filtered test x (y ∷ xs) e a = ⊎_elim (λ q. here (test y) (ap test (sym q) ∙ e) q) (λ r. later (test y) (among-filtered test x xs e r)) a
  where
    here : (b : Bool) → b ≡ true → x ≡ y → Among x (cond b (y ∷ filter test xs) (filter test xs))
    here true s q = inl q
    here false s q = absurd (cc)

    later : (b : Bool) → Among x (filter test xs) → Among x (cond b (y ∷ filter test xs) (filter test xs))
    later true i = inr i
    later false i = i

-- what stands among names stands among their first occurrences
pub among-first : (x : Name) (xs : List Name) → Among x xs → Among x (first_occurrences xs)
among-first x [] a = absurd a
among-first x (y ∷ xs) a = ⊎_elim (λ e. inl e) (λ r. go (same_name y x) refl (among-first x xs r)) a
  where
    go : (b : Bool) → same_name y x ≡ b → Among x (first_occurrences xs) → Among x (y ∷ filter (λ z. not (same_name y z)) (first_occurrences xs))
    go true e i = inl (sym (name-is y x e))
    go false e i = inr (among-filtered (λ z. not (same_name y z)) x (first_occurrences xs) (ap not e) i)

-- ---- bounds

bound-among : (bs : List Bound) (x : Name) (t : Node TypeKind) → bound_of bs x ≡ Some t → Among t (map (λ b. b.1) bs)
bound-among [] x t e = absurd (cc)
bound-among (b ∷ bs) x t e = go (same_name x b.0) e (bound-among bs x t)
  where
    go : (is : Bool) → cond is (Some b.1) (bound_of bs x) ≡ Some t → (bound_of bs x ≡ Some t → Among t (map (λ d. d.1) bs)) → Among t (b.1 ∷ map (λ d. d.1) bs)
    go true s h = inl (sym (first s))
      where
        first : Some b.1 ≡ Some t → b.1 ≡ t
        first u = cc
    go false s h = inr (h s)

with-some : (b : Bool) (v o : Option Term) → is_some o ≡ true → (b ≡ false → is_some v ≡ true) → is_some (with_bound b v o) ≡ true
with-some true v o e h = e
with-some false v o e h = then-some v _ (h refl) (λ a q. map-some _ o e)

module _ (declared : Declarations) (records : (name : Name) → is_some (find_record declared.records name) ≡ true → is_some (record_tuple declared name) ≡ true)
    (c : SpecClauseKind) (acyclic : IsCyclic c.bounds → ⊥) (right : (t : Node TypeKind) → Among t (clause_types c) → type_faults declared any_variable t ≡ []) where
  pub bound-type : (x : Name) (t : Node TypeKind) → bound_of c.bounds x ≡ Some t → Among t (clause_types c)
  bound-type x t e = among-right t c.params (c.result ∷ map (λ b. b.1) c.bounds) (inr (bound-among c.bounds x t e))

  -- a variable of a type of the clause is one of the clause
  pub clause-variable : (x : Name) (t : Node TypeKind) → Among t (clause_types c) → Among x (variables_of t) → Among x (clause_occurrences c)
  clause-variable x t a b = among-each variables_of t x (clause_types c) a b

  -- a type of the clause has a term where its variables have
  type-there : (variables : Name → Option Term) (t : Node TypeKind) → Among t (clause_types c) → ((x : Name) → Among x (variables_of t) → is_some (variables x) ≡ true) → is_some (type_term declared variables t) ≡ true
  type-there variables t a h = right-here declared (record_tuple declared) variables any_variable t (right t a) (λ u name tag f fs i o found. records name found) (λ u x i o w allowed. h x (is-variable x t u i o w))

  -- needed variables: those without a bound, and bounded ones that stand twice, have terms, and what stands in the bound of a needed one is needed
  pub record AreNeeded (variables : Name → Option Term) (IsNeeded : Name → Type 0) : Type 0 where
    pub unbounded : (x : Name) → IsNeeded x → bound_of c.bounds x ≡ Nothing → is_some (variables x) ≡ true
    pub standing_twice : (x : Name) (t : Node TypeKind) → IsNeeded x → bound_of c.bounds x ≡ Some t → stands_once c x ≡ false → is_some (variables x) ≡ true
    pub inside : (x : Name) (t : Node TypeKind) → IsNeeded x → bound_of c.bounds x ≡ Some t → (y : Name) → Among y (variables_of t) → IsNeeded y

  module _ (variables : Name → Option Term) (IsNeeded : Name → Type 0) (needed : AreNeeded variables IsNeeded) where
    within : (k : ℕ) (x : Name) → (BoundChain declared c variables k x → ⊥) → IsNeeded x → is_some (stands_within declared c variables k x) ≡ true
    within zero x ends n = go (bound_of c.bounds x) refl
      where
        go : (o : Option (Node TypeKind)) → bound_of c.bounds x ≡ o → is_some (cond (is_some o) Nothing (variables x)) ≡ true
        go Nothing e = needed.unbounded x n e
        go (Some t) e = let p = placed c.bounds x t e in absurd (ends (p.0, p.1))
    within (suc k) x ends n = subst (λ o. is_some o ≡ true) (sym (one-level declared c variables k x)) (go (bound_of c.bounds x) refl (within k))
      where
        go : (o : Option (Node TypeKind)) → bound_of c.bounds x ≡ o → ((y : Name) → (BoundChain declared c variables k y → ⊥) → IsNeeded y → is_some (stands_within declared c variables k y) ≡ true) →
            is_some (bounded_term declared c variables (stands_within declared c variables k) x o) ≡ true
        go Nothing e below = needed.unbounded x n e
        go (Some t) e below = with-some (stands_once c x) (variables x) (type_term declared (stands_within declared c variables k) t)
            (type-there (stands_within declared c variables k) t (bound-type x t e)
            (λ y a. below y (λ ch. let l = chain-number declared c variables k y ch in let p = placed c.bounds x t e in ends (p.0, p.1, y, l.0, l.1, bound-leads declared c variables x y t l.0 e a l.1, ch)) (needed.inside x t n e y a)))
            (needed.standing_twice x t n e)

    -- each needed variable stands for a term
    pub needed-there : (x : Name) → IsNeeded x → is_some (stands_for declared c variables x) ≡ true
    needed-there x n = within (length c.bounds) x (no-bound-chain declared c variables acyclic x) n

    -- and where those in the parameters and the result are needed, there is an arrow
    pub arrow-there : ((t : Node TypeKind) → Among t c.params → (y : Name) → Among y (variables_of t) → IsNeeded y) → ((y : Name) → Among y (variables_of c.result) → IsNeeded y) → is_some (arrow_with declared c variables) ≡ true
    arrow-there params result =
        then-some (all_present (map (clause_term declared c variables) c.params)) _
        (present-mapped (clause_term declared c variables) c.params (λ t a. type-there (stands_for declared c variables) t (among-left t c.params (c.result ∷ map (λ b. b.1) c.bounds) a) (λ y b. needed-there y (params t a y b))))
        (λ own q. map-some _ (clause_term declared c variables c.result) (type-there (stands_for declared c variables) c.result (among-right c.result c.params (c.result ∷ map (λ b. b.1) c.bounds) (inl refl)) (λ y b. needed-there y (result y b))))

  -- where each variable of the clause has a number, each is needed
  pub all-needed : AreNeeded (numbered_from 0 (clause_variables c)) (λ x. Among x (clause_occurrences c))
  all-needed = record {
    unbounded = λ x n e. numbered x n;
    standing_twice = λ x t n e o. numbered x n;
    inside = λ x t n e y a. clause-variable y t (bound-type x t e) a;
  }
    where
      numbered : (x : Name) → Among x (clause_occurrences c) → is_some (numbered_from 0 (clause_variables c) x) ≡ true
      numbered x n = map-some _ (place_among (clause_variables c) x) (place-there x (clause_variables c) (among-first x (clause_occurrences c) n))

  -- then each variable stands for a term
  pub all-there : (x : Name) → Among x (clause_occurrences c) → is_some (stands_for declared c (numbered_from 0 (clause_variables c)) x) ≡ true
  all-there x a = needed-there (numbered_from 0 (clause_variables c)) (λ y. Among y (clause_occurrences c)) all-needed x a

  pub first-arrow : is_some (arrow_with declared c (numbered_from 0 (clause_variables c))) ≡ true
  first-arrow = arrow-there (numbered_from 0 (clause_variables c)) (λ y. Among y (clause_occurrences c)) all-needed
      (λ t a y b. clause-variable y t (among-left t c.params (c.result ∷ map (λ d. d.1) c.bounds) a) b)
      (λ y b. clause-variable y c.result (among-right c.result c.params (c.result ∷ map (λ d. d.1) c.bounds) (inl refl)) b)
