-- The variables of patterns.
use Rattle.std.proofs.Common.{◌≡◌, ℕ, zero, suc, ◌+◌, ◌<◌, ◌≤◌, inl, inr, ◌↔◌, Bool, true, false, IsTrue, List, [], ◌∷◌, ◌++◌, length, drop, get_or, refl, sym, ◌∙◌, subst, true≢false, if◌then◌else◌}
use Rattle.std.proofs.lemmas.List.{drop_all}
use Rattle.type_terms.specs.Keys.{Name}
use Rattle.erl_tree.specs.declared.token.Node.{Node}
use Rattle.erl_tree.specs.declared.pattern.PatternKind.{PatternKind, out-PatternKind}
use Rattle.erl_tree.specs.declared.pattern.PatternKind.TheOpen as P
use Rattle.erl_tree.specs.Lists.{Every, Among, AreDistinct}
use Rattle.erl_runs.specs.Names.{is_wildcard}
use Rattle.flat_modules.specs.FlatNames.{bound_by, bound_layer}
use Rattle.name_table.proofs.Distinct.{Among-append_left, Among-append_right, Among-append}
use Rattle.flat_tests.specs.Names.{IsFresh}
use Rattle.flat_tests.proofs.ForEach.{rest_at}

-- ---- lists without a repetition, in two parts

module _ {A : Type 0} where
  pub AreDistinct-right : (xs ys : List A) → AreDistinct (xs ++ ys) → AreDistinct ys
  AreDistinct-right [] ys h = h
  AreDistinct-right (x ∷ xs) ys h = AreDistinct-right xs ys h.1

  pub AreDistinct-left : (xs ys : List A) → AreDistinct (xs ++ ys) → AreDistinct xs
  AreDistinct-left [] ys h = tt
  AreDistinct-left (x ∷ xs) ys h = ((λ there. h.0 (Among-append_left x xs ys there)), AreDistinct-left xs ys h.1)

  -- no item of the first part is in the second
  pub AreDistinct-apart : (xs ys : List A) → AreDistinct (xs ++ ys) → Every (λ x. Among x ys → ⊥) xs
  AreDistinct-apart [] ys h = tt
  AreDistinct-apart (x ∷ xs) ys h = ((λ there. h.0 (Among-append_right x xs ys there)), AreDistinct-apart xs ys h.1)

  pub AreDistinct-append : (xs ys : List A) → AreDistinct xs → AreDistinct ys → Every (λ x. Among x ys → ⊥) xs → AreDistinct (xs ++ ys)
  AreDistinct-append [] ys left right apart = right
  AreDistinct-append (x ∷ xs) ys left right apart =
      ((λ there. elim (Among-append x xs ys there) [ inl before ↦ left.0 before | inr after ↦ apart.0 after ]), AreDistinct-append xs ys left.1 right apart.1)

-- ---- whether a variable is bound

module _ (x : Name) where
  bound_later : (n : ℕ) (ps : List (Node PatternKind)) → Among x (bound_by (drop n ps)) → Among x (bound_by ps)
  bound_later zero ps h = h
  bound_later (suc n) [] h = h
  bound_later (suc n) (p ∷ ps) h = Among-append_right x (bound_layer (out-PatternKind p.kind)) (bound_by ps) (bound_later n ps h)

  -- if x is bound at all, then by a pattern from here on
  abbrev pub IsBoundLater : List (Node PatternKind) → ℕ → Type 0
  IsBoundLater ps i = Among x (bound_by ps) → Among x (bound_by (drop i ps))

  pub later_first : (ps : List (Node PatternKind)) → IsBoundLater ps 0
  later_first ps h = h

  pub later_next : (ps : List (Node PatternKind)) (i : ℕ) (p : Node PatternKind) (b : Bool) → i < length ps → p ≡ get_or ps i p → (IsTrue b ↔ Among x (bound_layer (out-PatternKind p.kind))) → b ≡ false → IsBoundLater ps i → IsBoundLater ps (i + 1)
  later_next ps i p b lt is says fails later h =
      elim (Among-append x (bound_layer (out-PatternKind p.kind)) (bound_by (drop (i + 1) ps)) (subst (λ qs. Among x (bound_by qs)) (rest_at ps i p lt is) (later h))) [
        | inl here ↦ absurd (true≢false (sym (says.1 here) ∙ fails))
        | inr there ↦ there
      ]

  pub bound_here : (ps : List (Node PatternKind)) (i : ℕ) (p : Node PatternKind) (b : Bool) → i < length ps → p ≡ get_or ps i p → (IsTrue b ↔ Among x (bound_layer (out-PatternKind p.kind))) → b ≡ true → IsTrue true ↔ Among x (bound_by ps)
  bound_here ps i p b lt is says holds =
      ((λ _. bound_later i ps (subst (λ qs. Among x (bound_by qs)) (sym (rest_at ps i p lt is)) (Among-append_left x (bound_layer (out-PatternKind p.kind)) (bound_by (drop (i + 1) ps)) (says.0 holds)))), λ _. refl)

  pub bound_nowhere : (ps : List (Node PatternKind)) (i : ℕ) → length ps ≤ i → IsBoundLater ps i → IsTrue false ↔ Among x (bound_by ps)
  bound_nowhere ps i end later = ((λ e. absurd (true≢false (sym e))), λ h. absurd (subst (λ qs. Among x (bound_by qs)) (drop_all i ps end) (later h)))

-- ---- whether the variables of a head are distinct

distinct_if : (b : Bool) (x : Name) → AreDistinct (if b then [] else x ∷ [])
distinct_if true x = tt
distinct_if false x = ((λ none. none), tt)

-- a pattern binds at most one variable
distinct_layer : (o : P.PatternKind-F PatternKind) → AreDistinct (bound_layer o)
distinct_layer (P.Var x) = distinct_if (is_wildcard x) x
distinct_layer _ = tt

-- the variables are distinct if those from here on are
abbrev pub AreDistinctBefore : List (Node PatternKind) → ℕ → Type 0
AreDistinctBefore ps i = AreDistinct (bound_by (drop i ps)) → AreDistinct (bound_by ps)

pub before_first : (ps : List (Node PatternKind)) → AreDistinctBefore ps 0
before_first ps h = h

pub before_next : (ps : List (Node PatternKind)) (i : ℕ) (p : Node PatternKind) → i < length ps → p ≡ get_or ps i p → IsFresh p (drop (i + 1) ps) → AreDistinctBefore ps i → AreDistinctBefore ps (i + 1)
before_next ps i p lt is fresh before h =
    before (subst (λ qs. AreDistinct (bound_by qs)) (sym (rest_at ps i p lt is)) (AreDistinct-append _ _ (distinct_layer (out-PatternKind p.kind)) h fresh))

distinct_later : (n : ℕ) (ps : List (Node PatternKind)) → AreDistinct (bound_by ps) → AreDistinct (bound_by (drop n ps))
distinct_later zero ps h = h
distinct_later (suc n) [] h = h
distinct_later (suc n) (p ∷ ps) h = distinct_later n ps (AreDistinct-right (bound_layer (out-PatternKind p.kind)) (bound_by ps) h)

pub not_fresh : (ps : List (Node PatternKind)) (i : ℕ) (p : Node PatternKind) (b : Bool) → i < length ps → p ≡ get_or ps i p → (IsTrue b ↔ IsFresh p (drop (i + 1) ps)) → b ≡ false → IsTrue false ↔ AreDistinct (bound_by ps)
not_fresh ps i p b lt is says fails =
    ((λ e. absurd (true≢false (sym e))), λ h. absurd (true≢false (sym (says.1 (AreDistinct-apart _ _ (subst (λ qs. AreDistinct (bound_by qs)) (rest_at ps i p lt is) (distinct_later i ps h)))) ∙ fails)))

pub all_fresh : (ps : List (Node PatternKind)) (i : ℕ) → length ps ≤ i → AreDistinctBefore ps i → IsTrue true ↔ AreDistinct (bound_by ps)
all_fresh ps i end before = ((λ _. before (subst (λ qs. AreDistinct (bound_by qs)) (sym (drop_all i ps end)) tt)), λ _. refl)
