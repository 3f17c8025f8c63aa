-- What variables of a clause stand for: where no bound is cyclic, a bounded one for what its bound says.
use Rattle.std.proofs.Common.{◌≡◌, refl, ap, sym, subst, ◌∙◌, ⊎_elim, inl, inr, ℕ, zero, suc, ◌+◌, ◌<◌, ◌≤◌, List, [], ◌∷◌, length, get_or, arith}
use Rattle.std.specs.Prelude.{Option, Some, None as Nothing, Bool, true, false, cond, is_some, slice_get}
use Rattle.std.specs.Option.{option_map}
use Rattle.std.specs.List.{Contains, filter_map, cons_option}
use Rattle.type_terms.specs.Keys.{Name, same_name}
use Rattle.type_terms.specs.declared.term.Term.{Term}
use Rattle.erl_tree.specs.declared.token.Node.{Node}
use Rattle.erl_tree.specs.declared.type_expr.TypeKind.{TypeKind, out-TypeKind}
use Rattle.erl_tree.specs.declared.type_expr.MapPart.{MapPart}
use Rattle.erl_tree.specs.declared.type_expr.TypeKind.TheOpen as O
use Rattle.erl_tree.specs.declared.form.SpecClauseKind.{SpecClauseKind}
use Rattle.erl_tree.specs.Lists.{Among}
use Rattle.erl_runs.specs.Names.{is_wildcard}
use Rattle.typespecs_rules.specs.TypeParts.{types_within}
use Rattle.typespecs_rules.specs.Declarations.{Declarations}
use Rattle.typespecs_rules.specs.TypeTerms.{record_tuple}
use Rattle.typespecs_rules.specs.TypeVariables.{variable_layer, own_variable, variables_of, place_among}
use Rattle.typespecs_rules.specs.Bounds.{Bound, bounded, bound_of, bound_graph, IsCyclic, stands_once, with_bound, stands_within, stands_for}
use Rattle.typespecs_lemmas.specs.Acyclic.{bounded_term}
use Rattle.typespecs_lemmas.proofs.AlikeTypes.{among-each, all-alike}
use Rattle.typespecs_lemmas.proofs.Chains.{Chain, no-long-chain}
use Rattle.typespecs_lemmas.proofs.RecordTuples.{among-contains, position-below, get-mapped, length-mapped, agreeing}

-- ---- variables

pub is-variable : (x : Name) (t u : Node TypeKind) → Among u (types_within t) → out-TypeKind u.kind ≡ O.Var x → is_wildcard x ≡ false → Among x (variables_of t)
is-variable x t u i o w = among-each own_variable u x (types_within t) i
    (subst (λ (l : O.TypeKind-F TypeKind MapPart). Among x (variable_layer l)) (sym o) (subst (λ b. Among x (cond b [] (x ∷ []))) (sym w) (inl refl)))

-- ---- bounds by their positions

placed-step : (x : Name) (b : Bound) (bs : List Bound) (t : Node TypeKind) → (bound_of bs x ≡ Some t → (i : ℕ) × (place_among (bounded bs) x ≡ Some i) × (d : Bound) × (slice_get bs i ≡ Some d) × (d.1 ≡ t)) → (is : Bool) → cond is (Some b.1) (bound_of bs x) ≡ Some t → (i : ℕ) × (cond is (Some 0) (option_map suc (place_among (bounded bs) x)) ≡ Some i) × (d : Bound) × (slice_get (b ∷ bs) i ≡ Some d) × (d.1 ≡ t)
placed-step x b bs t h true e = (0, refl, b, refl, first e)
  where
    first : Some b.1 ≡ Some t → b.1 ≡ t
    first r = cc
placed-step x b bs t h false e = let p = h e in (suc p.0, ap (λ o. option_map suc o) p.1, p.2, p.3, p.4)

pub placed : (bs : List Bound) (x : Name) (t : Node TypeKind) → bound_of bs x ≡ Some t → (i : ℕ) × (place_among (bounded bs) x ≡ Some i) × (d : Bound) × (slice_get bs i ≡ Some d) × (d.1 ≡ t)
placed [] x t e = absurd (cc)
placed (b ∷ bs) x t e = placed-step x b bs t (placed bs x t) (same_name x b.0) e

among-behind : {B : Type 0} (y : B) (o : Option B) (ys : List B) → Among y ys → Among y (cons_option o ys)
among-behind y Nothing ys a = a
among-behind y (Some z) ys a = inr a

among-there : {A B : Type 0} (h : A → Option B) (x : A) (y : B) (xs : List A) → Among x xs → h x ≡ Some y → Among y (filter_map h xs)
among-there h x y [] a e = absurd a
among-there h x y (z ∷ xs) a e = ⊎_elim (λ q. subst (λ o. Among y (cons_option o (filter_map h xs))) (sym (ap h (sym q) ∙ e)) (inl refl)) (λ r. among-behind y (h z) (filter_map h xs) (among-there h x y xs r e)) a

module _ (declared : Declarations) (c : SpecClauseKind) (variables : Name → Option Term) where
  abbrev number : Name → Option ℕ
  number x = place_among (bounded c.bounds) x

  abbrev pub BoundChain : ℕ → Name → Type 0
  BoundChain k x = Chain number (bound_graph c.bounds) k x

  numbers-within : (x : Name) (n : ℕ) → number x ≡ Some n → (0 ≤ n) × (n < 0 + length c.bounds)
  numbers-within x n e =
      let l : n < length (bounded c.bounds) = position-below (same_name x) (bounded c.bounds) n e in
      let s : length (bounded c.bounds) ≡ length c.bounds = length-mapped (λ b. b.0) c.bounds in
      (omega arith, omega arith)

  -- a bound's variables lead on
  pub bound-leads : (x y : Name) (t : Node TypeKind) (n : ℕ) → (bound : bound_of c.bounds x ≡ Some t) → Among y (variables_of t) → number y ≡ Some n → Contains (get_or (bound_graph c.bounds) (placed c.bounds x t bound).0 []) n
  bound-leads x y t n bound a e =
      let p = placed c.bounds x t bound in
      subst (λ l. Contains l n) (sym (get-mapped (λ (b : Bound). filter_map (place_among (bounded c.bounds)) (variables_of b.1)) c.bounds p.0 p.2 [] p.3))
      (among-contains n _ (among-there number y n (variables_of p.2.1) (subst (λ s. Among y (variables_of s)) (sym p.4) a) e))

  pub chain-number : (k : ℕ) (x : Name) → BoundChain k x → (n : ℕ) × (number x ≡ Some n)
  chain-number zero x ch = ch
  chain-number (suc k) x ch = (ch.0, ch.1)

  -- one level
  pub one-level : (k : ℕ) (x : Name) → stands_within declared c variables (suc k) x ≡ bounded_term declared c variables (stands_within declared c variables k) x (bound_of c.bounds x)
  one-level k x = go (bound_of c.bounds x) refl
    where
      go : (o : Option (Node TypeKind)) → bound_of c.bounds x ≡ o → stands_within declared c variables (suc k) x ≡ bounded_term declared c variables (stands_within declared c variables k) x o
      go Nothing e = rw e refl
      go (Some t) e = rw e refl

  -- where no chain of so many bounds begins at a variable, one more level changes nothing
  stays : (k : ℕ) (x : Name) → (BoundChain k x → ⊥) → stands_within declared c variables k x ≡ stands_within declared c variables (suc k) x
  stays zero x ends = go (bound_of c.bounds x) refl ∙ sym (one-level zero x)
    where
      go : (o : Option (Node TypeKind)) → bound_of c.bounds x ≡ o → cond (is_some o) Nothing (variables x) ≡ bounded_term declared c variables (stands_within declared c variables zero) x o
      go Nothing e = refl
      go (Some t) e = let p = placed c.bounds x t e in absurd (ends (p.0, p.1))
  stays (suc k) x ends = one-level k x ∙ (go (bound_of c.bounds x) refl (stays k) ∙ sym (one-level (suc k) x))
    where
      go : (o : Option (Node TypeKind)) → bound_of c.bounds x ≡ o → ((y : Name) → (BoundChain k y → ⊥) → stands_within declared c variables k y ≡ stands_within declared c variables (suc k) y) →
          bounded_term declared c variables (stands_within declared c variables k) x o ≡ bounded_term declared c variables (stands_within declared c variables (suc k)) x o
      go Nothing e below = refl
      go (Some t) e below = ap (λ bound. with_bound (stands_once c x) (variables x) bound)
          (all-alike declared (record_tuple declared) (record_tuple declared) (stands_within declared c variables k) (stands_within declared c variables (suc k)) t.kind t.place t.marks
          (λ u i. agreeing (record_tuple declared) (record_tuple declared) (stands_within declared c variables k) (stands_within declared c variables (suc k)) (out-TypeKind u.kind)
          (λ used tag f fs o. refl)
          (λ y o w. below y (λ ch. let n = chain-number k y ch in let p = placed c.bounds x t e in ends (p.0, p.1, y, n.0, n.1, bound-leads x y t n.0 e (is-variable y t u i o w) n.1, ch)))))

  pub no-bound-chain : (IsCyclic c.bounds → ⊥) → (x : Name) → BoundChain (length c.bounds) x → ⊥
  no-bound-chain h x = no-long-chain number (bound_graph c.bounds) (λ n p. h (n, p)) 0 (length c.bounds) numbers-within x

  -- what a variable stands for, by its bound
  pub by-bound : (IsCyclic c.bounds → ⊥) → (x : Name) → stands_for declared c variables x ≡ bounded_term declared c variables (stands_for declared c variables) x (bound_of c.bounds x)
  by-bound h x = stays (length c.bounds) x (no-bound-chain h x) ∙ one-level (length c.bounds) x
