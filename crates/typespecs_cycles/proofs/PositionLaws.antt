-- Tables of positions by name, and the graph of bounds.
use Rattle.std.proofs.Common.{◌≡◌, refl, ap, sym, subst, ◌∙◌, ℕ, zero, suc, ◌+◌, ◌<◌, List, [], ◌∷◌, ◌++◌, length, take, get_or, map, Bool, true, false, true≢false, Bor, arith, ◌↔◌}
use Rattle.std.proofs.lemmas.List.{take_more}
use Rattle.std.specs.Prelude.{Option, Some, None, cond, is_some, IsTrue, MatchOption}
use Rattle.std.specs.Option.{option_map}
use Rattle.std.specs.List.{filter_map, cons_option}
use Rattle.std.specs.Str.{bytes_eq}
use Rattle.type_terms.specs.Keys.{Name, same_name}
use Rattle.type_terms.specs.Paths.{IsPath}
use Rattle.type_terms.proofs.KeyLaws.{name-is}
use Rattle.erl_tree.specs.declared.type_expr.TypeKind.{TypeKind, out-TypeKind}
use Rattle.erl_tree.specs.declared.type_expr.TypeKind.TheVariants as Y
use Rattle.erl_runs.specs.Names.{is_wildcard}
use Rattle.typespecs_rules.specs.Bounds.{Bound, bounded, bound_graph, IsCyclic}
use Rattle.typespecs_rules.specs.RegularUse.{if_some}
use Rattle.typespecs_rules.specs.TypeVariables.{place_among, variable_layer}
use Rattle.typespecs_cycles.specs.Positions.{Entries, found_in, KnowsPositions}
use Rattle.typespecs_cycles.proofs.Gathering.{map-append}
use Rattle.typespecs_cycles.proofs.Names.{bytes-same}

-- the test by which a name is looked up
abbrev pub is_under : Name → Bor (List ℕ) → Bool
is_under n k = bytes_eq n k.now

pub is-none : {A : Type 0} (o : Option A) (b : Bool) → b ≡ is_some o → b ≡ false → o ≡ None
is-none None b e h = refl
is-none (Some a) b e h = absurd (true≢false (sym e ∙ h))

-- ---- one more name

abbrev or_else : Option ℕ → Option ℕ → Option ℕ
or_else None other = other
or_else (Some i) other = Some i

place-push : (names : List Name) (n x : Name) → place_among (names ++ n ∷ []) x ≡ or_else (place_among names x) (cond (same_name x n) (Some (length names)) None)
place-push [] n x = refl
place-push (m ∷ names) n x = by (same_name x m) (place-push names n x)
  where
    suc-else : (o : Option ℕ) (b : Bool) (k : ℕ) → option_map suc (or_else o (cond b (Some k) None)) ≡ or_else (option_map suc o) (cond b (Some (suc k)) None)
    suc-else None true k = refl
    suc-else None false k = refl
    suc-else (Some i) b k = refl

    by : (b : Bool) → place_among (names ++ n ∷ []) x ≡ or_else (place_among names x) (cond (same_name x n) (Some (length names)) None)
        → cond b (Some 0) (option_map suc (place_among (names ++ n ∷ []) x)) ≡ or_else (cond b (Some 0) (option_map suc (place_among names x))) (cond (same_name x n) (Some (suc (length names))) None)
    by true h = refl
    by false h = ap (option_map suc) h ∙ suc-else (place_among names x) (same_name x n) (length names)

lookup-push : (es : Entries) (k : Bor (List ℕ)) (v : ℕ) (x : Name) → found_in (es ++ (k, v) ∷ []) x ≡ or_else (found_in es x) (cond (bytes_eq x k.now) (Some v) None)
lookup-push [] k v x = refl
lookup-push (e ∷ es) k v x = by (bytes_eq x e.0.now) (lookup-push es k v x)
  where
    by : (b : Bool) → found_in (es ++ (k, v) ∷ []) x ≡ or_else (found_in es x) (cond (bytes_eq x k.now) (Some v) None)
        → cond b (Some e.1) (found_in (es ++ (k, v) ∷ []) x) ≡ or_else (cond b (Some e.1) (found_in es x)) (cond (bytes_eq x k.now) (Some v) None)
    by true h = refl
    by false h = h

stays : (o : Option ℕ) (other : Option ℕ) → is_some o ≡ true → o ≡ or_else o other
stays None other h = absurd (true≢false (sym h))
stays (Some i) other h = refl

nothing-more : (o : Option ℕ) → o ≡ or_else o None
nothing-more None = refl
nothing-more (Some i) = refl

take-length : {A : Type 0} (xs : List A) (i : ℕ) → i < length xs → length (take i xs) ≡ i
take-length [] i lt = absurd (omega arith)
take-length (x ∷ xs) zero lt = refl
take-length (x ∷ xs) (suc i) lt = ap suc (take-length xs i (omega arith))

map-length : {A B : Type 0} (v : A → B) (xs : List A) → length (map v xs) ≡ length xs
map-length v [] = refl
map-length v (x ∷ xs) = ap suc (map-length v xs)

module _ (bounds : List Bound) (i : ℕ) (b : Bound) (lt : i < length bounds) (is : b ≡ get_or bounds i b) (k : Bor (List ℕ)) (named : k.now ≡ b.0) (es : Entries) (so_far : KnowsPositions es (bounded (take i bounds))) where
  names-next : bounded (take (i + 1) bounds) ≡ bounded (take i bounds) ++ k.now ∷ []
  names-next =
      ap bounded (take_more bounds i b lt ∙ ap (λ (y : Bound). take i bounds ++ y ∷ []) (sym is))
      ∙ (map-append (λ (c : Bound). c.0) (take i bounds) (b ∷ []) ∙ ap (λ (n : Name). bounded (take i bounds) ++ n ∷ []) (sym named))

  pub known-new : (v : ℕ) (new : Entries) → v ≡ i → new ≡ es ++ (k, v) ∷ [] → KnowsPositions new (bounded (take (i + 1) bounds))
  known-new v new counts more x =
      ap (λ l. found_in l x) more ∙ (lookup-push es k v x
      ∙ ((λ j. or_else (so_far x j) (cond (bytes-same x k.now j) (Some (at j)) None))
      ∙ (sym (place-push (bounded (take i bounds)) k.now x) ∙ ap (λ ns. place_among ns x) (sym names-next))))
    where
      at : v ≡ length (bounded (take i bounds))
      at = counts ∙ sym (map-length (λ (c : Bound). c.0) (take i bounds) ∙ take-length bounds i lt)

  pub known-old : (c : Bool) → c ≡ is_some (found_in es k.now) → c ≡ true → KnowsPositions es (bounded (take (i + 1) bounds))
  known-old c there holds x = so_far x ∙ (by (same_name x k.now) refl ∙ (sym (place-push (bounded (take i bounds)) k.now x) ∙ ap (λ ns. place_among ns x) (sym names-next)))
    where
      some : is_some (place_among (bounded (take i bounds)) k.now) ≡ true
      some = ap is_some (sym (so_far k.now)) ∙ (sym there ∙ holds)

      by : (s : Bool) → same_name x k.now ≡ s → place_among (bounded (take i bounds)) x ≡ or_else (place_among (bounded (take i bounds)) x) (cond (same_name x k.now) (Some (length (bounded (take i bounds)))) None)
      by true e = stays (place_among (bounded (take i bounds)) x) _ (subst (λ y. is_some (place_among (bounded (take i bounds)) y) ≡ true) (sym (name-is x k.now e)) some)
      by false e = nothing-more (place_among (bounded (take i bounds)) x) ∙ ap (λ s. or_else (place_among (bounded (take i bounds)) x) (cond s (Some (length (bounded (take i bounds)))) None)) (sym e)

-- ---- the position of one variable

one-position : (o : Option ℕ) → if_some o ≡ cons_option o []
one-position None = refl
one-position (Some n) = refl

pub position-is : (k j : TypeKind) (x a : Name) (b : Bool) (es : Entries) (names : List Name) (o : Option ℕ) → j ≡ k → j ≡ Y.Var x → b ≡ is_wildcard x → b ≡ false → a ≡ x → KnowsPositions es names → o ≡ found_in es a
    → if_some o ≡ filter_map (place_among names) (variable_layer (out-TypeKind k))
position-is k j x a b es names o here is wild fails same known found =
    ap if_some (found ∙ (known a ∙ ap (place_among names) same)) ∙ (one-position (place_among names x)
    ∙ sym (ap (filter_map (place_among names)) (ap (λ l. variable_layer (out-TypeKind l)) (sym here ∙ is) ∙ (ap variable_layer (Y.outs-Var x) ∙ ap (λ c. cond c [] (x ∷ [])) (sym wild ∙ fails)))))

-- ---- cycles

pub cyclic-by : (bounds : List Bound) (graph : List (List ℕ)) → graph ≡ bound_graph bounds → (o : Option ℕ)
    → MatchOption o ((n : ℕ) → IsPath graph n n → ⊥) (λ n. IsPath graph n n × ((m : ℕ) → m < n → IsPath graph m m → ⊥)) → (b : Bool) → b ≡ is_some o → IsTrue b ↔ IsCyclic bounds
cyclic-by bounds graph is None h b e = ((λ t. absurd (true≢false (sym t ∙ e))), (λ p. absurd (h p.0 (subst (λ g. IsPath g p.0 p.0) (sym is) p.1))))
cyclic-by bounds graph is (Some n) h b e = ((λ t. (n, subst (λ g. IsPath g n n) is h.0)), (λ p. e))
