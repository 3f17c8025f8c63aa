-- What is wrong with specs, part by part.
use Rattle.std.proofs.Common.{◌≡◌, ℕ, ◌+◌, ◌<◌, ◌≤◌, Bool, true, false, not, ◌||◌, List, [], ◌∷◌, ◌++◌, length, drop, get_or, refl, sym, ap, ap₂, ◌∙◌, Option, Bor, nat_eq, arith, true≢false}
use Rattle.std.specs.List.{list_any}
use Rattle.std.proofs.lemmas.List.{drop_all}
use Rattle.std.proofs.lemmas.Bool.Decides.{nat_tests}
use Rattle.indexmap.specs.IndexSet.{insert_key}
use Rattle.type_terms.specs.Keys.{Name, same_name}
use Rattle.erl_tree.specs.declared.token.Node.{Node}
use Rattle.erl_tree.specs.declared.type_expr.TypeKind.{TypeKind}
use Rattle.erl_tree.specs.declared.form.SpecClauseKind.{SpecClauseKind}
use Rattle.typespecs_rules.specs.declared.fault.PlacedFault.{PlacedFault}
use Rattle.typespecs_rules.specs.declared.fault.TypeFault.TheVariants.{Repeated, ArityDiffers}
use Rattle.typespecs_rules.specs.TypeParts.{from_each}
use Rattle.typespecs_rules.specs.Declarations.{Declarations}
use Rattle.typespecs_rules.specs.Bounds.{Bound, bounded}
use Rattle.typespecs_rules.specs.TypeVariables.{clause_types}
use Rattle.typespecs_rules.specs.TypeFaults.{unless, any_variable, stands_among, has_repeated, type_faults, clause_faults, clauses_faults}
use Rattle.typespecs_rules.specs.Earliest.{earliest}
use Rattle.typespecs_faults.specs.NameSets.{names_in}
use Rattle.typespecs_faults.specs.Specs.{bound_faults, arity_faults}
use Rattle.typespecs_faults.proofs.NamesCompared.{same-sym}
use Rattle.typespecs_faults.proofs.FieldLaws.{Seen, is_key, seen-is, seen-more}
use Rattle.typespecs_faults.proofs.Rows.{rest_at, noted_two}
use Rattle.typespecs_faults.proofs.TypeLaws.{clause-types, each-allowed}

-- ---- variables with two bounds

-- whether some of these names stand in a set
abbrev any_seen : Seen → List Name → Bool
any_seen keys xs = list_any (λ x. stands_among x (names_in keys)) xs

none-seen : (xs : List Name) → any_seen [] xs ≡ false
none-seen [] = refl
none-seen (x ∷ xs) = none-seen xs

apart : (a b c d : Bool) → ((a || b) || (c || d)) ≡ ((a || c) || (b || d))
apart true b c d = refl
apart false true true d = refl
apart false true false d = refl
apart false false c d = refl

-- one more name in a set
any-more : (keys : Seen) (k : Bor (List ℕ)) (xs : List Name) → any_seen (insert_key is_key keys k) xs ≡ (stands_among k.now xs || any_seen keys xs)
any-more keys k [] = refl
any-more keys k (x ∷ xs) = ap₂ ◌||◌ (sym (seen-more keys k x) ∙ ap (λ b. b || stands_among x (names_in keys)) (same-sym x k.now)) (any-more keys k xs) ∙ apart (same_name k.now x) (stands_among x (names_in keys)) (stands_among k.now xs) (any_seen keys xs)

shuffle : (a b c : Bool) → ((a || b) || c) ≡ ((false || b) || (a || c))
shuffle true true c = refl
shuffle true false c = refl
shuffle false b c = refl

module _ (bounds : List Bound) where
  -- a name in the set stands among those that are left, or one of them stands twice there
  abbrev pub IsRepeatedTo : ℕ → Seen → Type 0
  IsRepeatedTo i keys = (any_seen keys (bounded (drop i bounds)) || has_repeated (bounded (drop i bounds))) ≡ has_repeated (bounded bounds)

  pub repeated_init : (keys : Seen) → keys ≡ [] → IsRepeatedTo 0 keys
  repeated_init keys e = ap (λ b. b || has_repeated (bounded bounds)) (ap (λ ks. any_seen ks (bounded bounds)) e ∙ none-seen (bounded bounds))

  module _ (i : ℕ) (b : Bound) (keys : Seen) (k : Bor (List ℕ)) (t : Bool) (lt : i < length bounds) (is : b ≡ get_or bounds i b) (name : k.now ≡ b.0) (test : t ≡ not (list_any (is_key k) keys)) (so_far : IsRepeatedTo i keys) where
    turned : ((stands_among b.0 (names_in keys) || any_seen keys (bounded (drop (i + 1) bounds))) || (stands_among b.0 (bounded (drop (i + 1) bounds)) || has_repeated (bounded (drop (i + 1) bounds)))) ≡ has_repeated (bounded bounds)
    turned = ap (λ (bs : List Bound). any_seen keys (bounded bs) || has_repeated (bounded bs)) (sym (rest_at bounds i b lt is)) ∙ so_far

    tested : t ≡ not (stands_among b.0 (names_in keys))
    tested = test ∙ ap not (seen-is k keys ∙ ap (λ (x : Name). stands_among x (names_in keys)) name)

    by_test : (c : Bool) → t ≡ not c → (u : Bool) → t ≡ u → c ≡ not u
    by_test true e true f = absurd (true≢false (sym f ∙ e))
    by_test true e false f = refl
    by_test false e true f = refl
    by_test false e false f = absurd (true≢false (sym e ∙ f))

    pub repeated_here : t ≡ false → true ≡ has_repeated (bounded bounds)
    repeated_here fails = sym (ap (λ c. (c || any_seen keys (bounded (drop (i + 1) bounds))) || (stands_among b.0 (bounded (drop (i + 1) bounds)) || has_repeated (bounded (drop (i + 1) bounds)))) (by_test (stands_among b.0 (names_in keys)) tested false fails)) ∙ turned

    pub repeated_next : (new : Seen) → new ≡ insert_key is_key keys k → t ≡ true → IsRepeatedTo (i + 1) new
    repeated_next new more holds =
        ap (λ ks. any_seen ks (bounded (drop (i + 1) bounds)) || has_repeated (bounded (drop (i + 1) bounds))) more
        ∙ (ap (λ c. c || has_repeated (bounded (drop (i + 1) bounds))) (any-more keys k (bounded (drop (i + 1) bounds)) ∙ ap (λ (x : Name). stands_among x (bounded (drop (i + 1) bounds)) || any_seen keys (bounded (drop (i + 1) bounds))) name)
        ∙ (shuffle (stands_among b.0 (bounded (drop (i + 1) bounds))) (any_seen keys (bounded (drop (i + 1) bounds))) (has_repeated (bounded (drop (i + 1) bounds)))
        ∙ (ap (λ c. (c || any_seen keys (bounded (drop (i + 1) bounds))) || (stands_among b.0 (bounded (drop (i + 1) bounds)) || has_repeated (bounded (drop (i + 1) bounds)))) (sym (by_test (stands_among b.0 (names_in keys)) tested true holds)) ∙ turned)))

  or-end : (b : Bool) → false ≡ b → b ≡ false
  or-end b e = sym e

  pub repeated_last : (i : ℕ) (keys : Seen) → length bounds ≤ i → IsRepeatedTo i keys → false ≡ has_repeated (bounded bounds)
  repeated_last i keys end so_far = ap (λ (bs : List Bound). any_seen keys (bounded bs) || has_repeated (bounded bs)) (sym (drop_all i bounds end)) ∙ so_far

-- ---- clauses

pub clause-noted : (d : Declarations) (allowed : Name → Bool) (c : Node SpecClauseKind) (k : SpecClauseKind) (params : List (Node TypeKind)) (bs bounds : List Bound) (b : Bool) (old one two three new : Option PlacedFault)
    → ((x : Name) → allowed x ≡ true) → k ≡ c.kind → params ≡ k.params → bs ≡ k.bounds → bounds ≡ k.bounds → b ≡ has_repeated (bounded bs)
    → one ≡ earliest old (unless (not b) Repeated c.place) → two ≡ earliest one (from_each (type_faults d allowed) params) → three ≡ earliest two (type_faults d allowed k.result) → new ≡ earliest three (from_each (bound_faults d allowed) bounds) → new ≡ earliest old (clause_faults d c)
clause-noted d allowed c k params bs bounds b old one two three new all same ps first second twice h1 h2 h3 h4 =
    noted_two old one new (unless (not (has_repeated (bounded c.kind.bounds))) Repeated c.place) (from_each (type_faults d any_variable) (clause_types c.kind))
    (h1 ∙ ap (λ t. earliest old (unless (not t) Repeated c.place)) (twice ∙ ap (λ (l : List Bound). has_repeated (bounded l)) (first ∙ ap (λ (x : SpecClauseKind). x.bounds) same)))
    (noted_two one two new (from_each (type_faults d allowed) k.params) (type_faults d allowed k.result ++ from_each (bound_faults d allowed) k.bounds) (h2 ∙ ap (λ ts. earliest one (from_each (type_faults d allowed) ts)) ps)
    (noted_two two three new (type_faults d allowed k.result) (from_each (bound_faults d allowed) k.bounds) h3 (h4 ∙ ap (λ ts. earliest three (from_each (bound_faults d allowed) ts)) second))
    ∙ ap (earliest one) (clause-types d allowed k ∙ (each-allowed d allowed any_variable all (clause_types k) ∙ ap (λ x. from_each (type_faults d any_variable) (clause_types x)) same)))

eq-itself : (n : ℕ) → nat_eq n n ≡ true
eq-itself n = grind (arith, nat_tests)

-- the first clause has as many parameters as itself
pub clauses-are : (d : Declarations) (cs : List (Node SpecClauseKind)) → arity_faults cs ++ from_each (clause_faults d) cs ≡ clauses_faults d cs
clauses-are d [] = refl
clauses-are d (c ∷ cs) =
    ap (λ b. (unless b ArityDiffers c.place ++ from_each (λ (x : Node SpecClauseKind). unless (nat_eq (length x.kind.params) (length c.kind.params)) ArityDiffers x.place) cs) ++ from_each (clause_faults d) (c ∷ cs)) (eq-itself (length c.kind.params))
