-- Names with the variables of a type behind them: they stay distinct, each keeps its place, and each variable of the type stands there.
use Rattle.std.proofs.Common.{◌≡◌, refl, ap, sym, subst, ◌∙◌, ⊎_elim, inl, inr, ℕ, suc, List, [], ◌∷◌, ◌++◌}
use Rattle.std.specs.Prelude.{Some, Bool, true, false, not, ◌||◌, cond}
use Rattle.std.specs.Option.{option_map}
use Rattle.std.specs.List.{filter, list_any}
use Rattle.std.proofs.lemmas.Bool.{false≢true}
use Rattle.type_terms.specs.Keys.{Name, same_name}
use Rattle.type_terms.proofs.KeyLaws.{name-is, name-refl}
use Rattle.erl_tree.specs.Lists.{Among, AreDistinct}
use Rattle.erl_tree.specs.declared.token.Node.{Node}
use Rattle.erl_tree.specs.declared.type_expr.TypeKind.{TypeKind}
use Rattle.typespecs_rules.specs.Declarations.{position}
use Rattle.typespecs_rules.specs.TypeVariables.{variables_of, first_occurrences, place_among, and_variables_of}
use Rattle.typespecs_lemmas.proofs.AlikeTypes.{among-left, among-right}
use Rattle.typespecs_lemmas.proofs.ClauseTerms.{among-first}
use Rattle.typespecs_lemmas.proofs.GivenReach.{mapped}
use Rattle.typespecs_lemmas.proofs.TextFaults.{among-cases}

-- ---- lists

among-filtered : (test : Name → Bool) (x : Name) (xs : List Name) → test x ≡ true → Among x xs → Among x (filter test xs)
among-filtered test x [] e a = absurd a
among-filtered test x (y ∷ xs) e a = ⊎_elim (λ q. here (test y) (ap test (sym q) ∙ e) q) (λ r. later (test y) (among-filtered test x xs e r)) a
  where
    here : (b : Bool) → b ≡ true → x ≡ y → Among x (cond b (y ∷ filter test xs) (filter test xs))
    here true s q = inl q
    here false s q = absurd (false≢true s)

    later : (b : Bool) → Among x (filter test xs) → Among x (cond b (y ∷ filter test xs) (filter test xs))
    later true i = inr i
    later false i = i

filtered-among : (test : Name → Bool) (x : Name) (xs : List Name) → Among x (filter test xs) → (test x ≡ true) × Among x xs
filtered-among test x [] a = absurd a
filtered-among test x (y ∷ xs) a = go (test y) refl a (filtered-among test x xs)
  where
    go : (b : Bool) → test y ≡ b → Among x (cond b (y ∷ filter test xs) (filter test xs)) → (Among x (filter test xs) → (test x ≡ true) × Among x xs) → (test x ≡ true) × Among x (y ∷ xs)
    go true s i more = ⊎_elim (λ q. (ap test q ∙ s, inl q)) (λ r. let p = more r in (p.0, inr p.1)) i
    go false s i more = let p = more i in (p.0, inr p.1)

distinct-filtered : (test : Name → Bool) (xs : List Name) → AreDistinct xs → AreDistinct (filter test xs)
distinct-filtered test [] d = tt
distinct-filtered test (x ∷ xs) d = go (test x) (distinct-filtered test xs d.1)
  where
    go : (b : Bool) → AreDistinct (filter test xs) → AreDistinct (cond b (x ∷ filter test xs) (filter test xs))
    go true more = ((λ a. d.0 (filtered-among test x xs a).1), more)
    go false more = more

distinct-both : (xs ys : List Name) → AreDistinct xs → AreDistinct ys → ((x : Name) → Among x xs → Among x ys → ⊥) → AreDistinct (xs ++ ys)
distinct-both [] ys d e apart = e
distinct-both (x ∷ xs) ys d e apart = ((λ a. ⊎_elim d.0 (λ r. apart x (inl refl) r) (among-cases x xs ys a)), distinct-both xs ys d.1 e (λ y a b. apart y (inr a) b))

among-any : (x : Name) (xs : List Name) → Among x xs → list_any (same_name x) xs ≡ true
among-any x [] a = absurd a
among-any x (y ∷ xs) a = ⊎_elim (λ e. first (same_name x y) (list_any (same_name x) xs) (subst (λ z. same_name x z ≡ true) e (name-refl x))) (λ r. later (same_name x y) (list_any (same_name x) xs) (among-any x xs r)) a
  where
    first : (b c : Bool) → b ≡ true → (b || c) ≡ true
    first true c e = refl
    first false c e = absurd (false≢true e)

    later : (b c : Bool) → c ≡ true → (b || c) ≡ true
    later true c e = refl
    later false c e = e

any-among : (x : Name) (xs : List Name) → list_any (same_name x) xs ≡ true → Among x xs
any-among x [] e = absurd (false≢true e)
any-among x (y ∷ xs) e = go (same_name x y) refl e (any-among x xs)
  where
    go : (b : Bool) → same_name x y ≡ b → (b || list_any (same_name x) xs) ≡ true → (list_any (same_name x) xs ≡ true → Among x xs) → Among x (y ∷ xs)
    go true s q more = inl (name-is x y s)
    go false s q more = inr (more q)

placed-first : (test : Name → Bool) (xs ys : List Name) (i : ℕ) → position test xs ≡ Some i → position test (xs ++ ys) ≡ Some i
placed-first test [] ys i e = absurd (cc)
placed-first test (x ∷ xs) ys i e = go (test x) e (placed-first test xs ys)
  where
    go : (b : Bool) → cond b (Some 0) (option_map suc (position test xs)) ≡ Some i → ((j : ℕ) → position test xs ≡ Some j → position test (xs ++ ys) ≡ Some j) → cond b (Some 0) (option_map suc (position test (xs ++ ys))) ≡ Some i
    go true q more = q
    go false q more = let p = mapped suc (position test xs) i q in ap (λ o. option_map suc o) (more p.0 p.1) ∙ ap Some p.2

not-both : (b : Bool) → not b ≡ true → b ≡ true → ⊥
not-both true e q = false≢true e
not-both false e q = false≢true q

-- ---- names

distinct-first : (xs : List Name) → AreDistinct (first_occurrences xs)
distinct-first [] = tt
distinct-first (x ∷ xs) = (
  (λ a. not-both (same_name x x) (filtered-among (λ y. not (same_name x y)) x (first_occurrences xs) a).0 (name-refl x)),
  distinct-filtered (λ y. not (same_name x y)) (first_occurrences xs) (distinct-first xs),
)

-- names that don't stand among others
abbrev new_among : List Name → List Name → List Name
new_among names xs = filter (λ x. not (list_any (same_name x) names)) xs

pub stay-distinct : (names : List Name) (t : Node TypeKind) → AreDistinct names → AreDistinct (and_variables_of names t)
stay-distinct names t d = distinct-both names (new_among names (first_occurrences (variables_of t))) d
    (distinct-filtered (λ x. not (list_any (same_name x) names)) (first_occurrences (variables_of t)) (distinct-first (variables_of t)))
    (λ x a b. not-both (list_any (same_name x) names) (filtered-among (λ y. not (list_any (same_name y) names)) x (first_occurrences (variables_of t)) b).0 (among-any x names a))

pub keep-places : (names : List Name) (t : Node TypeKind) (x : Name) (i : ℕ) → place_among names x ≡ Some i → place_among (and_variables_of names t) x ≡ Some i
keep-places names t x i e = placed-first (same_name x) names (new_among names (first_occurrences (variables_of t))) i e

pub stand-there : (names : List Name) (t : Node TypeKind) (x : Name) → Among x (variables_of t) → Among x (and_variables_of names t)
stand-there names t x a = go (list_any (same_name x) names) refl
  where
    go : (b : Bool) → list_any (same_name x) names ≡ b → Among x (and_variables_of names t)
    go true e = among-left x names (new_among names (first_occurrences (variables_of t))) (any-among x names e)
    go false e = among-right x names (new_among names (first_occurrences (variables_of t))) (among-filtered (λ y. not (list_any (same_name y) names)) x (first_occurrences (variables_of t)) (ap not e) (among-first x (variables_of t) a))
