-- Names that are seen one after the other in a set, and those of them that are new.
use Rattle.std.proofs.Common.{◌≡◌, ℕ, ◌+◌, ◌<◌, Bool, true, false, cond, not, ◌||◌, List, [], ◌∷◌, ◌++◌, length, take, get_or, refl, sym, ap, ap₂, ◌∙◌, subst, append-nil, Bor}
use Rattle.std.specs.Prelude.{if◌then◌else◌}
use Rattle.std.specs.List.{list_any}
use Rattle.std.specs.Str.{bytes_eq}
use Rattle.std.proofs.lemmas.List.{take_more, map-append}
use Rattle.std.proofs.lemmas.List.Folds.{list_any-append}
use Rattle.indexmap.specs.IndexSet.{insert_key}
use Rattle.type_terms.specs.Keys.{Name, same_name}
use Rattle.type_terms.proofs.KeyLaws.{name-is}
use Rattle.erl_tree.specs.declared.token.Node.{Node}
use Rattle.erl_tree.specs.declared.type_expr.TypeKind.{TypeKind}
use Rattle.typespecs_rules.specs.TypeVariables.{own_variable}
use Rattle.typespecs_rules.specs.TypeFaults.{stands_among}
use Rattle.typespecs_clauses.specs.Names.{texts}
use Rattle.typespecs_clauses.proofs.NameLaws.{bytes-same}
use Rattle.typespecs_clauses.proofs.ClauseLaws.{own_in, own-at}
use Rattle.typespecs_single.specs.NewNames.{new_behind}
use Rattle.typespecs_single.proofs.NewNameLaws.{new-push}

abbrev pub References : Type 0
References = List (Bor (List ℕ))

abbrev pub is_key : Bor (List ℕ) → Bor (List ℕ) → Bool
is_key k j = bytes_eq k.now j.now

or-true : (b : Bool) → (b || true) ≡ true
or-true true = refl
or-true false = refl

or-false : (b : Bool) → (b || false) ≡ b
or-false true = refl
or-false false = refl

or-assoc : (a b c : Bool) → ((a || b) || c) ≡ (a || (b || c))
or-assoc true b c = refl
or-assoc false b c = refl

-- ---- one more name

stands-push : (x y : Name) (xs : List Name) → stands_among x (xs ++ y ∷ []) ≡ (stands_among x xs || same_name x y)
stands-push x y xs = list_any-append (same_name x) xs (y ∷ []) ∙ ap (λ b. stands_among x xs || b) (or-false (same_name x y))

seen-is : (k : Bor (List ℕ)) (keys : References) → list_any (is_key k) keys ≡ stands_among k.now (texts keys)
seen-is k [] = refl
seen-is k (j ∷ keys) = ap₂ ◌||◌ (bytes-same k.now j.now) (seen-is k keys)

-- in a set
seen-more : (keys : References) (k : Bor (List ℕ)) (x : Name) → stands_among x (texts (insert_key is_key keys k)) ≡ (stands_among x (texts keys) || same_name x k.now)
seen-more keys k x = by (list_any (is_key k) keys) refl
  where
    by : (b : Bool) → list_any (is_key k) keys ≡ b → stands_among x (texts (if b then keys else keys ++ k ∷ [])) ≡ (stands_among x (texts keys) || same_name x k.now)
    by true p = same (same_name x k.now) refl
      where
        same : (s : Bool) → same_name x k.now ≡ s → stands_among x (texts keys) ≡ (stands_among x (texts keys) || s)
        same true e =
            let there : stands_among x (texts keys) ≡ true = ap (λ (y : Name). stands_among y (texts keys)) (name-is x k.now e) ∙ (sym (seen-is k keys) ∙ p) in
            there ∙ sym (ap (λ b. b || true) there)
        same false e = sym (or-false (stands_among x (texts keys)))
    by false p = ap (stands_among x) (map-append (λ (b : Bor (List ℕ)). b.now) keys (k ∷ [])) ∙ stands-push x k.now (texts keys)

-- ---- a set of names

module _ (names : List Name) where
  -- the first so many names stand in a set
  abbrev pub HasNamesTo : ℕ → References → Type 0
  HasNamesTo i keys = (x : Name) → stands_among x (texts keys) ≡ stands_among x (take i names)

  pub name-next : (i : ℕ) (name : Name) (k : Bor (List ℕ)) (keys new : References) → i < length names → name ≡ get_or names i name → k.now ≡ name → new ≡ insert_key is_key keys k → HasNamesTo i keys → HasNamesTo (i + 1) new
  name-next i name k keys new lt is same more so_far x =
      ap (λ ks. stands_among x (texts ks)) more
      ∙ (seen-more keys k x
      ∙ ((λ j. so_far x j || same_name x ((same ∙ is) j))
      ∙ (sym (stands-push x (get_or names i name) (take i names)) ∙ ap (stands_among x) (sym (take_more names i name lt)))))

-- ---- names that are seen

-- names and those of a list have been seen, and these are the new ones of the list
pub record AreSeen (names xs : List Name) (keys new : References) : Type 0 where
  pub seen : (x : Name) → stands_among x (texts keys) ≡ (stands_among x names || stands_among x xs)
  pub noted : texts new ≡ new_behind names xs

pub none-seen : (names : List Name) (keys new : References) → ((x : Name) → stands_among x (texts keys) ≡ stands_among x names) → new ≡ [] → AreSeen names [] keys new
none-seen names keys new are none = record { seen = λ x. are x ∙ sym (or-false (stands_among x names)); noted = ap texts none }

module _ (names xs : List Name) (keys new : References) (are : AreSeen names xs keys new) (k : Bor (List ℕ)) (y : Name) (same : k.now ≡ y) (b : Bool) (added : b ≡ not (list_any (is_key k) keys)) (more : References) (is : more ≡ insert_key is_key keys k) where
  test : list_any (is_key k) keys ≡ (stands_among y names || stands_among y xs)
  test = seen-is k keys ∙ (ap (λ (z : Name). stands_among z (texts keys)) same ∙ are.seen y)

  now-seen : (x : Name) → stands_among x (texts more) ≡ (stands_among x names || stands_among x (xs ++ y ∷ []))
  now-seen x =
      ap (λ ks. stands_among x (texts ks)) is
      ∙ (seen-more keys k x
      ∙ ((λ j. are.seen x j || same_name x (same j))
      ∙ (or-assoc (stands_among x names) (stands_among x xs) (same_name x y) ∙ ap (λ c. stands_among x names || c) (sym (stands-push x y xs)))))

  stands : (c : Bool) → b ≡ not c → (stands_among y names || stands_among y xs) ≡ c
  stands c e = sym test ∙ by (list_any (is_key k) keys) c (sym added ∙ e)
    where
      by : (t c : Bool) → not t ≡ not c → t ≡ c
      by true true e = refl
      by true false e = absurd (cc)
      by false true e = absurd (cc)
      by false false e = refl

  -- one that is new
  pub seen-new : b ≡ true → (n : Bor (List ℕ)) (longer : References) → n.now ≡ y → longer ≡ new ++ n ∷ [] → AreSeen names (xs ++ y ∷ []) more longer
  seen-new e n longer name pushed = record {
    seen = now-seen;
    noted =
        ap texts pushed ∙ (map-append (λ (r : Bor (List ℕ)). r.now) new (n ∷ []) ∙ ((λ j. are.noted j ++ name j ∷ [])
        ∙ (ap (λ c. new_behind names xs ++ cond c [] (y ∷ [])) (sym (stands false e)) ∙ sym (new-push names xs y))));
  }

  -- one that was seen before
  pub seen-again : b ≡ false → AreSeen names (xs ++ y ∷ []) more new
  seen-again e = record {
    seen = now-seen;
    noted = are.noted ∙ (sym (append-nil (new_behind names xs)) ∙ (ap (λ c. new_behind names xs ++ cond c [] (y ∷ [])) (sym (stands true e)) ∙ sym (new-push names xs y)));
  }

-- ---- the variables among types

module _ (names : List Name) (ts : List (Bor (Node TypeKind))) (i : ℕ) (t : Bor (Node TypeKind)) (lt : i < length ts) (at : t ≡ get_or ts i t) (keys new later noted : References) (same : later ≡ keys) (is : noted ≡ new) where
  -- one that is a variable, and one that is none
  pub seen-one : (y : Name) → y ∷ [] ≡ own_variable t.now → AreSeen names (own_in (take i ts) ++ y ∷ []) keys new → AreSeen names (own_in (take (i + 1) ts)) later noted
  seen-one y own are = subst (λ xs. AreSeen names xs later noted) (own-at ts i t lt at (y ∷ []) own) (subst (λ ks. AreSeen names (own_in (take i ts) ++ y ∷ []) ks noted) (sym same) (subst (λ ns. AreSeen names (own_in (take i ts) ++ y ∷ []) keys ns) (sym is) are))

  pub seen-none : [] ≡ own_variable t.now → AreSeen names (own_in (take i ts)) keys new → AreSeen names (own_in (take (i + 1) ts)) later noted
  seen-none own are = subst (λ xs. AreSeen names xs later noted) (sym (append-nil (own_in (take i ts))) ∙ own-at ts i t lt at [] own) (subst (λ ks. AreSeen names (own_in (take i ts)) ks noted) (sym same) (subst (λ ns. AreSeen names (own_in (take i ts)) keys ns) (sym is) are))
