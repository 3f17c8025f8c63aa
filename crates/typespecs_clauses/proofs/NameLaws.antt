-- Tables of names: what an insertion changes, and the places of names in lists.
use Rattle.std.proofs.Common.{◌≡◌, ℕ, suc, ◌+◌, ◌<◌, Bool, true, false, cond, ◌&&◌, List, [], ◌∷◌, ◌++◌, length, take, get_or, refl, sym, ap, ap₂, ◌∙◌, subst, Option, Some, None, is_some, nat_eq, true≢false, Bor, arith}
use Rattle.std.specs.Prelude.{if◌then◌else◌}
use Rattle.std.specs.Option.{option_map, option_or}
use Rattle.std.specs.Map.{lookup}
use Rattle.std.specs.Str.{bytes_eq}
use Rattle.std.proofs.lemmas.Bool.Decides.{nat_tests}
use Rattle.std.proofs.lemmas.List.{map_more, length-take-le}
use Rattle.indexmap.specs.IndexMap.{insert_entry}
use Rattle.type_terms.specs.Keys.{Name, same_name}
use Rattle.type_terms.proofs.KeyLaws.{name-is, name-refl}
use Rattle.typespecs_rules.specs.Declarations.{position}
use Rattle.typespecs_rules.specs.TypeVariables.{place_among}
use Rattle.typespecs_clauses.specs.Names.{Entry, entries_seen, number_of, texts}
use Rattle.typespecs_clauses.specs.Occurrences.{ArePlaces}

-- ---- names compared

eq-sym : (m n : ℕ) → nat_eq m n ≡ nat_eq n m
eq-sym m n = grind (arith, nat_tests)

pub same-sym : (m n : Name) → same_name m n ≡ same_name n m
same-sym [] [] = refl
same-sym [] (y ∷ n) = refl
same-sym (x ∷ m) [] = refl
same-sym (x ∷ m) (y ∷ n) = ap₂ ◌&&◌ (eq-sym x y) (same-sym m n)

pub bytes-same : (m n : Name) → bytes_eq m n ≡ same_name m n
bytes-same [] [] = refl
bytes-same [] (y ∷ n) = refl
bytes-same (x ∷ m) [] = refl
bytes-same (x ∷ m) (y ∷ n) = ap (λ b. nat_eq x y && b) (bytes-same m n)

-- ---- look-ups

abbrev pub is_key : Bor (List ℕ) → Bor (List ℕ) → Bool
is_key k j = bytes_eq k.now j.now

-- a look-up in a map is one in what is seen of its entries
pub found : (k : Name) (es : List (Bor (List ℕ) × ℕ)) → lookup (λ (j : Bor (List ℕ)). bytes_eq k j.now) es ≡ number_of (entries_seen es) k
found k [] = refl
found k (e ∷ es) = (λ i. cond (bytes-same k e.0.now i) (Some e.1) (found k es i))

pub found-by : (q k : Name) (es : List (Bor (List ℕ) × ℕ)) (seen : List Entry) (o : Option ℕ) → q ≡ k → entries_seen es ≡ seen → o ≡ lookup (λ (j : Bor (List ℕ)). bytes_eq q j.now) es → o ≡ number_of seen k
found-by q k es seen o same view is = is ∙ (found q es ∙ (λ i. number_of (view i) (same i)))

-- an insertion gives its key the value, and changes no other
inserted : (k : Bor (List ℕ)) (v : ℕ) (x : Name) (es : List (Bor (List ℕ) × ℕ)) → number_of (entries_seen (insert_entry is_key es k v)) x ≡ cond (same_name x k.now) (Some v) (number_of (entries_seen es) x)
inserted k v x [] = refl
inserted k v x (e ∷ es) = by (is_key k e.0) refl (inserted k v x es)
  where
    twice : (b : Bool) (o : Option ℕ) → cond b (Some v) o ≡ cond b (Some v) (cond b (Some e.1) o)
    twice true o = refl
    twice false o = refl

    swap : (a b : Bool) (o : Option ℕ) → (a ≡ true → b ≡ true → ⊥) → cond a (Some e.1) (cond b (Some v) o) ≡ cond b (Some v) (cond a (Some e.1) o)
    swap true true o h = absurd (h refl refl)
    swap true false o h = refl
    swap false true o h = refl
    swap false false o h = refl

    by : (b : Bool) → is_key k e.0 ≡ b → number_of (entries_seen (insert_entry is_key es k v)) x ≡ cond (same_name x k.now) (Some v) (number_of (entries_seen es) x)
        → number_of (entries_seen (if b then (e.0, v) ∷ es else e ∷ insert_entry is_key es k v)) x ≡ cond (same_name x k.now) (Some v) (cond (same_name x e.0.now) (Some e.1) (number_of (entries_seen es) x))
    by true p rest =
        let q : k.now ≡ e.0.now = name-is k.now e.0.now (sym (bytes-same k.now e.0.now) ∙ p) in
        ap (λ (y : Name). cond (same_name x y) (Some v) (number_of (entries_seen es) x)) (sym q) ∙ (twice (same_name x k.now) (number_of (entries_seen es) x)
        ∙ ap (λ (y : Name). cond (same_name x k.now) (Some v) (cond (same_name x y) (Some e.1) (number_of (entries_seen es) x))) q)
    by false p rest =
        ap (λ o. cond (same_name x e.0.now) (Some e.1) o) rest
        ∙ swap (same_name x e.0.now) (same_name x k.now) (number_of (entries_seen es) x) (λ s t. apart (sym (name-is x k.now t) ∙ name-is x e.0.now s))
      where
        apart : k.now ≡ e.0.now → ⊥
        apart q = true≢false (sym (bytes-same k.now e.0.now ∙ subst (λ (y : Name). same_name k.now y ≡ true) q (name-refl k.now)) ∙ p)

pub inserted-by : (k : Bor (List ℕ)) (name : Name) (v : ℕ) (es new : List (Bor (List ℕ) × ℕ)) (seen : List Entry) → k.now ≡ name → entries_seen es ≡ seen → new ≡ insert_entry is_key es k v → (x : Name) → number_of (entries_seen new) x ≡ cond (same_name x name) (Some v) (number_of seen x)
inserted-by k name v es new seen same view is x =
    ap (λ n. number_of (entries_seen n) x) is ∙ (inserted k v x es ∙ (λ i. cond (same_name x (same i)) (Some v) (number_of (view i) x)))

-- ---- places

pub position-push : {A : Type 0} (test : A → Bool) (xs : List A) (y : A) → position test (xs ++ y ∷ []) ≡ option_or (position test xs) (cond (test y) (Some (length xs)) None)
position-push test [] y = by (test y)
  where
    by : (b : Bool) → cond b (Some 0) (option_map suc None) ≡ cond b (Some 0) None
    by true = refl
    by false = refl
position-push test (x ∷ xs) y = by (test x) (test y) (position test xs) (position test (xs ++ y ∷ [])) (position-push test xs y)
  where
    by : (b c : Bool) (o m : Option ℕ) → m ≡ option_or o (cond c (Some (length xs)) None) → cond b (Some 0) (option_map suc m) ≡ option_or (cond b (Some 0) (option_map suc o)) (cond c (Some (suc (length xs))) None)
    by true c o m e = refl
    by false true None m e = ap (option_map suc) e
    by false true (Some n) m e = ap (option_map suc) e
    by false false None m e = ap (option_map suc) e
    by false false (Some n) m e = ap (option_map suc) e

-- one more name, which is new or stands there already
pub places-new : (xs : List Name) (y : Name) (old new : List Entry) → ArePlaces old xs → is_some (number_of old y) ≡ false → ((x : Name) → number_of new x ≡ cond (same_name x y) (Some (length xs)) (number_of old x)) → ArePlaces new (xs ++ y ∷ [])
places-new xs y old new are none set x = set x ∙ (by (same_name x y) refl ∙ sym (position-push (same_name x) xs y))
  where
    by : (b : Bool) → same_name x y ≡ b → cond b (Some (length xs)) (number_of old x) ≡ option_or (place_among xs x) (cond b (Some (length xs)) None)
    by true e = go (place_among xs x) (sym (ap is_some (are x)) ∙ (ap (λ (z : Name). is_some (number_of old z)) (name-is x y e) ∙ none))
      where
        go : (o : Option ℕ) → is_some o ≡ false → Some (length xs) ≡ option_or o (Some (length xs))
        go None p = refl
        go (Some n) p = absurd (true≢false p)
    by false e = are x ∙ go (place_among xs x)
      where
        go : (o : Option ℕ) → o ≡ option_or o None
        go None = refl
        go (Some n) = refl

pub places-same : (xs : List Name) (y : Name) (old : List Entry) → ArePlaces old xs → is_some (number_of old y) ≡ true → ArePlaces old (xs ++ y ∷ [])
places-same xs y old are some x = are x ∙ (by (same_name x y) refl ∙ sym (position-push (same_name x) xs y))
  where
    by : (b : Bool) → same_name x y ≡ b → place_among xs x ≡ option_or (place_among xs x) (cond b (Some (length xs)) None)
    by true e = go (place_among xs x) (sym (ap is_some (are x)) ∙ (ap (λ (z : Name). is_some (number_of old z)) (name-is x y e) ∙ some))
      where
        go : (o : Option ℕ) → is_some o ≡ true → o ≡ option_or o (Some (length xs))
        go None p = absurd (true≢false (sym p))
        go (Some n) p = refl
    by false e = go (place_among xs x)
      where
        go : (o : Option ℕ) → o ≡ option_or o None
        go None = refl
        go (Some n) = refl

-- one more of the names to which references lead
pub texts-more : (ns : List (Bor (List ℕ))) (i : ℕ) (d : Bor (List ℕ)) → i < length ns → texts (take (i + 1) ns) ≡ texts (take i ns) ++ (get_or ns i d).now ∷ []
texts-more ns i d lt = map_more (λ (b : Bor (List ℕ)). b.now) ns i d lt

pub texts-length : (ns : List (Bor (List ℕ))) (i : ℕ) → i < length ns → length (texts (take i ns)) ≡ i
texts-length ns i lt = as-many (take i ns) ∙ length-take-le i ns (omega arith)
  where
    as-many : (bs : List (Bor (List ℕ))) → length (texts bs) ≡ length bs
    as-many [] = refl
    as-many (b ∷ bs) = ap suc (as-many bs)

module _ (ns : List (Bor (List ℕ))) (i : ℕ) (d n : Bor (List ℕ)) (lt : i < length ns) (is : n ≡ get_or ns i d) (old : List Entry) (are : ArePlaces old (texts (take i ns))) where
  more : texts (take i ns) ++ n.now ∷ [] ≡ texts (take (i + 1) ns)
  more = ap (λ (b : Bor (List ℕ)). texts (take i ns) ++ b.now ∷ []) is ∙ sym (texts-more ns i d lt)

  pub places-step : (new : List Entry) → is_some (number_of old n.now) ≡ false → ((x : Name) → number_of new x ≡ cond (same_name x n.now) (Some i) (number_of old x)) → ArePlaces new (texts (take (i + 1) ns))
  places-step new none set =
      subst (ArePlaces new) more (places-new (texts (take i ns)) n.now old new are none (λ x. set x ∙ ap (λ k. cond (same_name x n.now) (Some k) (number_of old x)) (sym (texts-length ns i lt))))

  pub places-stay : is_some (number_of old n.now) ≡ true → ArePlaces old (texts (take (i + 1) ns))
  places-stay some = subst (ArePlaces old) more (places-same (texts (take i ns)) n.now old are some)
