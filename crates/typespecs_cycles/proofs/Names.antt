-- Names compared, and sets of names.
use Rattle.std.proofs.Common.{◌≡◌, refl, ap, ap₂, sym, ◌∙◌, List, [], ◌∷◌, ◌++◌, ◌&&◌, ◌||◌, not, map, nat_eq, ℕ, Bool, true, false, true≢false, arith, Bor}
use Rattle.std.specs.Prelude.{if◌then◌else◌}
use Rattle.std.specs.List.{list_any}
use Rattle.std.specs.Str.{bytes_eq}
use Rattle.std.proofs.lemmas.Bool.{false≢true}
use Rattle.std.proofs.lemmas.Bool.Decides.{nat_tests}
use Rattle.indexmap.specs.IndexSet.{insert_key}
use Rattle.type_terms.specs.Keys.{Name, same_name}
use Rattle.typespecs_rules.specs.TypeFaults.{stands_among}

pub eq-sym : (m n : ℕ) → nat_eq m n ≡ nat_eq n m
eq-sym m n = grind (arith, nat_tests)

pub bytes-same : (m n : Name) → bytes_eq m n ≡ same_name m n
bytes-same [] [] = refl
bytes-same [] (y ∷ n) = refl
bytes-same (x ∷ m) [] = refl
bytes-same (x ∷ m) (y ∷ n) = ap (λ b. nat_eq x y && b) (bytes-same m n)

pub same-sym : (m n : Name) → same_name m n ≡ same_name n m
same-sym [] [] = refl
same-sym [] (y ∷ n) = refl
same-sym (x ∷ m) [] = refl
same-sym (x ∷ m) (y ∷ n) = ap₂ ◌&&◌ (eq-sym x y) (same-sym m n)

-- ---- sets of names

abbrev pub Seen : Type 0
Seen = List (Bor (List ℕ))

abbrev pub seen_names : Seen → List Name
seen_names keys = map (λ k. k.now) keys

abbrev pub is_key : Bor (List ℕ) → Bor (List ℕ) → Bool
is_key k j = bytes_eq k.now j.now

seen-is : (k : Bor (List ℕ)) (keys : Seen) → list_any (is_key k) keys ≡ stands_among k.now (seen_names keys)
seen-is k [] = refl
seen-is k (j ∷ keys) = ap₂ ◌||◌ (bytes-same k.now j.now) (seen-is k keys)

seen-push : (keys : Seen) (k : Bor (List ℕ)) → seen_names (keys ++ k ∷ []) ≡ seen_names keys ++ k.now ∷ []
seen-push [] k = refl
seen-push (j ∷ keys) k = ap (λ ns. j.now ∷ ns) (seen-push keys k)

turned : (a b : Bool) → b ≡ not a → b ≡ true → a ≡ false
turned true b e h = absurd (true≢false (sym h ∙ e))
turned false b e h = refl

turned-back : (a b : Bool) → b ≡ not a → b ≡ false → a ≡ true
turned-back true b e h = refl
turned-back false b e h = absurd (false≢true (sym h ∙ e))

module _ (keys new : Seen) (k : Bor (List ℕ)) (b : Bool) (added : b ≡ not (list_any (is_key k) keys)) (names : List Name) (so_far : seen_names keys ≡ names) where
  any-is : list_any (is_key k) keys ≡ stands_among k.now names
  any-is = seen-is k keys ∙ ap (stands_among k.now) so_far

  pub new-name : b ≡ true → stands_among k.now names ≡ false
  new-name h = sym any-is ∙ turned (list_any (is_key k) keys) b added h

  pub old-name : b ≡ false → stands_among k.now names ≡ true
  old-name h = sym any-is ∙ turned-back (list_any (is_key k) keys) b added h

  pub names-more : new ≡ insert_key is_key keys k → b ≡ true → seen_names new ≡ names ++ k.now ∷ []
  names-more is h =
      ap seen_names (is ∙ ap (λ c. if c then keys else keys ++ k ∷ []) (turned (list_any (is_key k) keys) b added h))
      ∙ (seen-push keys k ∙ ap (λ ns. ns ++ k.now ∷ []) so_far)
