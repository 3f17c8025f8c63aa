-- Names among those that are stored.
use Rattle.std.proofs.Common.{◌≡◌, ℕ, ◌+◌, ◌≤◌, ◌<◌, Bool, true, false, cond, List, [], ◌∷◌, ◌++◌, length, refl, sym, ap, ◌∙◌, Option, Some, None, arith}
use Rattle.std.specs.Option.{option_map}
use Rattle.std.proofs.lemmas.List.{map-append, append_assoc}
use Rattle.erl_tree.specs.declared.token.Place.{Place}
use Rattle.erl_scope_rules.specs.declared.role.Role.{Role}
use Rattle.erl_scope_rules.specs.declared.role.Role.TheVariants.{Used, Met, Renewed}
use Rattle.type_terms.specs.Keys.{Name, same_name}
use Rattle.erl_scope_rules.specs.Bindings.{bound_by_role, innermost}
use Rattle.erl_scope_rules.specs.Occurrences.{Mark, unseen, names_of, is_named_among}
use Rattle.erl_scope_stack.specs.Between.{between}
use Rattle.erl_scope_stack.specs.Stored.{place_by_role}
use Rattle.erl_scope_stack.proofs.PartLaws.{between-more}

abbrev pub place_of : Mark → Place
place_of m = m.place

pub place_by_role-is : (r : Role) (m : Mark) (o : Option Mark) → option_map place_of (bound_by_role r m o) ≡ place_by_role r m.place (option_map place_of o)
place_by_role-is Used m o = refl
place_by_role-is Met m None = refl
place_by_role-is Met m (Some b) = refl
place_by_role-is Renewed m o = refl

pub place-innermost : (x : Name) (m : Mark) (ms : List Mark) → option_map place_of (innermost x (m ∷ ms)) ≡ cond (same_name m.name x) (place_by_role m.role m.place (option_map place_of (innermost x ms))) (option_map place_of (innermost x ms))
place-innermost x m ms = by (same_name m.name x)
  where
    by : (b : Bool) → option_map place_of (cond b (bound_by_role m.role m (innermost x ms)) (innermost x ms)) ≡ cond b (place_by_role m.role m.place (option_map place_of (innermost x ms))) (option_map place_of (innermost x ms))
    by true = place_by_role-is m.role m (innermost x ms)
    by false = refl

pub unseen-append : (ms : List Mark) (xs ys : List Name) → unseen ms (xs ++ ys) ≡ unseen ms xs ++ unseen ms ys
unseen-append ms [] ys = refl
unseen-append ms (x ∷ xs) ys = by (is_named_among x ms) (unseen-append ms xs ys)
  where
    by : (b : Bool) → unseen ms (xs ++ ys) ≡ unseen ms xs ++ unseen ms ys → cond b (unseen ms (xs ++ ys)) (x ∷ unseen ms (xs ++ ys)) ≡ cond b (unseen ms xs) (x ∷ unseen ms xs) ++ unseen ms ys
    by true e = e
    by false e = ap (λ zs. x ∷ zs) e

-- the walk over a part, one further
pub names-more : (low mid : ℕ) (xs : List Mark) (e : List Name) → low ≤ mid → mid < length xs → names_of (between mid (mid + 1) xs) ++ (names_of (between low mid xs) ++ e) ≡ names_of (between low (mid + 1) xs) ++ e
names-more low mid xs e h j =
    sym (append_assoc (names_of (between mid (mid + 1) xs)) (names_of (between low mid xs)) e)
    ∙ ap (λ ns. ns ++ e) (sym (map-append (λ (m : Mark). m.name) (between mid (mid + 1) xs) (between low mid xs)) ∙ ap names_of (sym (between-more low mid (mid + 1) xs h (omega arith) (omega arith))))

pub part-more : (low mid : ℕ) (xs e : List Name) → low ≤ mid → mid < length xs → between mid (mid + 1) xs ++ (between low mid xs ++ e) ≡ between low (mid + 1) xs ++ e
part-more low mid xs e h j =
    sym (append_assoc (between mid (mid + 1) xs) (between low mid xs) e) ∙ ap (λ ns. ns ++ e) (sym (between-more low mid (mid + 1) xs h (omega arith) (omega arith)))

pub unseen-more : (ms : List Mark) (low mid : ℕ) (xs e : List Name) → low ≤ mid → mid < length xs → unseen ms (between mid (mid + 1) xs) ++ (unseen ms (between low mid xs) ++ e) ≡ unseen ms (between low (mid + 1) xs) ++ e
unseen-more ms low mid xs e h j =
    sym (append_assoc (unseen ms (between mid (mid + 1) xs)) (unseen ms (between low mid xs)) e)
    ∙ ap (λ ns. ns ++ e) (sym (unseen-append ms (between mid (mid + 1) xs) (between low mid xs)) ∙ ap (unseen ms) (sym (between-more low mid (mid + 1) xs h (omega arith) (omega arith))))

-- one name, which is seen or not
pub unseen-hidden : (ms : List Mark) (n : Name) (xs : List Name) → xs ≡ n ∷ [] → is_named_among n ms ≡ true → unseen ms xs ≡ []
unseen-hidden ms n xs e h = ap (unseen ms) e ∙ ap (λ b. cond b [] (n ∷ [])) h

pub unseen-kept : (ms : List Mark) (n : Name) (xs : List Name) → xs ≡ n ∷ [] → is_named_among n ms ≡ false → unseen ms xs ≡ xs
unseen-kept ms n xs e h = ap (unseen ms) e ∙ ap (λ b. cond b [] (n ∷ [])) h ∙ sym e
