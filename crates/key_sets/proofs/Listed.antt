-- Names in a list.
use Rattle.std.proofs.Common.{◌≡◌, refl, sym, ◌∙◌, ap, ap₂, subst, ℕ, ◌+◌, ◌<◌, List, [], ◌∷◌, ◌++◌, Bool, true, false, cond, ◌&&◌, ◌||◌, nat_eq, length, arith, ◌≤◌, get_or, take, take_all, length-append}
use Rattle.std.specs.List.{list_any, All}
use Rattle.std.specs.Str.{bytes_eq}
use Rattle.std.specs.declared.vec.Vec.{Vec}
use Rattle.std.specs.declared.alloc.Global.{Global}
use Rattle.std.proofs.lemmas.Bool.{false≢true}
use Rattle.std.proofs.lemmas.List.Elements.{All-head, All-tail, All-more}
use Rattle.std.proofs.lemmas.List.Folds.{list_any-append, list_any_at}
use Rattle.indexmap.specs.IndexSet.{insert_key}
use Rattle.type_terms.specs.Keys.{Name, same_name}
use Rattle.type_terms.proofs.KeyLaws.{name-is, name-refl}
use Rattle.type_terms.specs.declared.term.Key.{Key}
use Rattle.type_terms.specs.declared.term.Key.TheVariants.{Int as IntKey, Atom as AtomKey}
use Rattle.key_sets.specs.declared.range.Range.{Range}
use Rattle.key_sets.specs.declared.part.Part.{Part}
use Rattle.key_sets.specs.declared.part.Part.TheVariants.{Atom}
use Rattle.key_sets.specs.Parts.{part_has}
use Rattle.key_sets.specs.Contents.{listed, is_among}

abbrev pub Names : Type 0
Names = List (Vec ℕ Global)

-- the test by which a name is looked up
abbrev pub is_name : Vec ℕ Global → Vec ℕ Global → Bool
is_name k v = bytes_eq k.items v.items

same-bytes : (a b : Name) → bytes_eq a b ≡ same_name a b
same-bytes [] [] = refl
same-bytes [] (n ∷ ns) = refl
same-bytes (m ∷ ms) [] = refl
same-bytes (m ∷ ms) (n ∷ ns) = ap (λ b. nat_eq m n && b) (same-bytes ms ns)

-- a look-up by bytes says whether a name is listed
pub looked_up : (names : Names) (a : Name) → list_any (λ v. bytes_eq a v.items) names ≡ listed names a
looked_up [] a = refl
looked_up (v ∷ vs) a = ap₂ ◌||◌ (same-bytes a v.items) (looked_up vs a)

or-false : (b : Bool) → (b || false) ≡ b
or-false true = refl
or-false false = refl

-- after an insertion the new name is listed too
pub listed-insert : (names : Names) (k : Vec ℕ Global) (a : Name) → listed (insert_key is_name names k) a ≡ (listed names a || same_name a k.items)
listed-insert names k a = by (list_any (is_name k) names) refl (same_name a k.items) refl
  where
    there : list_any (is_name k) names ≡ true → a ≡ k.items → (listed names a || true) ≡ listed names a
    there p e = ap (λ b. b || true) (is p e) ∙ sym (is p e)
      where
        is : list_any (is_name k) names ≡ true → a ≡ k.items → listed names a ≡ true
        is p e = subst (λ (x : Name). listed names x ≡ true) (sym e) (sym (looked_up names k.items) ∙ p)

    by : (b : Bool) → list_any (is_name k) names ≡ b → (s : Bool) → same_name a k.items ≡ s → listed (cond b names (names ++ k ∷ [])) a ≡ (listed names a || same_name a k.items)
    by true p true q = sym (ap (λ s. listed names a || s) q ∙ there p (name-is a k.items q))
    by true p false q = sym (ap (λ s. listed names a || s) q ∙ or-false (listed names a))
    by false p s q = list_any-append (λ v. same_name a v.items) names (k ∷ []) ∙ ap (λ s. listed names a || s) (or-false (same_name a k.items))

-- a longer name isn't a shorter one
longer-not_same : (a b : Name) → length b < length a → same_name a b ≡ false
longer-not_same [] b l = absurd (omega arith)
longer-not_same (m ∷ ms) [] l = refl
longer-not_same (m ∷ ms) (n ∷ ns) l = by (nat_eq m n) (longer-not_same ms ns (omega arith))
  where
    by : (b : Bool) → same_name ms ns ≡ false → (b && same_name ms ns) ≡ false
    by true e = e
    by false e = refl

-- so a name that is longer than each listed one is not listed
pub longest-not_listed : (names : Names) (a : Name) → All (λ v. length v.items < length a) names → listed names a ≡ false
longest-not_listed [] a h = refl
longest-not_listed (v ∷ vs) a h = ap₂ ◌||◌ (longer-not_same a v.items (All-head (λ x. length x.items < length a) v vs h)) (longest-not_listed vs a (All-tail (λ x. length x.items < length a) v vs h))

-- one more name is at most as long as the longest one
pub longest_more : (names : Names) (i : ℕ) (v : Vec ℕ Global) (old new : Name) → i < length names → v ≡ get_or names i v → All (λ x. length x.items ≤ length old) (take i names) → length old ≤ length new → length v.items ≤ length new → All (λ x. length x.items ≤ length new) (take (i + 1) names)
longest_more names i v old new l is h up here =
    All-more (λ x. length x.items ≤ length new) names i v l
    (λ k d m. let p : length (get_or (take i names) k d).items ≤ length old = h k d m in omega arith)
    (subst (λ (x : Vec ℕ Global). length x.items ≤ length new) is here)

-- a longest name with one more letter is not listed
pub longer-not_listed : (names : Names) (n : ℕ) (longest name : Name) (letter : ℕ) → length names ≤ n → All (λ x. length x.items ≤ length longest) (take n names) → name ≡ longest ++ letter ∷ [] → listed names name ≡ false
longer-not_listed names n longest name letter all h is =
    longest-not_listed names name
    (λ k d m. let p : length (get_or names k d).items ≤ length longest = subst (λ (xs : Names). length (get_or xs k d).items ≤ length longest) (take_all n names all) (h k d (rw (take_all n names all) m)) in rw is (simp length-append (omega arith)))

-- one more name is in another list
pub within_more : (left right : Names) (i : ℕ) (v : Vec ℕ Global) → i < length left → v ≡ get_or left i v → All (λ x. listed right x.items ≡ true) (take i left) → listed right v.items ≡ true → All (λ x. listed right x.items ≡ true) (take (i + 1) left)
within_more left right i v l is h here = All-more (λ x. listed right x.items ≡ true) left i v l h (subst (λ (x : Vec ℕ Global). listed right x.items ≡ true) is here)

-- where each listed name is in another list, so is each atom
pub listed-within : (left right : Names) → All (λ v. listed right v.items ≡ true) left → (a : Name) → listed left a ≡ true → listed right a ≡ true
listed-within [] right h a e = absurd (false≢true e)
listed-within (v ∷ vs) right h a e = by (same_name a v.items) refl e (listed-within vs right (All-tail (λ x. listed right x.items ≡ true) v vs h) a)
  where
    by : (b : Bool) → same_name a v.items ≡ b → (b || listed vs a) ≡ true → (listed vs a ≡ true → listed right a ≡ true) → listed right a ≡ true
    by true q e' later = subst (λ (x : Name). listed right x ≡ true) (sym (name-is a v.items q)) (All-head (λ x. listed right x.items ≡ true) v vs h)
    by false q e' later = later e'

-- a name in the list is listed
pub listed-at : (names : Names) (i : ℕ) (v : Vec ℕ Global) → i < length names → v ≡ get_or names i v → listed names v.items ≡ true
listed-at names i v l is = list_any_at (λ x. same_name v.items x.items) names i v l (subst (λ (x : Vec ℕ Global). same_name v.items x.items ≡ true) is (name-refl v.items))

or-assoc : (a b c : Bool) → (a || (b || c)) ≡ ((a || b) || c)
or-assoc true b c = refl
or-assoc false b c = refl

-- a new name adds one atom
pub is_among-insert : (ranges : List Range) (all : Bool) (names new : Names) (k : Vec ℕ Global) (part : Part) (name : Name) → part ≡ Atom name → k.items ≡ name → new ≡ insert_key is_name names k → (key : Key) → is_among ranges all new key ≡ (is_among ranges all names key || part_has part key)
is_among-insert ranges all names new k part name p i q (IntKey n) =
    sym (ap (λ x. is_among ranges all names (IntKey n) || part_has x (IntKey n)) p ∙ or-false _)
is_among-insert ranges all names new k part name p i q (AtomKey b) =
    ap (λ ns. all || listed ns b) q ∙ ap (λ s. all || s) (listed-insert names k b) ∙ or-assoc all (listed names b) (same_name b k.items)
    ∙ ap (λ x. (all || listed names b) || same_name b x) i
    ∙ sym (ap (λ x. (all || listed names b) || part_has x (AtomKey b)) p)
