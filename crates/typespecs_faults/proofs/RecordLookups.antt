-- What the map's look-ups say of the records in a table.
use Rattle.std.proofs.Common.{◌≡◌, ℕ, Bool, true, false, cond, List, [], ◌∷◌, ◌++◌, map, refl, sym, ap, ◌∙◌, subst, Option, Some, None, is_some, true≢false, Bor}
use Rattle.std.specs.Option.{option_copied, option_map}
use Rattle.std.specs.Map.{lookup}
use Rattle.std.specs.Str.{bytes_eq}
use Rattle.type_terms.specs.Keys.{Name, same_name}
use Rattle.type_terms.proofs.KeyLaws.{name-is}
use Rattle.erl_tree.specs.declared.form.RecDefKind.{RecDefKind}
use Rattle.erl_runs.specs.Records.{fields_of, has_field}
use Rattle.typespecs_faults.specs.declared.name_set.NameSet.{NameSet}
use Rattle.typespecs_faults.specs.NameSets.{has_name}
use Rattle.typespecs_faults.specs.Fields.{HasFieldsOf}
use Rattle.typespecs_faults.specs.Tables.{Record, find_fields, HasSameRecords}
use Rattle.typespecs_faults.proofs.NamesCompared.{bytes-same, same-sym}

-- the entries of the map: a name, and the set of the fields' names
abbrev pub Entries : Type 0
Entries = List (Bor (List ℕ) × NameSet)

abbrev pub in_entries : Entries → List Record
in_entries es = map (λ e. (e.0.now, has_name e.1)) es

-- the test by which a name is looked up
abbrev pub is_under : Name → Bor (List ℕ) → Bool
is_under n k = bytes_eq n k.now

found : (n : Name) (es : Entries) → option_map has_name (lookup (is_under n) es) ≡ find_fields (in_entries es) n
found n [] = refl
found n (e ∷ es) = by (is_under n e.0) (same_name e.0.now n) (bytes-same n e.0.now ∙ same-sym n e.0.now) (found n es)
  where
    by : (a b : Bool) → a ≡ b → option_map has_name (lookup (is_under n) es) ≡ find_fields (in_entries es) n → option_map has_name (cond a (Some e.1) (lookup (is_under n) es)) ≡ cond b (Some (has_name e.1)) (find_fields (in_entries es) n)
    by true true p rest = refl
    by false false p rest = rest
    by true false p rest = absurd (true≢false p)
    by false true p rest = absurd (true≢false (sym p))

pub found-by : (n m : Name) (es : Entries) (o : Option NameSet) → n ≡ m → o ≡ lookup (is_under n) es → option_map has_name o ≡ find_fields (in_entries es) m
found-by n m es o same is = ap (option_map has_name) is ∙ (found n es ∙ ap (find_fields (in_entries es)) same)

some-mapped : {A B : Type 0} (f : A → B) (o : Option A) → is_some (option_map f o) ≡ is_some o
some-mapped f None = refl
some-mapped f (Some a) = refl

-- a set is found where the record is declared
pub some-alike : (set : Option (Bor NameSet)) (d : Option RecDefKind) → HasFieldsOf (option_copied set) d → is_some set ≡ is_some d
some-alike set d h = sym (some-mapped has_name (option_copied set) ∙ copied set) ∙ (ap is_some h ∙ some-mapped (λ (r : RecDefKind). has_field (fields_of r)) d)
  where
    copied : (o : Option (Bor NameSet)) → is_some (option_copied o) ≡ is_some o
    copied None = refl
    copied (Some b) = refl

-- ---- one more record behind others

-- the first of two that is there
abbrev first_of : {A : Type 0} → Option A → Option A → Option A
first_of (Some a) other = Some a
first_of None other = other

first-none : {A : Type 0} (o : Option A) → first_of o None ≡ o
first-none None = refl
first-none (Some a) = refl

first-some : {A : Type 0} (o other : Option A) → is_some o ≡ true → first_of o other ≡ o
first-some None other h = absurd (true≢false (sym h))
first-some (Some a) other h = refl

find-append : (rs qs : List Record) (n : Name) → find_fields (rs ++ qs) n ≡ first_of (find_fields rs n) (find_fields qs n)
find-append [] qs n = refl
find-append (r ∷ rs) qs n = by (same_name r.0 n) (find-append rs qs n)
  where
    by : (b : Bool) → find_fields (rs ++ qs) n ≡ first_of (find_fields rs n) (find_fields qs n) → cond b (Some r.1) (find_fields (rs ++ qs) n) ≡ first_of (cond b (Some r.1) (find_fields rs n)) (find_fields qs n)
    by true e = refl
    by false e = e

-- only which records are found in front counts
pub front-alike : (rs qs more : List Record) → HasSameRecords rs qs → HasSameRecords (rs ++ more) (qs ++ more)
front-alike rs qs more h n = find-append rs more n ∙ (ap (λ o. first_of o (find_fields more n)) (h n) ∙ sym (find-append qs more n))

-- a record that is there already changes nothing
pub there-already : (n m : Name) (es : Entries) (fields : Name → Bool) (b : Bool) → n ≡ m → b ≡ is_some (lookup (is_under n) es) → b ≡ true → HasSameRecords (in_entries es) (in_entries es ++ (m, fields) ∷ [])
there-already n m es fields b same is holds x = sym (find-append (in_entries es) ((m, fields) ∷ []) x ∙ by (same_name m x) refl)
  where
    there : is_some (find_fields (in_entries es) m) ≡ true
    there = ap is_some (sym (found-by n m es (lookup (is_under n) es) same refl)) ∙ (some-mapped has_name (lookup (is_under n) es) ∙ (sym is ∙ holds))

    by : (s : Bool) → same_name m x ≡ s → first_of (find_fields (in_entries es) x) (cond s (Some fields) None) ≡ find_fields (in_entries es) x
    by true e = first-some (find_fields (in_entries es) x) (Some fields) (subst (λ (y : Name). is_some (find_fields (in_entries es) y) ≡ true) (name-is m x e) there)
    by false e = first-none (find_fields (in_entries es) x)

in-push : (k : Bor (List ℕ)) (s : NameSet) (es : Entries) → in_entries (es ++ (k, s) ∷ []) ≡ in_entries es ++ (k.now, has_name s) ∷ []
in-push k s [] = refl
in-push k s (e ∷ es) = ap (λ rs. (e.0.now, has_name e.1) ∷ rs) (in-push k s es)

pub one-more : (k : Bor (List ℕ)) (m : Name) (s : NameSet) (es new : Entries) → k.now ≡ m → new ≡ es ++ (k, s) ∷ [] → HasSameRecords (in_entries new) (in_entries es ++ (m, has_name s) ∷ [])
one-more k m s es new same is n = ap (λ rs. find_fields rs n) (ap in_entries is ∙ (in-push k s es ∙ ap (λ (x : Name). in_entries es ++ (x, has_name s) ∷ []) same))

pub is-none : {A : Type 0} (o : Option A) (b : Bool) → b ≡ is_some o → b ≡ false → o ≡ None
is-none None b e h = refl
is-none (Some a) b e h = absurd (true≢false (sym e ∙ h))
