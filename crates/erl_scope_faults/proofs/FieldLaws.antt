-- The loops over the fields of records.
use Rattle.std.proofs.Common.{◌≡◌, ℕ, ◌+◌, ◌<◌, ◌≤◌, Bool, true, false, not, ◌||◌, List, [], ◌∷◌, ◌++◌, length, drop, get_or, map, refl, sym, ap, ap₂, ◌∙◌, subst, Option, Some, None, Bor}
use Rattle.std.specs.Prelude.{if◌then◌else◌}
use Rattle.std.specs.List.{list_any}
use Rattle.std.specs.Str.{bytes_eq}
use Rattle.std.proofs.lemmas.List.{drop_all}
use Rattle.indexmap.specs.IndexSet.{insert_key}
use Rattle.type_terms.specs.Keys.{Name, same_name}
use Rattle.type_terms.proofs.KeyLaws.{name-is}
use Rattle.erl_tree.specs.declared.token.Node.{Node}
use Rattle.erl_tree.specs.declared.form.RecDefKind.{RecDefKind}
use Rattle.erl_tree.specs.declared.form.RecFieldKind.{RecFieldKind}
use Rattle.erl_runs.specs.Records.{has_field}
use Rattle.erl_scope_rules.specs.declared.fault.PlacedFault.{PlacedFault}
use Rattle.erl_scope_rules.specs.declared.fault.NameFault.TheVariants.{NoSuchField, Repeated}
use Rattle.erl_scope_rules.specs.ScopeFaults.{unless, stands_among, field_faults, fields_faults}
use Rattle.erl_scope_rules.specs.Earliest.{earliest}
use Rattle.erl_scope_rules.proofs.EarliestLaws.{earliest-append}
use Rattle.erl_scope_faults.proofs.NamesCompared.{bytes-same}
use Rattle.erl_scope_faults.proofs.Rows.{rest_at}

-- ---- whether a record has a field

abbrev kinds : List (Node RecFieldKind) → List RecFieldKind
kinds fs = map (λ f. f.kind) fs

module _ (fs : List (Node RecFieldKind)) (i : ℕ) (f : Node RecFieldKind) (lt : i < length fs) (is : f ≡ get_or fs i f) (k : RecFieldKind) (kind : k ≡ f.kind) (a m n : Name) (name : a ≡ k.name) (same : m ≡ n) (b : Bool) (test : b ≡ bytes_eq a m) (whole : Bool) (so_far : has_field (kinds (drop i fs)) n ≡ whole) where
  tested : b ≡ same_name f.kind.name n
  tested = test ∙ (bytes-same a m ∙ ((λ j. same_name (name j) (same j)) ∙ ap (λ x. same_name x n) (ap (λ (x : RecFieldKind). x.name) kind)))

  turned : has_field (f.kind ∷ kinds (drop (i + 1) fs)) n ≡ whole
  turned = ap (λ xs. has_field (kinds xs) n) (sym (rest_at fs i f lt is)) ∙ so_far

  pub field_here : b ≡ true → true ≡ whole
  field_here h = sym (ap (λ t. if t then true else has_field (kinds (drop (i + 1) fs)) n) (sym tested ∙ h)) ∙ turned

  pub field_later : b ≡ false → has_field (kinds (drop (i + 1) fs)) n ≡ whole
  field_later h = sym (ap (λ t. if t then true else has_field (kinds (drop (i + 1) fs)) n) (sym tested ∙ h)) ∙ turned

-- ---- the names that stand before a field

abbrev pub Seen : Type 0
Seen = List (Bor (List ℕ))

abbrev pub seen_names : Seen → List Name
seen_names keys = map (λ k. k.now) keys

abbrev is_key : Bor (List ℕ) → Bor (List ℕ) → Bool
is_key k j = bytes_eq k.now j.now

seen-is : (k : Bor (List ℕ)) (keys : Seen) → list_any (is_key k) keys ≡ stands_among k.now (seen_names keys)
seen-is k [] = refl
seen-is k (j ∷ keys) = ap₂ ◌||◌ (bytes-same k.now j.now) (seen-is k keys)

-- an insertion gives the names that one more in front gives
seen-more : (keys : Seen) (k : Bor (List ℕ)) (x : Name) → stands_among x (k.now ∷ seen_names keys) ≡ stands_among x (seen_names (insert_key is_key keys k))
seen-more keys k x = by (list_any (is_key k) keys) refl (same_name x k.now) refl
  where
    there : stands_among k.now (seen_names keys) ≡ true → x ≡ k.now → true ≡ stands_among x (seen_names keys)
    there h e = sym (subst (λ (y : Name). stands_among y (seen_names keys) ≡ true) (sym e) h)

    pushed : (js : Seen) → stands_among x (seen_names (js ++ k ∷ [])) ≡ (same_name x k.now || stands_among x (seen_names js))
    pushed [] = refl
    pushed (j ∷ js) = ap (λ b. same_name x j.now || b) (pushed js) ∙ swap (same_name x j.now) (same_name x k.now) (stands_among x (seen_names js))
      where
        swap : (a b c : Bool) → (a || (b || c)) ≡ (b || (a || c))
        swap true true c = refl
        swap true false c = refl
        swap false b c = refl

    by : (b : Bool) → list_any (is_key k) keys ≡ b → (s : Bool) → same_name x k.now ≡ s → (same_name x k.now || stands_among x (seen_names keys)) ≡ stands_among x (seen_names (if b then keys else keys ++ k ∷ []))
    by true p true q = ap (λ s. s || stands_among x (seen_names keys)) q ∙ there (sym (seen-is k keys) ∙ p) (name-is x k.now q)
    by true p false q = ap (λ s. s || stands_among x (seen_names keys)) q
    by false p s q = sym (pushed keys)

module _ {A : Type 0} where
  -- only which names stand before counts
  fields-alike : (declared : Option RecDefKind) (before other : List Name) → ((x : Name) → stands_among x before ≡ stands_among x other) → (fs : List (Node (Name × A))) → fields_faults declared before fs ≡ fields_faults declared other fs
  fields-alike declared before other h [] = refl
  fields-alike declared before other h (f ∷ fs) = ap₂ ◌++◌ (one declared) (fields-alike declared (f.kind.0 ∷ before) (f.kind.0 ∷ other) (λ x. ap (λ b. same_name x f.kind.0 || b) (h x)) fs)
    where
      one : (d : Option RecDefKind) → field_faults d f.kind.0 before f.place ≡ field_faults d f.kind.0 other f.place
      one None = ap (λ b. unless (not b) Repeated f.place) (h f.kind.0)
      one (Some r) = ap (λ b. unless (has_field (map (λ g. g.kind) r.fields) f.kind.0) NoSuchField f.place ++ unless (not b) Repeated f.place) (h f.kind.0)

  module _ (declared : Option RecDefKind) (xs : List (Node (Name × A))) (whole : Option PlacedFault) where
    pub fields_next : (keys new : Seen) (i : ℕ) (x : Node (Name × A)) (k : Name × A) (n : Bor (List ℕ)) (b : Bool) (first next : Option PlacedFault) → i < length xs → x ≡ get_or xs i x → k ≡ x.kind → n.now ≡ k.0
        → b ≡ not (list_any (is_key n) keys) → new ≡ insert_key is_key keys n
        → ((before : List Name) → b ≡ not (stands_among k.0 before) → next ≡ earliest first (field_faults declared k.0 before x.place))
        → earliest first (fields_faults declared (seen_names keys) (drop i xs)) ≡ whole → earliest next (fields_faults declared (seen_names new) (drop (i + 1) xs)) ≡ whole
    fields_next keys new i x k n b first next lt is kind name fresh more noted so_far =
        (λ j. earliest (step j) (rest j))
        ∙ (sym (earliest-append first (field_faults declared x.kind.0 (seen_names keys) x.place) (fields_faults declared (x.kind.0 ∷ seen_names keys) (drop (i + 1) xs)))
        ∙ (ap (λ ys. earliest first (fields_faults declared (seen_names keys) ys)) (sym (rest_at xs i x lt is)) ∙ so_far))
      where
        of_kind : k.0 ≡ x.kind.0
        of_kind = ap (λ (y : Name × A). y.0) kind

        step : next ≡ earliest first (field_faults declared x.kind.0 (seen_names keys) x.place)
        step =
            noted (seen_names keys) (fresh ∙ ap not (seen-is n keys ∙ ap (λ (y : Name). stands_among y (seen_names keys)) name))
            ∙ ap (λ (y : Name). earliest first (field_faults declared y (seen_names keys) x.place)) of_kind

        rest : fields_faults declared (seen_names new) (drop (i + 1) xs) ≡ fields_faults declared (x.kind.0 ∷ seen_names keys) (drop (i + 1) xs)
        rest =
            ap (λ ks. fields_faults declared (seen_names ks) (drop (i + 1) xs)) more
            ∙ (sym (fields-alike declared (n.now ∷ seen_names keys) (seen_names (insert_key is_key keys n)) (seen-more keys n) (drop (i + 1) xs))
            ∙ ap (λ (y : Name). fields_faults declared (y ∷ seen_names keys) (drop (i + 1) xs)) (name ∙ of_kind))

    pub fields_last : (keys : Seen) (i : ℕ) (first : Option PlacedFault) → length xs ≤ i → earliest first (fields_faults declared (seen_names keys) (drop i xs)) ≡ whole → first ≡ whole
    fields_last keys i first end so_far = ap (λ ys. earliest first (fields_faults declared (seen_names keys) ys)) (sym (drop_all i xs end)) ∙ so_far
