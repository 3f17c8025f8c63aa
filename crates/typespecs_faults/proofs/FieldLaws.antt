-- Names that stand before others, and the loops over fields.
use Rattle.std.proofs.Common.{◌≡◌, ℕ, ◌+◌, ◌<◌, ◌≤◌, Bool, true, false, not, ◌||◌, List, [], ◌∷◌, ◌++◌, length, drop, get_or, refl, sym, ap, ap₂, ◌∙◌, subst, Option, Some, None, Bor, append_assoc}
use Rattle.std.specs.Prelude.{if◌then◌else◌}
use Rattle.std.specs.List.{list_any}
use Rattle.std.specs.Option.{option_map}
use Rattle.std.specs.Str.{bytes_eq}
use Rattle.std.proofs.lemmas.List.{drop_all}
use Rattle.indexmap.specs.IndexSet.{insert_key}
use Rattle.type_terms.specs.Keys.{Name, same_name}
use Rattle.type_terms.proofs.KeyLaws.{name-is}
use Rattle.erl_tree.specs.declared.token.Node.{Node}
use Rattle.erl_tree.specs.declared.type_expr.TypeKind.{TypeKind}
use Rattle.erl_tree.specs.declared.form.RecDefKind.{RecDefKind}
use Rattle.erl_runs.specs.Records.{fields_of, has_field}
use Rattle.typespecs_rules.specs.declared.fault.PlacedFault.{PlacedFault}
use Rattle.typespecs_rules.specs.declared.fault.TypeFault.TheVariants.{NoSuchType, Repeated}
use Rattle.typespecs_rules.specs.TypeFaults.{unless, stands_among, may_have, fields_faults}
use Rattle.typespecs_rules.specs.Earliest.{earliest}
use Rattle.typespecs_faults.specs.declared.name_set.NameSet.{NameSet}
use Rattle.typespecs_faults.specs.NameSets.{names_in, has_name}
use Rattle.typespecs_faults.specs.Fields.{field_faults, HasFieldsOf}
use Rattle.typespecs_faults.proofs.EarliestLaws.{earliest-append}
use Rattle.typespecs_faults.proofs.NamesCompared.{bytes-same}
use Rattle.typespecs_faults.proofs.Rows.{rest_at}

-- ---- whether a record has a field

-- whether a name may be one of these fields, if they are known
abbrev pub may_be : Option (Name → Bool) → Name → Bool
may_be None x = true
may_be (Some fields) x = fields x

pub may-have : (set : Option NameSet) (d : Option RecDefKind) (x : Name) → HasFieldsOf set d → may_be (option_map has_name set) x ≡ may_have d x
may-have set d x h = ap (λ o. may_be o x) h ∙ by d
  where
    by : (o : Option RecDefKind) → may_be (option_map (λ (r : RecDefKind). has_field (fields_of r)) o) x ≡ may_have o x
    by None = refl
    by (Some r) = refl

-- ---- the names that stand before a field

abbrev pub Seen : Type 0
Seen = List (Bor (List ℕ))

abbrev pub is_key : Bor (List ℕ) → Bor (List ℕ) → Bool
is_key k j = bytes_eq k.now j.now

pub seen-is : (k : Bor (List ℕ)) (keys : Seen) → list_any (is_key k) keys ≡ stands_among k.now (names_in keys)
seen-is k [] = refl
seen-is k (j ∷ keys) = ap₂ ◌||◌ (bytes-same k.now j.now) (seen-is k keys)

-- an insertion gives the names that one more in front gives
pub seen-more : (keys : Seen) (k : Bor (List ℕ)) (x : Name) → stands_among x (k.now ∷ names_in keys) ≡ stands_among x (names_in (insert_key is_key keys k))
seen-more keys k x = by (list_any (is_key k) keys) refl (same_name x k.now) refl
  where
    there : stands_among k.now (names_in keys) ≡ true → x ≡ k.now → true ≡ stands_among x (names_in keys)
    there h e = sym (subst (λ (y : Name). stands_among y (names_in keys) ≡ true) (sym e) h)

    pushed : (js : Seen) → stands_among x (names_in (js ++ k ∷ [])) ≡ (same_name x k.now || stands_among x (names_in js))
    pushed [] = refl
    pushed (j ∷ js) = ap (λ b. same_name x j.now || b) (pushed js) ∙ swap (same_name x j.now) (same_name x k.now) (stands_among x (names_in js))
      where
        swap : (a b c : Bool) → (a || (b || c)) ≡ (b || (a || c))
        swap true true c = refl
        swap true false c = refl
        swap false b c = refl

    by : (b : Bool) → list_any (is_key k) keys ≡ b → (s : Bool) → same_name x k.now ≡ s → (same_name x k.now || stands_among x (names_in keys)) ≡ stands_among x (names_in (if b then keys else keys ++ k ∷ []))
    by true p true q = ap (λ s. s || stands_among x (names_in keys)) q ∙ there (sym (seen-is k keys) ∙ p) (name-is x k.now q)
    by true p false q = ap (λ s. s || stands_among x (names_in keys)) q
    by false p s q = sym (pushed keys)

-- ---- the fields of record types

fields-cons : (declared : Option RecDefKind) (before : List Name) (f : Node (Name × Node TypeKind)) (fs : List (Node (Name × Node TypeKind))) → fields_faults declared before (f ∷ fs) ≡ field_faults declared f.kind.0 before f.place ++ fields_faults declared (f.kind.0 ∷ before) fs
fields-cons declared before f fs = sym (append_assoc (unless (may_have declared f.kind.0) NoSuchType f.place) (unless (not (stands_among f.kind.0 before)) Repeated f.place) (fields_faults declared (f.kind.0 ∷ before) fs))

-- only which names stand before counts
fields-alike : (declared : Option RecDefKind) (before other : List Name) → ((x : Name) → stands_among x before ≡ stands_among x other) → (fs : List (Node (Name × Node TypeKind))) → fields_faults declared before fs ≡ fields_faults declared other fs
fields-alike declared before other h [] = refl
fields-alike declared before other h (f ∷ fs) =
    ap (λ fs. unless (may_have declared f.kind.0) NoSuchType f.place ++ fs)
    (ap₂ ◌++◌ (ap (λ b. unless (not b) Repeated f.place) (h f.kind.0)) (fields-alike declared (f.kind.0 ∷ before) (f.kind.0 ∷ other) (λ x. ap (λ b. same_name x f.kind.0 || b) (h x)) fs))

module _ (declared : Option RecDefKind) (xs : List (Node (Name × Node TypeKind))) (whole : Option PlacedFault) where
  pub fields_next : (keys new : Seen) (i : ℕ) (x : Node (Name × Node TypeKind)) (k : Name × Node TypeKind) (n : Bor (List ℕ)) (b : Bool) (first next : Option PlacedFault) → i < length xs → x ≡ get_or xs i x → k ≡ x.kind → n.now ≡ k.0
      → b ≡ not (list_any (is_key n) keys) → new ≡ insert_key is_key keys n
      → ((before : List Name) → b ≡ not (stands_among k.0 before) → next ≡ earliest first (field_faults declared k.0 before x.place))
      → earliest first (fields_faults declared (names_in keys) (drop i xs)) ≡ whole → earliest next (fields_faults declared (names_in new) (drop (i + 1) xs)) ≡ whole
  fields_next keys new i x k n b first next lt is kind name fresh more noted so_far =
      (λ j. earliest (step j) (rest j))
      ∙ (sym (earliest-append first (field_faults declared x.kind.0 (names_in keys) x.place) (fields_faults declared (x.kind.0 ∷ names_in keys) (drop (i + 1) xs)))
      ∙ (ap (earliest first) (sym (fields-cons declared (names_in keys) x (drop (i + 1) xs)))
      ∙ (ap (λ ys. earliest first (fields_faults declared (names_in keys) ys)) (sym (rest_at xs i x lt is)) ∙ so_far)))
    where
      of_kind : k.0 ≡ x.kind.0
      of_kind = ap (λ (y : Name × Node TypeKind). y.0) kind

      step : next ≡ earliest first (field_faults declared x.kind.0 (names_in keys) x.place)
      step =
          noted (names_in keys) (fresh ∙ ap not (seen-is n keys ∙ ap (λ (y : Name). stands_among y (names_in keys)) name))
          ∙ ap (λ (y : Name). earliest first (field_faults declared y (names_in keys) x.place)) of_kind

      rest : fields_faults declared (names_in new) (drop (i + 1) xs) ≡ fields_faults declared (x.kind.0 ∷ names_in keys) (drop (i + 1) xs)
      rest =
          ap (λ ks. fields_faults declared (names_in ks) (drop (i + 1) xs)) more
          ∙ (sym (fields-alike declared (n.now ∷ names_in keys) (names_in (insert_key is_key keys n)) (seen-more keys n) (drop (i + 1) xs))
          ∙ ap (λ (y : Name). fields_faults declared (y ∷ names_in keys) (drop (i + 1) xs)) (name ∙ of_kind))

  pub fields_last : (keys : Seen) (i : ℕ) (first : Option PlacedFault) → length xs ≤ i → earliest first (fields_faults declared (names_in keys) (drop i xs)) ≡ whole → first ≡ whole
  fields_last keys i first end so_far = ap (λ ys. earliest first (fields_faults declared (names_in keys) ys)) (sym (drop_all i xs end)) ∙ so_far
