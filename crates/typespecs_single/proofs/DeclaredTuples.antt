-- The tuples of a module's records, by the records and the definitions of the module's specs.
use Rattle.std.proofs.Common.{◌≡◌, refl, sym, ap, subst, ◌∙◌, ℕ, zero, suc, ◌+◌, ◌<◌, ◌≤◌, List, [], ◌∷◌, ◌++◌, map, length, take, get_or, take_all, arith}
use Rattle.std.specs.Prelude.{Option, Some, None as Nothing, Bool, true, false, ◌||◌, cond, is_some, slice_get, if◌then◌else◌}
use Rattle.std.specs.Borrow.{Bor}
use Rattle.std.specs.Option.{option_map, option_copied}
use Rattle.std.specs.List.{list_any}
use Rattle.std.proofs.lemmas.List.Folds.{list_any-append}
use Rattle.std.proofs.lemmas.List.{take_more}
use Rattle.std.proofs.lemmas.Option.{slice_get_read}
use Rattle.type_terms.specs.Keys.{Name, same_name}
use Rattle.type_terms.specs.declared.term.Term.{Term}
use Rattle.type_terms.proofs.KeyLaws.{name-is, name-refl}
use Rattle.erl_tree.specs.declared.type_expr.TypeKind.{TypeKind}
use Rattle.erl_tree.specs.declared.form.RecDefKind.{RecDefKind}
use Rattle.erl_tree.specs.declared.form.RecFieldKind.{RecFieldKind}
use Rattle.erl_tree.specs.declared.form.Module.{Module}
use Rattle.erl_runs.specs.Records.{find_record, fields_of}
use Rattle.erl_runs.specs.Specs.{and_then, all_present, specs_in}
use Rattle.typespecs_rules.specs.declared.specs.RecordSpec.{RecordSpec}
use Rattle.typespecs_rules.specs.declared.specs.Specs.{Specs}
use Rattle.typespecs_rules.specs.Declarations.{Declarations, declarations_of}
use Rattle.typespecs_rules.specs.TypeTerms.{RecordTuple, named_term, field_term, no_variables, tuple_of, tuple_within, tuple_term, record_tuple, type_kind_term}
use Rattle.typespecs_rules.specs.SpecTerms.{definitions, function_specs, module_specs, records_from, record_specs}
use Rattle.typespecs_lemmas.proofs.FirstFault.{some-inj}
use Rattle.typespecs_lemmas.proofs.GivenReach.{mapped, both, defs-are}
use Rattle.typespecs_lemmas.proofs.TermParts.{present-parts}
use Rattle.typespecs_lemmas.proofs.ByNumber.{record-defined}
use Rattle.typespecs_terms.specs.declared.tables.Fields.{Fields}
use Rattle.typespecs_terms.specs.Tables.{tuple_as}
use Rattle.typespecs_single.specs.TupleParts.{field_names, AreTuplesBy}

-- ---- records

-- whether specs of a record have a name
abbrev pub is_named : Name → RecordSpec → Bool
is_named x q = same_name q.name x

abbrev spec_of : ℕ → RecDefKind → RecordSpec
spec_of n r = record { name = r.name; fields = map (λ (f : RecFieldKind). f.name) (fields_of r); def = n }

-- the records by their places
at-record : (n : ℕ) (rs : List RecDefKind) (i : ℕ) (q : RecordSpec) → slice_get (records_from n rs) i ≡ Some q → (r : RecDefKind) × (slice_get rs i ≡ Some r) × (q ≡ spec_of (n + i) r)
at-record n [] i q e = absurd (cc)
at-record n (r ∷ rs) zero q e = (r, refl, sym (some-inj (spec_of n r) q e) ∙ ap (λ k. spec_of k r) more)
  where
    more : n ≡ n + 0
    more = omega arith
at-record n (r ∷ rs) (suc i) q e =
    let p = at-record (suc n) rs i q e in
    (p.0, p.1, p.2 ∙ ap (λ k. spec_of k p.0) more)
  where
    more : suc n + i ≡ n + suc i
    more = omega arith

either : (a b : Bool) → (a || b) ≡ false → (a ≡ false) × (b ≡ false)
either true b e = absurd (cc)
either false b e = (refl, e)

-- a record is found where none before it has its name
first-found : (n : ℕ) (rs : List RecDefKind) (i : ℕ) (r : RecDefKind) → slice_get rs i ≡ Some r → list_any (is_named r.name) (take i (records_from n rs)) ≡ false → find_record rs r.name ≡ Some r
first-found n [] i r e none = absurd (cc)
first-found n (q ∷ rs) zero r e none = ap (λ b. if b then Some q else find_record rs r.name) (subst (λ (s : RecDefKind). same_name s.name r.name ≡ true) (sym (some-inj q r e)) (name-refl r.name)) ∙ e
first-found n (q ∷ rs) (suc i) r e none =
    let p = either (same_name q.name r.name) (list_any (is_named r.name) (take i (records_from (suc n) rs))) none in
    ap (λ b. if b then Some q else find_record rs r.name) p.0 ∙ first-found (suc n) rs i r e p.1

-- none is found where none has the name
none-found : (n : ℕ) (rs : List RecDefKind) (x : Name) → list_any (is_named x) (records_from n rs) ≡ false → find_record rs x ≡ Nothing
none-found n [] x e = refl
none-found n (q ∷ rs) x e =
    let p = either (same_name q.name x) (list_any (is_named x) (records_from (suc n) rs)) e in
    ap (λ b. if b then Some q else find_record rs x) p.0 ∙ none-found (suc n) rs x p.1

-- a record that isn't found has no tuples
no-tuples : (d : Declarations) (k : ℕ) (x : Name) → find_record d.records x ≡ Nothing → tuple_within d k x ≡ Nothing
no-tuples d zero x e = refl
no-tuples d (suc k) x e = ap (λ o. and_then o (λ r. tuple_of (type_kind_term d (tuple_within d k) no_variables) r)) e

-- ---- the names of fields

names-present : (t : TypeKind → Option Term) (fs : List RecFieldKind) (own : List (Name × Term)) → all_present (map (λ (f : RecFieldKind). named_term f.name (field_term t f)) fs) ≡ Some own → map (λ g. g.0) own ≡ map (λ (f : RecFieldKind). f.name) fs
names-present t [] own e = ap (map (λ g. g.0)) (sym (some-inj [] own e))
names-present t (f ∷ fs) own e =
    let p = present-parts (named_term f.name (field_term t f)) (map (λ (g : RecFieldKind). named_term g.name (field_term t g)) fs) own e in
    let q = mapped (λ w. (f.name, w)) (field_term t f) p.0 p.2 in
    ap (map (λ g. g.0)) (sym p.4) ∙ ((λ j. (sym q.2 j).0 ∷ names-present t fs p.1 p.3 j))

fields-of-tuple : (t : TypeKind → Option Term) (r : RecDefKind) (tuple : RecordTuple) → tuple_of t r ≡ Some tuple → field_names tuple ≡ map (λ (f : RecFieldKind). f.name) (fields_of r)
fields-of-tuple t r tuple e =
    let p = mapped (λ fields. record { tag = r.tag; fields = fields }) (all_present (map (λ (f : RecFieldKind). named_term f.name (field_term t f)) (fields_of r))) tuple e in
    ap field_names (sym p.2) ∙ names-present t (fields_of r) p.0 p.1

-- the tuples of a record have the fields of the declaration that is found
found-fields : (d : Declarations) (k : ℕ) (x : Name) (r : RecDefKind) (tuple : RecordTuple) → find_record d.records x ≡ Some r → tuple_within d k x ≡ Some tuple → field_names tuple ≡ map (λ (f : RecFieldKind). f.name) (fields_of r)
found-fields d zero x r tuple found e = absurd (cc)
found-fields d (suc k) x r tuple found e =
    fields-of-tuple (type_kind_term d (tuple_within d k) no_variables) r tuple (sym (ap (λ o. and_then o (λ s. tuple_of (type_kind_term d (tuple_within d k) no_variables) s)) found) ∙ e)

-- ---- a module with its specs

module _ (m : Module) (s : Specs) (are : module_specs m ≡ Some s) where
  abbrev declared : Declarations
  declared = declarations_of m

  records-are : s.records ≡ record_specs declared
  records-are =
      let a = both (definitions declared) _ s are in
      let b = mapped _ (function_specs declared (specs_in m.forms)) s a.2 in
      ap (λ (x : Specs). x.records) (sym b.2)

  -- each record has its tuples, which are those by its specs where none before it has its name
  tuples-at : (i : ℕ) (q : RecordSpec) → slice_get s.records i ≡ Some q → (r : RecordTuple) × (record_tuple declared q.name ≡ Some r) × (list_any (is_named q.name) (take i s.records) ≡ false → AreTuplesBy s.defs q r)
  tuples-at i q e =
      let first : ℕ = 2 + length declared.types in
      let p = at-record first declared.records i q (ap (λ qs. slice_get qs i) (sym records-are) ∙ e) in
      let d = defs-are m s are in
      let def = record-defined declared d.0 d.1 (first + i) i p.0 (omega arith) p.1 in
      let t = mapped (λ tuple. record { params = 0; body = tuple_term tuple }) (record_tuple declared p.0.name) def.0 def.2 in (
        t.0,
        ap (λ (x : RecordSpec). record_tuple declared x.name) p.2 ∙ t.1,
        λ none. record {
          names =
              found-fields declared (length declared.records) p.0.name p.0 t.0
              (first-found first declared.records i p.0 p.1 ((λ j. list_any (is_named (sym p.2 j).name) (take i (sym records-are j))) ∙ none))
              t.1
              ∙ ap (λ (x : RecordSpec). x.fields) (sym p.2);
          definition = (λ j. slice_get (d.2 j) (p.2 j).def) ∙ (def.1 ∙ ap Some (sym t.2));
        },
      )

  undeclared : (x : Name) → list_any (is_named x) s.records ≡ false → record_tuple declared x ≡ Nothing
  undeclared x e = no-tuples declared (length declared.records) x (none-found (2 + length declared.types) declared.records x (ap (λ qs. list_any (is_named x) qs) (sym records-are) ∙ e))

-- ---- going through the records

-- the tuples of the first so many records stand in a table
abbrev pub HasTuplesTo : Specs → ℕ → (Name → Option RecordTuple) → Type 0
HasTuplesTo s i table = (m : Module) → module_specs m ≡ Some s → (x : Name) → table x ≡ cond (list_any (is_named x) (take i s.records)) (record_tuple (declarations_of m) x) Nothing

none-yet : (b : Bool) (o : Option RecordTuple) (r : RecordTuple) → cond b o Nothing ≡ Nothing → o ≡ Some r → b ≡ false
none-yet true o r e f = absurd (absent (sym e ∙ f))
  where
    absent : ◌≡◌ {A = Option RecordTuple} Nothing (Some r) → ⊥
    absent g = cc
none-yet false o r e f = refl

some-already : (b : Bool) (o p : Option RecordTuple) → p ≡ cond b o Nothing → is_some p ≡ true → b ≡ true
some-already true o p e f = refl
some-already false o p e f = absurd (absent (sym (ap is_some e) ∙ f))
  where
    absent : false ≡ true → ⊥
    absent g = cc

nothing-of : (p : Option RecordTuple) → is_some p ≡ false → p ≡ Nothing
nothing-of Nothing e = refl
nothing-of (Some r) e = absurd (cc)

or-true : (b : Bool) → (b || true) ≡ true
or-true true = refl
or-true false = refl

or-false : (b : Bool) → (b || false) ≡ b
or-false true = refl
or-false false = refl

module _ (s : Specs) (qs : List RecordSpec) (same : qs ≡ s.records) (i : ℕ) (q : RecordSpec) (lt : i < length qs) (is : q ≡ get_or qs i q) (table : Name → Option RecordTuple) (so_far : HasTuplesTo s i table) where
  at : slice_get s.records i ≡ Some q
  at = ap (λ ps. slice_get ps i) (sym same) ∙ slice_get_read qs (length qs) i q refl lt is

  any-more : (x : Name) → list_any (is_named x) (take (i + 1) s.records) ≡ (list_any (is_named x) (take i s.records) || same_name q.name x)
  any-more x =
      ap (λ ps. list_any (is_named x) (take (i + 1) ps)) (sym same)
      ∙ (ap (list_any (is_named x)) (take_more qs i q lt ∙ ap (λ y. take i qs ++ y ∷ []) (sym is))
      ∙ (list_any-append (is_named x) (take i qs) (q ∷ [])
      ∙ ((λ j. list_any (is_named x) (take i (same j)) || or-false (same_name q.name x) j))))

  -- one whose name stands there already
  pub known-tuple : is_some (table q.name) ≡ true → HasTuplesTo s (i + 1) table
  known-tuple there m are x = so_far m are x ∙ (by (same_name q.name x) refl ∙ ap (λ b. cond b (record_tuple (declarations_of m) x) Nothing) (sym (any-more x)))
    where
      by : (b : Bool) → same_name q.name x ≡ b → cond (list_any (is_named x) (take i s.records)) (record_tuple (declarations_of m) x) Nothing ≡ cond (list_any (is_named x) (take i s.records) || b) (record_tuple (declarations_of m) x) Nothing
      by false e = ap (λ b. cond b (record_tuple (declarations_of m) x) Nothing) (sym (or-false (list_any (is_named x) (take i s.records))))
      by true e =
          let stands : list_any (is_named x) (take i s.records) ≡ true = some-already (list_any (is_named x) (take i s.records)) (record_tuple (declarations_of m) x) (table x) (so_far m are x) (ap (λ y. is_some (table y)) (sym (name-is q.name x e)) ∙ there) in
          ap (λ b. cond b (record_tuple (declarations_of m) x) Nothing) (stands ∙ sym (or-true (list_any (is_named x) (take i s.records))))

  module _ (absent : is_some (table q.name) ≡ false) (tuple : Option RecordTuple) (given : (r : RecordTuple) → AreTuplesBy s.defs q r → tuple ≡ Some r) where
    -- its tuples
    its-tuples : (m : Module) → module_specs m ≡ Some s → record_tuple (declarations_of m) q.name ≡ tuple
    its-tuples m are =
        let t = tuples-at m s are i q at in
        t.1 ∙ sym (given t.0 (t.2 (none-yet (list_any (is_named q.name) (take i s.records)) (record_tuple (declarations_of m) q.name) t.0 (sym (so_far m are q.name) ∙ nothing-of (table q.name) absent) t.1)))

    -- a record whose name is new has tuples
    pub some-tuples : (m : Module) → module_specs m ≡ Some s → tuple ≡ Nothing → ⊥
    some-tuples m are e = none (sym (tuples-at m s are i q at).1 ∙ (its-tuples m are ∙ e))
      where
        none : Some (tuples-at m s are i q at).0 ≡ Nothing → ⊥
        none g = cc

    pub no-tuple : tuple ≡ Nothing → HasTuplesTo s (i + 1) table
    no-tuple e m are x = absurd (some-tuples m are e)

    pub new-tuple : (r : RecordTuple) (new : Name → Option RecordTuple) → tuple ≡ Some r → ((x : Name) → new x ≡ cond (same_name q.name x) (Some r) (table x)) → HasTuplesTo s (i + 1) new
    new-tuple r new e set m are x = set x ∙ (by (same_name q.name x) refl ∙ ap (λ b. cond b (record_tuple (declarations_of m) x) Nothing) (sym (any-more x)))
      where
        by : (b : Bool) → same_name q.name x ≡ b → cond b (Some r) (table x) ≡ cond (list_any (is_named x) (take i s.records) || b) (record_tuple (declarations_of m) x) Nothing
        by true f =
            sym e ∙ (sym (its-tuples m are) ∙ (ap (record_tuple (declarations_of m)) (name-is q.name x f)
            ∙ ap (λ b. cond b (record_tuple (declarations_of m) x) Nothing) (sym (or-true (list_any (is_named x) (take i s.records))))))
        by false f = so_far m are x ∙ ap (λ b. cond b (record_tuple (declarations_of m) x) Nothing) (sym (or-false (list_any (is_named x) (take i s.records))))

-- all of them
pub all-tuples : (s : Specs) (qs : List RecordSpec) (i : ℕ) (table : Name → Option RecordTuple) → qs ≡ s.records → length qs ≤ i → HasTuplesTo s i table → (m : Module) → module_specs m ≡ Some s → (x : Name) → table x ≡ record_tuple (declarations_of m) x
all-tuples s qs i table same end so_far m are x =
    so_far m are x ∙ (ap (λ ps. cond (list_any (is_named x) ps) (record_tuple (declarations_of m) x) Nothing) (ap (take i) (sym same) ∙ (take_all i qs end ∙ same)) ∙ by (list_any (is_named x) s.records) refl)
  where
    by : (b : Bool) → list_any (is_named x) s.records ≡ b → cond b (record_tuple (declarations_of m) x) Nothing ≡ record_tuple (declarations_of m) x
    by true e = refl
    by false e = sym (undeclared m s are x e)

-- a look-up gives something where a table has tuples
pub looked_up : (entries : Option Fields) (o : Option (Bor Fields)) → option_copied o ≡ entries → is_some o ≡ is_some (option_map tuple_as entries)
looked_up entries o e = by o ∙ ap (λ o. is_some (option_map tuple_as o)) e
  where
    by : (o : Option (Bor Fields)) → is_some o ≡ is_some (option_map tuple_as (option_copied o))
    by Nothing = refl
    by (Some x) = refl
