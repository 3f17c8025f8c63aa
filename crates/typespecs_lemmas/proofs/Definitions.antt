-- Where nothing is wrong with a module's text, each record has tuples, and each declaration a definition.
use Rattle.std.proofs.Common.{◌≡◌, refl, sym, subst, ⊎_elim, inl, inr, ℕ, zero, suc, ◌+◌, List, [], ◌∷◌, ◌++◌, map, length}
use Rattle.std.specs.Prelude.{Option, Some, None as Nothing, Bool, true, false, ◌||◌, cond, is_some, if◌then◌else◌}
use Rattle.std.specs.Option.{option_map}
use Rattle.std.specs.List.{list_any}
use Rattle.type_terms.specs.Keys.{Name, same_name}
use Rattle.type_terms.proofs.KeyLaws.{name-refl}
use Rattle.erl_tree.specs.declared.token.Node.{Node}
use Rattle.erl_tree.specs.declared.type_expr.TypeKind.{TypeKind}
use Rattle.erl_tree.specs.declared.form.TypeDefKind.{TypeDefKind}
use Rattle.erl_tree.specs.declared.form.RecFieldKind.{RecFieldKind}
use Rattle.erl_tree.specs.declared.form.RecDefKind.{RecDefKind}
use Rattle.erl_tree.specs.declared.form.Module.{Module}
use Rattle.erl_tree.specs.Lists.{Among}
use Rattle.erl_runs.specs.Records.{find_record, fields_of}
use Rattle.erl_runs.specs.Specs.{and_then, all_present}
use Rattle.typespecs_rules.specs.declared.fault.PlacedFault.{PlacedFault}
use Rattle.typespecs_rules.specs.Declarations.{Declarations, declarations_of, position, types_in}
use Rattle.typespecs_rules.specs.TypeTerms.{tuple_of, type_kind_term, tuple_within, record_tuple, no_variables, type_term}
use Rattle.typespecs_rules.specs.TypeVariables.{parameters, place_among}
use Rattle.typespecs_rules.specs.SpecTerms.{type_definition, record_definition, definitions}
use Rattle.typespecs_rules.specs.TypeFaults.{type_faults, no_variable, stands_among, IsTextFault}
use Rattle.typespecs_rules.proofs.RightTypes.{map-some}
use Rattle.typespecs_lemmas.specs.Acyclic.{HasNoInfiniteRecord}
use Rattle.typespecs_lemmas.proofs.RecordTuples.{RecordChain, numbered, leads-to, chain-number, no-record-chain}
use Rattle.typespecs_lemmas.proofs.TextFaults.{type-is-right, field-is-right, no-infinite-record}
use Rattle.typespecs_lemmas.proofs.RightHere.{present-mapped, present-both, right-here, tuple-there}

-- ---- lists

-- what is found stands there
pub found-among : (rs : List RecDefKind) (name : Name) (r : RecDefKind) → find_record rs name ≡ Some r → Among r rs
found-among [] name r e = absurd (cc)
found-among (q ∷ rs) name r e = go (same_name q.name name) e (found-among rs name r)
  where
    go : (b : Bool) → (if b then Some q else find_record rs name) ≡ Some r → (find_record rs name ≡ Some r → Among r rs) → Among r (q ∷ rs)
    go true s h = inl (sym (first s))
      where
        first : Some q ≡ Some r → q ≡ r
        first u = cc
    go false s h = inr (h s)

-- what stands there is found by its name
pub among-found : (rs : List RecDefKind) (r : RecDefKind) → Among r rs → is_some (find_record rs r.name) ≡ true
among-found [] r a = absurd a
among-found (q ∷ rs) r a = ⊎_elim (λ e. taken (same_name q.name r.name) (subst (λ (s : RecDefKind). same_name s.name r.name ≡ true) e (name-refl r.name))) (λ s. passed (same_name q.name r.name) (among-found rs r s)) a
  where
    taken : (b : Bool) → b ≡ true → is_some (if b then Some q else find_record rs r.name) ≡ true
    taken true e = refl
    taken false e = absurd (cc)

    passed : (b : Bool) → is_some (find_record rs r.name) ≡ true → is_some (if b then Some q else find_record rs r.name) ≡ true
    passed true e = refl
    passed false e = e

-- what passes a test has a position
pub any-placed : {A : Type 0} (test : A → Bool) (xs : List A) → list_any test xs ≡ true → is_some (position test xs) ≡ true
any-placed test [] e = absurd (cc)
any-placed test (x ∷ xs) e = go (test x) e (any-placed test xs)
  where
    go : (b : Bool) → (b || list_any test xs) ≡ true → (list_any test xs ≡ true → is_some (position test xs) ≡ true) → is_some (cond b (Some 0) (option_map suc (position test xs))) ≡ true
    go true s h = refl
    go false s h = map-some suc (position test xs) (h s)

-- ---- records

-- nothing is wrong with the fields of records
abbrev pub AreRightFields : Declarations → Type 0
AreRightFields declared = (r : RecDefKind) → Among r declared.records → (f : RecFieldKind) → Among f (fields_of r) → (t : Node TypeKind) → f.ty ≡ Some t → type_faults declared no_variable t ≡ []

module _ (declared : Declarations) (right : AreRightFields declared) where
  there-within : (k : ℕ) (name : Name) → (RecordChain declared k name → ⊥) → is_some (find_record declared.records name) ≡ true → is_some (tuple_within declared k name) ≡ true
  there-within zero name ends e = go (find_record declared.records name) refl e
    where
      go : (o : Option RecDefKind) → find_record declared.records name ≡ o → is_some o ≡ true → false ≡ true
      go Nothing q s = s
      go (Some r) q s = let p = numbered declared name r q in absurd (ends (2 + (length declared.types + p.0), p.1))
  there-within (suc k) name ends e = go (find_record declared.records name) refl e (there-within k)
    where
      go : (o : Option RecDefKind) → find_record declared.records name ≡ o → is_some o ≡ true → ((other : Name) → (RecordChain declared k other → ⊥) → is_some (find_record declared.records other) ≡ true → is_some (tuple_within declared k other) ≡ true) →
          is_some (and_then o (λ r. tuple_of (type_kind_term declared (tuple_within declared k) no_variables) r)) ≡ true
      go Nothing q s below = s
      go (Some r) q s below = tuple-there (type_kind_term declared (tuple_within declared k) no_variables) r (λ f t a y. right-here declared (tuple_within declared k) no_variables no_variable t (right r (found-among declared.records name r q) f a t y)
          (λ u used tag g gs i o found. below used (λ ch. let n = chain-number declared k used ch in let p = numbered declared name r q in ends (2 + (length declared.types + p.0), p.1, used, n.0, n.1, leads-to declared name r f t u used tag g gs n.0 q a y i o n.1, ch)) found)
          (λ u x i o w allowed. absurd (never allowed)))
        where
          never : false ≡ true → ⊥
          never z = cc

  -- each declared record has tuples
  pub has-tuple : HasNoInfiniteRecord declared → (name : Name) → is_some (find_record declared.records name) ≡ true → is_some (record_tuple declared name) ≡ true
  has-tuple h name e = there-within (length declared.records) name (no-record-chain declared h name) e

-- ---- definitions

module _ (m : Module) (right : (f : PlacedFault) → IsTextFault m f → ⊥) where
  pub record-has-tuple : (name : Name) → is_some (find_record (declarations_of m).records name) ≡ true → is_some (record_tuple (declarations_of m) name) ≡ true
  record-has-tuple = has-tuple (declarations_of m) (field-is-right m right) (no-infinite-record m right)

  type-defined : (d : TypeDefKind) → Among d (declarations_of m).types → is_some (type_definition (declarations_of m) d) ≡ true
  type-defined d a =
      let s = mapped-source (types_in m.forms) a in
      map-some _ (type_term (declarations_of m) (parameters d.params) d.body) (right-here (declarations_of m) (record_tuple (declarations_of m)) (parameters d.params) (λ x. stands_among x d.params) d.body
      (subst (λ (k : TypeDefKind). type_faults (declarations_of m) (λ x. stands_among x k.params) k.body ≡ []) (sym s.2) (type-is-right m right s.0 s.1))
      (λ u name tag f fs i o found. record-has-tuple name found)
      (λ u x i o w allowed. map-some _ (place_among d.params x) (any-placed (same_name x) d.params allowed)))
    where
      mapped-source : (ds : List (Node TypeDefKind)) → Among d (map (λ e. e.kind) ds) → (e : Node TypeDefKind) × Among e ds × (d ≡ e.kind)
      mapped-source [] i = absurd i
      mapped-source (e ∷ ds) i = ⊎_elim (λ q. (e, inl refl, q)) (λ r. let p = mapped-source ds r in (p.0, inr p.1, p.2)) i

  record-defined : (r : RecDefKind) → Among r (declarations_of m).records → is_some (record_definition (declarations_of m) r) ≡ true
  record-defined r a = map-some _ (record_tuple (declarations_of m) r.name) (record-has-tuple r.name (among-found (declarations_of m).records r a))

  -- each declaration has a definition
  pub defined : is_some (definitions (declarations_of m)) ≡ true
  defined = map-some _ (all_present (map (type_definition (declarations_of m)) (declarations_of m).types ++ map (record_definition (declarations_of m)) (declarations_of m).records))
      (present-both (map (type_definition (declarations_of m)) (declarations_of m).types) (map (record_definition (declarations_of m)) (declarations_of m).records)
      (present-mapped (type_definition (declarations_of m)) (declarations_of m).types type-defined)
      (present-mapped (record_definition (declarations_of m)) (declarations_of m).records record-defined))
