-- What is wrong with forms, each behind others.
use Rattle.std.proofs.Common.{◌≡◌, ℕ, ◌+◌, ◌<◌, ◌≤◌, Bool, not, ◌||◌, List, [], ◌∷◌, ◌++◌, length, drop, get_or, refl, sym, ap, ap₂, ◌∙◌, Option, Bor}
use Rattle.std.specs.List.{list_any}
use Rattle.std.proofs.lemmas.List.{drop_all}
use Rattle.indexmap.specs.IndexSet.{insert_key}
use Rattle.type_terms.specs.Keys.{Name, same_name}
use Rattle.erl_tree.specs.declared.token.Node.{Node}
use Rattle.erl_tree.specs.declared.form.TypeDefKind.{TypeDefKind}
use Rattle.erl_tree.specs.declared.form.RecDefKind.{RecDefKind}
use Rattle.erl_tree.specs.declared.form.RecFieldKind.{RecFieldKind}
use Rattle.erl_tree.specs.declared.form.SpecKind.{SpecKind}
use Rattle.erl_tree.specs.declared.form.TreeForm.{TreeForm}
use Rattle.erl_tree.specs.declared.form.TreeForm.TheVariants as F
use Rattle.erl_tree.specs.Functions.{FunctionId, of_function}
use Rattle.erl_runs.specs.Names.{same_id}
use Rattle.erl_runs.specs.Specs.{specified_id}
use Rattle.name_table.specs.Table.{ids, IsInsertion}
use Rattle.typespecs_rules.specs.declared.fault.PlacedFault.{PlacedFault}
use Rattle.typespecs_rules.specs.declared.fault.TypeFault.TheVariants.{Repeated}
use Rattle.typespecs_rules.specs.TypeParts.{from_each}
use Rattle.typespecs_rules.specs.Declarations.{Declarations}
use Rattle.typespecs_rules.specs.RegularUse.{field_types}
use Rattle.typespecs_rules.specs.TypeFaults.{Behind, behind, unless, stands_among, no_variable, type_faults, default_faults, declared_fields_faults, form_faults}
use Rattle.typespecs_rules.specs.Earliest.{earliest}
use Rattle.typespecs_faults.specs.declared.forms.Before.{Before}
use Rattle.typespecs_faults.specs.NameSets.{names_in}
use Rattle.typespecs_faults.specs.Behind.{IsBehind, field_type_faults}
use Rattle.typespecs_faults.proofs.EarliestLaws.{earliest-append}
use Rattle.typespecs_faults.proofs.FieldLaws.{Seen, is_key, seen-is, seen-more}
use Rattle.typespecs_faults.proofs.Insertions.{in_front, type-same, record-same}
use Rattle.typespecs_faults.proofs.Rows.{rest_at}

-- ---- the fields of record declarations

declared-alike : (d : Declarations) (before other : List Name) → ((x : Name) → stands_among x before ≡ stands_among x other) → (fs : List (Node RecFieldKind)) → declared_fields_faults d before fs ≡ declared_fields_faults d other fs
declared-alike d before other h [] = refl
declared-alike d before other h (f ∷ fs) =
    ap₂ (λ b more. unless (not b) Repeated f.place ++ (default_faults f.kind.default ++ (from_each (type_faults d no_variable) (field_types f.kind.ty) ++ more))) (h f.kind.name)
    (declared-alike d (f.kind.name ∷ before) (f.kind.name ∷ other) (λ x. ap (λ b. same_name x f.kind.name || b) (h x)) fs)

module _ (d : Declarations) (fs : List (Node RecFieldKind)) (whole : Option PlacedFault) where
  abbrev pub IsDeclaredFieldsTo : ℕ → Seen → Option PlacedFault → Type 0
  IsDeclaredFieldsTo i keys first = earliest first (declared_fields_faults d (names_in keys) (drop i fs)) ≡ whole

  pub declared_fields_next : (i : ℕ) (f : Node RecFieldKind) (kind : RecFieldKind) (keys new : Seen) (k : Bor (List ℕ)) (b : Bool) (first one two next : Option PlacedFault)
      → i < length fs → f ≡ get_or fs i f → kind ≡ f.kind → k.now ≡ kind.name → b ≡ not (list_any (is_key k) keys) → new ≡ insert_key is_key keys k
      → one ≡ earliest first (unless b Repeated f.place) → two ≡ earliest one (default_faults kind.default) → next ≡ earliest two (field_type_faults d kind.ty) → IsDeclaredFieldsTo i keys first → IsDeclaredFieldsTo (i + 1) new next
  declared_fields_next i f kind keys new k b first one two next lt is same name fresh more h1 h2 h3 so_far =
      ap (λ ks. earliest next (declared_fields_faults d (names_in ks) (drop (i + 1) fs))) more
      ∙ (ap (earliest next) (sym (declared-alike d (k.now ∷ names_in keys) (names_in (insert_key is_key keys k)) (seen-more keys k) (drop (i + 1) fs)) ∙ ap (λ (x : Name). declared_fields_faults d (x ∷ names_in keys) (drop (i + 1) fs)) (name ∙ ap (λ (x : RecFieldKind). x.name) same))
      ∙ (sym joined ∙ (ap (λ xs. earliest first (declared_fields_faults d (names_in keys) xs)) (sym (rest_at fs i f lt is)) ∙ so_far)))
    where
      rest : List PlacedFault
      rest = declared_fields_faults d (f.kind.name ∷ names_in keys) (drop (i + 1) fs)

      joined : earliest first (declared_fields_faults d (names_in keys) (f ∷ drop (i + 1) fs)) ≡ earliest next (declared_fields_faults d (f.kind.name ∷ names_in keys) (drop (i + 1) fs))
      joined =
          earliest-append first (unless (not (stands_among f.kind.name (names_in keys))) Repeated f.place) (default_faults f.kind.default ++ (from_each (type_faults d no_variable) (field_types f.kind.ty) ++ declared_fields_faults d (f.kind.name ∷ names_in keys) (drop (i + 1) fs)))
          ∙ (ap (λ o. earliest o (default_faults f.kind.default ++ (from_each (type_faults d no_variable) (field_types f.kind.ty) ++ declared_fields_faults d (f.kind.name ∷ names_in keys) (drop (i + 1) fs))))
          (sym (h1 ∙ ap (λ c. earliest first (unless c Repeated f.place)) (fresh ∙ ap not (seen-is k keys ∙ ap (λ (x : Name). stands_among x (names_in keys)) (name ∙ ap (λ (x : RecFieldKind). x.name) same)))))
          ∙ (earliest-append one (default_faults f.kind.default) (from_each (type_faults d no_variable) (field_types f.kind.ty) ++ declared_fields_faults d (f.kind.name ∷ names_in keys) (drop (i + 1) fs))
          ∙ (ap (λ o. earliest o (from_each (type_faults d no_variable) (field_types f.kind.ty) ++ declared_fields_faults d (f.kind.name ∷ names_in keys) (drop (i + 1) fs))) (sym (h2 ∙ ap (λ (x : RecFieldKind). earliest one (default_faults x.default)) same))
          ∙ (earliest-append two (from_each (type_faults d no_variable) (field_types f.kind.ty)) (declared_fields_faults d (f.kind.name ∷ names_in keys) (drop (i + 1) fs))
          ∙ ap (λ o. earliest o (declared_fields_faults d (f.kind.name ∷ names_in keys) (drop (i + 1) fs))) (sym (h3 ∙ ap (λ (x : RecFieldKind). earliest two (field_type_faults d x.ty)) same))))))

  pub declared_fields_last : (i : ℕ) (keys : Seen) (first : Option PlacedFault) → length fs ≤ i → IsDeclaredFieldsTo i keys first → first ≡ whole
  declared_fields_last i keys first end so_far = ap (λ xs. earliest first (declared_fields_faults d (names_in keys) xs)) (sym (drop_all i fs end)) ∙ so_far

-- ---- what is added

pub type-added : (t : Bool) (old new : Before) (d : Node TypeDefKind) (f : FunctionId) (n : ℕ) (b : Behind) → f ≡ of_function d.kind.name (length d.kind.params) → IsInsertion t old.types f n new.types → new.records ≡ old.records → new.specs ≡ old.specs → IsBehind old b → IsBehind new (behind (F.TypeDef d) b)
type-added t old new d f n b is ins rs ss h = record {
  types = λ name count. in_front t old.types f n new.types ins (of_function name count) ∙ ap₂ ◌||◌ (ap (same_id (of_function name count)) is ∙ type-same name count d.kind) (h.types name count);
  records = λ name. ap (λ es. list_any (same_id (of_function name 0)) (ids es)) rs ∙ h.records name;
  specs = λ id. ap (λ es. list_any (same_id id) (ids es)) ss ∙ h.specs id;
}

pub record-added : (t : Bool) (old new : Before) (r : Node RecDefKind) (f : FunctionId) (n : ℕ) (b : Behind) → f ≡ of_function r.kind.name 0 → IsInsertion t old.records f n new.records → new.types ≡ old.types → new.specs ≡ old.specs → IsBehind old b → IsBehind new (behind (F.RecDef r) b)
record-added t old new r f n b is ins ts ss h = record {
  types = λ name count. ap (λ es. list_any (same_id (of_function name count)) (ids es)) ts ∙ h.types name count;
  records = λ name. in_front t old.records f n new.records ins (of_function name 0) ∙ ap₂ ◌||◌ (ap (same_id (of_function name 0)) is ∙ record-same name r.kind.name) (h.records name);
  specs = λ id. ap (λ es. list_any (same_id id) (ids es)) ss ∙ h.specs id;
}

pub spec-added : (t : Bool) (old new : Before) (s : Node SpecKind) (f : FunctionId) (n : ℕ) (b : Behind) → f ≡ specified_id s → IsInsertion t old.specs f n new.specs → new.types ≡ old.types → new.records ≡ old.records → IsBehind old b → IsBehind new (behind (F.Spec s) b)
spec-added t old new s f n b is ins ts rs h = record {
  types = λ name count. ap (λ es. list_any (same_id (of_function name count)) (ids es)) ts ∙ h.types name count;
  records = λ name. ap (λ es. list_any (same_id (of_function name 0)) (ids es)) rs ∙ h.records name;
  specs = λ id. in_front t old.specs f n new.specs ins id ∙ ap₂ ◌||◌ (ap (same_id id) is) (h.specs id);
}

-- ---- any other form

pub other-behind : (form : TreeForm) (b : Behind) → ((d : Node TypeDefKind) → form ≡ F.TypeDef d → ⊥) → ((r : Node RecDefKind) → form ≡ F.RecDef r → ⊥) → ((s : Node SpecKind) → form ≡ F.Spec s → ⊥) → behind form b ≡ b
other-behind (F.TypeDef d) b t r s = absurd (t d refl)
other-behind (F.RecDef d) b t r s = absurd (r d refl)
other-behind (F.Spec d) b t r s = absurd (s d refl)
other-behind _ b t r s = refl

pub other-faults : (d : Declarations) (form : TreeForm) (b : Behind) → ((d : Node TypeDefKind) → form ≡ F.TypeDef d → ⊥) → ((r : Node RecDefKind) → form ≡ F.RecDef r → ⊥) → ((s : Node SpecKind) → form ≡ F.Spec s → ⊥) → form_faults d b form ≡ []
other-faults d (F.TypeDef x) b t r s = absurd (t x refl)
other-faults d (F.RecDef x) b t r s = absurd (r x refl)
other-faults d (F.Spec x) b t r s = absurd (s x refl)
other-faults d _ b t r s = refl
