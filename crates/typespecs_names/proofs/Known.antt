-- Numbers that count in text order are those that the declarations give.
use Rattle.std.proofs.Common.{◌≡◌, ℕ, suc, ◌+◌, Bool, true, false, ◌&&◌, cond, List, [], ◌∷◌, length, map, refl, sym, ap, ap₂, ◌∙◌, subst, Option, Some, None, arith}
use Rattle.std.specs.Option.{option_map}
use Rattle.type_terms.specs.Keys.{Name, same_name}
use Rattle.type_terms.specs.declared.term.Def.{Def}
use Rattle.type_terms.specs.declared.spec.FunSpec.{FunSpec}
use Rattle.erl_tree.specs.declared.token.Node.{Node}
use Rattle.erl_tree.specs.declared.form.TypeDefKind.{TypeDefKind}
use Rattle.erl_tree.specs.declared.form.RecDefKind.{RecDefKind}
use Rattle.erl_tree.specs.declared.form.TreeForm.{TreeForm}
use Rattle.erl_tree.specs.declared.form.TreeForm.TheVariants as F
use Rattle.erl_tree.specs.declared.form.Module.{Module}
use Rattle.erl_tree.specs.Functions.{FunctionId, of_function}
use Rattle.erl_runs.specs.Names.{same_id}
use Rattle.erl_runs.specs.Records.{records_in}
use Rattle.erl_runs.specs.Specs.{and_then, specs_in}
use Rattle.typespecs_rules.specs.declared.specs.TypeName.{TypeName}
use Rattle.typespecs_rules.specs.declared.specs.RecordSpec.{RecordSpec}
use Rattle.typespecs_rules.specs.declared.specs.Specs.{Specs}
use Rattle.typespecs_rules.specs.TypeParts.{from_each}
use Rattle.typespecs_rules.specs.BuiltInTypes.{is_built_in_name}
use Rattle.typespecs_rules.specs.Declarations.{Declarations, declarations_of, types_in, position, is_type_named}
use Rattle.typespecs_rules.specs.SpecTerms.{module_specs, definitions, function_specs, type_names, record_specs, records_from}
use Rattle.typespecs_names.specs.declared.numbers.DeclaredNumbers.{DeclaredNumbers}
use Rattle.typespecs_names.specs.Numbers.{first_number, numbered, IsAdded, KnowsNumbers, type_id, record_id, type_ids, record_ids, name_ids, spec_ids}
use Rattle.typespecs_names.proofs.LookUps.{eq-sym, name-sym}

-- the first of some with a name, by its position
positions : {A : Type 0} (test : A → Bool) (of : A → FunctionId) (id : FunctionId) → ((x : A) → same_id id (of x) ≡ test x) → (n : ℕ) (xs : List A) → first_number (numbered n (map of xs)) id ≡ option_map (λ i. n + i) (position test xs)
positions test of id same n [] = refl
positions test of id same n (x ∷ xs) = ap (λ b. cond b (Some n) (first_number (numbered (suc n) (map of xs)) id)) (same x) ∙ by (test x) (positions test of id same (suc n) xs)
  where
    zero_more : n ≡ n + 0
    zero_more = omega arith

    shifted : (o : Option ℕ) → option_map (λ i. suc n + i) o ≡ option_map (λ i. n + i) (option_map suc o)
    shifted None = refl
    shifted (Some i) = ap Some (let e : suc n + i ≡ n + suc i = omega arith in e)

    by : (b : Bool) → first_number (numbered (suc n) (map of xs)) id ≡ option_map (λ i. suc n + i) (position test xs)
        → cond b (Some n) (first_number (numbered (suc n) (map of xs)) id) ≡ option_map (λ i. n + i) (cond b (Some 0) (option_map suc (position test xs)))
    by true h = ap Some zero_more
    by false h = h ∙ shifted (position test xs)

type-same : (name : Name) (count : ℕ) (d : TypeDefKind) → same_id (of_function name count) (type_id d) ≡ is_type_named name count d
type-same name count d = ap₂ ◌&&◌ (name-sym name d.name) (eq-sym count (length d.params))

and-true : (b : Bool) → (b && true) ≡ b
and-true true = refl
and-true false = refl

record-same : (name : Name) (r : RecDefKind) → same_id (of_function name 0) (record_id r) ≡ same_name r.name name
record-same name r = and-true (same_name name r.name) ∙ name-sym name r.name

further : (n m k : ℕ) (o : Option ℕ) → n ≡ m + k → option_map (λ i. n + i) o ≡ option_map (λ i. m + (k + i)) o
further n m k None is = refl
further n m k (Some i) is = ap Some (let e : n + i ≡ m + (k + i) = omega arith in e)

-- tables of what is declared know the numbers
pub known : (numbers : DeclaredNumbers) (d : Declarations) (m k : ℕ) → IsAdded [] 2 (map type_id d.types) m numbers.types → IsAdded [] m (map record_id d.records) k numbers.records → KnowsNumbers numbers d
known numbers d m k types records = record {
  types = λ name count. ap (λ o. cond (is_built_in_name name) None o) (types.adds (of_function name count) ∙ positions (is_type_named name count) type_id (of_function name count) (type-same name count) 2 d.types);
  records = λ name. records.adds (of_function name 0) ∙ (positions (λ (r : RecDefKind). same_name r.name name) record_id (of_function name 0) (record-same name) m d.records ∙ further m 2 (length d.types) (position (λ (r : RecDefKind). same_name r.name name) d.records) (types.counts ∙ ap (λ i. 2 + i) (length-ids d.types)));
}
  where
    length-ids : (ds : List TypeDefKind) → length (map type_id ds) ≡ length ds
    length-ids [] = refl
    length-ids (x ∷ ds) = ap suc (length-ids ds)

-- ---- by the forms of a module

types-of-forms : (forms : List TreeForm) → from_each type_ids forms ≡ map type_id (map (λ d. d.kind) (types_in forms))
types-of-forms [] = refl
types-of-forms (F.TypeDef d ∷ forms) = ap (λ fs. type_id d.kind ∷ fs) (types-of-forms forms)
types-of-forms (F.Export e ∷ forms) = types-of-forms forms
types-of-forms (F.RecDef e ∷ forms) = types-of-forms forms
types-of-forms (F.Spec e ∷ forms) = types-of-forms forms
types-of-forms (F.Skipped e ∷ forms) = types-of-forms forms
types-of-forms (F.Function e ∷ forms) = types-of-forms forms

records-of-forms : (forms : List TreeForm) → from_each record_ids forms ≡ map record_id (records_in forms)
records-of-forms [] = refl
records-of-forms (F.RecDef r ∷ forms) = ap (λ fs. record_id r.kind ∷ fs) (records-of-forms forms)
records-of-forms (F.Export e ∷ forms) = records-of-forms forms
records-of-forms (F.TypeDef e ∷ forms) = records-of-forms forms
records-of-forms (F.Spec e ∷ forms) = records-of-forms forms
records-of-forms (F.Skipped e ∷ forms) = records-of-forms forms
records-of-forms (F.Function e ∷ forms) = records-of-forms forms

pub known_by_forms : (numbers : DeclaredNumbers) (whole : Module) (forms : List TreeForm) (m k : ℕ) → forms ≡ whole.forms → IsAdded [] 2 (from_each type_ids forms) m numbers.types → IsAdded [] m (from_each record_ids forms) k numbers.records → KnowsNumbers numbers (declarations_of whole)
known_by_forms numbers whole forms m k same types records =
    known numbers (declarations_of whole) m k
    (subst (λ (fs : List FunctionId). IsAdded [] 2 fs m numbers.types) (ap (from_each type_ids) same ∙ types-of-forms whole.forms) types)
    (subst (λ (fs : List FunctionId). IsAdded [] m fs k numbers.records) (ap (from_each record_ids) same ∙ records-of-forms whole.forms) records)

-- which ids a form gives
pub not_type : (form : TreeForm) → ((d : Node TypeDefKind) → form ≡ F.TypeDef d → ⊥) → type_ids form ≡ []
not_type (F.TypeDef d) h = absurd (h d refl)
not_type _ h = refl

pub not_record : (form : TreeForm) → ((r : Node RecDefKind) → form ≡ F.RecDef r → ⊥) → record_ids form ≡ []
not_record (F.RecDef r) h = absurd (h r refl)
not_record _ h = refl

-- ---- by what the module's types and records are

names-of-types : (ds : List TypeDefKind) → from_each name_ids (map (λ (d : TypeDefKind). record { name = d.name; params = length d.params }) ds) ≡ map type_id ds
names-of-types [] = refl
names-of-types (d ∷ ds) = ap (λ fs. type_id d ∷ fs) (names-of-types ds)

names-of-records : (n : ℕ) (rs : List RecDefKind) → from_each spec_ids (records_from n rs) ≡ map record_id rs
names-of-records n [] = refl
names-of-records n (r ∷ rs) = ap (λ fs. record_id r ∷ fs) (names-of-records (suc n) rs)

types_of_some : Option Specs → List TypeName
types_of_some None = []
types_of_some (Some s) = s.types

records_of_some : Option Specs → List RecordSpec
records_of_some None = []
records_of_some (Some s) = s.records

specs_parts : (d : Declarations) (a : Option (List Def)) (b : Option (List FunSpec)) (s : Specs) → and_then a (λ defs. option_map (λ functions. record { defs = defs; types = type_names d; functions = functions; records = record_specs d }) b) ≡ Some s → (s.types ≡ type_names d) × (s.records ≡ record_specs d)
unfolding types_of_some records_of_some
specs_parts d (Some a) (Some b) s e = (sym (ap types_of_some e), sym (ap records_of_some e))
specs_parts d (Some a) None s e = absurd (cc)
specs_parts d None b s e = absurd (cc)

pub known_by_specs : (numbers : DeclaredNumbers) (s : Specs) (types : List TypeName) (records : List RecordSpec) (m k : ℕ) → types ≡ s.types → records ≡ s.records → IsAdded [] 2 (from_each name_ids types) m numbers.types → IsAdded [] m (from_each spec_ids records) k numbers.records
    → (whole : Module) → module_specs whole ≡ Some s → KnowsNumbers numbers (declarations_of whole)
known_by_specs numbers s types records m k is also t r whole e =
    let parts = specs_parts (declarations_of whole) (definitions (declarations_of whole)) (function_specs (declarations_of whole) (specs_in whole.forms)) s e in
    known numbers (declarations_of whole) m k
    (subst (λ (fs : List FunctionId). IsAdded [] 2 fs m numbers.types) (ap (from_each name_ids) (is ∙ parts.0) ∙ names-of-types (declarations_of whole).types) t)
    (subst (λ (fs : List FunctionId). IsAdded [] m fs k numbers.records) (ap (from_each spec_ids) (also ∙ parts.1) ∙ names-of-records (2 + length (declarations_of whole).types) (declarations_of whole).records) r)
