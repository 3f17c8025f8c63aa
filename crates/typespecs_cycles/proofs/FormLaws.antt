-- What forms declare and specify, form by form.
use Rattle.std.proofs.Common.{◌≡◌, refl, ap, sym, ◌∙◌, List, [], ◌∷◌, ◌++◌, map, append-nil, append_assoc}
use Rattle.std.specs.Prelude.{Option, Some, None}
use Rattle.erl_tree.specs.declared.token.Node.{Node}
use Rattle.erl_tree.specs.declared.type_expr.TypeKind.{TypeKind}
use Rattle.erl_tree.specs.declared.form.TypeDefKind.{TypeDefKind}
use Rattle.erl_tree.specs.declared.form.RecDefKind.{RecDefKind}
use Rattle.erl_tree.specs.declared.form.RecFieldKind.{RecFieldKind}
use Rattle.erl_tree.specs.declared.form.SpecKind.{SpecKind}
use Rattle.erl_tree.specs.declared.form.TreeForm.{TreeForm}
use Rattle.erl_tree.specs.declared.form.TreeForm.TheVariants as F
use Rattle.erl_tree.specs.declared.form.Module.{Module}
use Rattle.erl_runs.specs.Records.{records_of, fields_of}
use Rattle.erl_runs.specs.Specs.{specs_in}
use Rattle.typespecs_rules.specs.Declarations.{types_in, declarations_of}
use Rattle.typespecs_rules.specs.RegularUse.{of_type, of_record, given_declaration, all_types, field_types}
use Rattle.typespecs_rules.specs.TypeParts.{from_each, types_within}
use Rattle.typespecs_cycles.specs.declared.parts.Parts.{Parts}
use Rattle.typespecs_cycles.specs.DeclarationParts.{Inner, inner_of, inside, inside_types, inside_records, inside_all}
use Rattle.typespecs_cycles.specs.GraphFaults.{form_clauses}
use Rattle.typespecs_cycles.proofs.Gathering.{each-map, each-each, map-twice, map-append}

-- what one form declares
abbrev pub type_inside : TreeForm → List Inner
type_inside (F.TypeDef d) = inside (of_type d.kind) ∷ []
type_inside form = []

abbrev pub record_inside : TreeForm → List Inner
record_inside (F.RecDef r) = inside (of_record r.kind) ∷ []
record_inside form = []

pub types-inside : (forms : List TreeForm) → from_each type_inside forms ≡ inside_types forms
types-inside [] = refl
types-inside (F.TypeDef d ∷ forms) = ap (λ more. inside (of_type d.kind) ∷ more) (types-inside forms)
types-inside (form ∷ forms) = types-inside forms

pub records-inside : (forms : List TreeForm) → from_each record_inside forms ≡ inside_records forms
records-inside [] = refl
records-inside (F.RecDef r ∷ forms) = ap (λ more. inside (of_record r.kind) ∷ more) (records-inside forms)
records-inside (form ∷ forms) = records-inside forms

-- a form of another kind
pub no-type : (form : TreeForm) → ((d : Node TypeDefKind) → form ≡ F.TypeDef d → ⊥) → [] ≡ type_inside form
no-type (F.TypeDef d) f = absurd (f d refl)
no-type form f = refl

pub no-record : (form : TreeForm) → ((r : Node RecDefKind) → form ≡ F.RecDef r → ⊥) → [] ≡ record_inside form
no-record (F.RecDef r) f = absurd (f r refl)
no-record form f = refl

pub no-clauses : (form : TreeForm) → ((s : Node SpecKind) → form ≡ F.Spec s → ⊥) → form_clauses form ≡ []
no-clauses (F.Spec s) f = absurd (f s refl)
no-clauses form f = refl

-- the clauses of specs
pub clauses-are : (forms : List TreeForm) → from_each form_clauses forms ≡ from_each (λ (s : Node SpecKind). s.kind.clauses) (specs_in forms)
clauses-are [] = refl
clauses-are (F.Spec s ∷ forms) = ap (λ more. s.kind.clauses ++ more) (clauses-are forms)
clauses-are (form ∷ forms) = clauses-are forms

-- all declarations
pub all-inside : (m : Module) → (inside given_declaration ∷ inside given_declaration ∷ []) ++ (inside_types m.forms ++ inside_records m.forms) ≡ inside_all (declarations_of m)
all-inside m = ap (λ more. inside given_declaration ∷ inside given_declaration ∷ more)
    (sym (map-append inside (map of_type (map (λ (d : Node TypeDefKind). d.kind) (types_in m.forms))) (map of_record (records_of m))
    ∙ (λ i. (sym (map-twice (λ d. inside (of_type d)) (λ (d : Node TypeDefKind). d.kind) (types_in m.forms) ∙ map-twice inside of_type (map (λ (d : Node TypeDefKind). d.kind) (types_in m.forms))) i) ++ (sym (map-twice inside of_record (records_of m)) i))))

-- the type expressions in a record's fields
pub record-types : (r : RecDefKind) → from_each (λ (f : Node RecFieldKind). from_each types_within (field_types f.kind.ty)) r.fields ≡ all_types (of_record r)
record-types r = each-map (λ (f : RecFieldKind). from_each types_within (field_types f.ty)) (λ f. f.kind) r.fields ∙ each-each types_within (λ (f : RecFieldKind). field_types f.ty) (fields_of r)

-- those of one field
pub typed : (ty : Option (Node TypeKind)) (t : Node TypeKind) → ty ≡ Some t → types_within t ≡ from_each types_within (field_types ty)
typed ty t e = sym (append-nil (types_within t)) ∙ sym (ap (λ o. from_each types_within (field_types o)) e)

pub untyped : (ty : Option (Node TypeKind)) → ((t : Node TypeKind) → ty ≡ Some t → ⊥) → [] ≡ from_each types_within (field_types ty)
untyped None f = refl
untyped (Some t) f = absurd (f t refl)

-- the two given definitions at the start
pub two-given : (xs ys zs : List Parts) (g h : Parts) → xs ≡ [] → ys ≡ xs ++ g ∷ [] → zs ≡ ys ++ h ∷ [] → inner_of g ≡ inside given_declaration → inner_of h ≡ inside given_declaration → map inner_of zs ≡ inside given_declaration ∷ inside given_declaration ∷ []
two-given xs ys zs g h e p q a b = ap (map inner_of) (q ∙ ap (λ l. l ++ h ∷ []) (p ∙ ap (λ l. l ++ g ∷ []) e)) ∙ (λ i. a i ∷ b i ∷ [])

pub all-parts : (m : Module) (fs gs : List TreeForm) (base mid last : List Inner) → base ≡ inside given_declaration ∷ inside given_declaration ∷ [] → fs ≡ m.forms → gs ≡ m.forms → mid ≡ base ++ inside_types fs → last ≡ mid ++ inside_records gs → last ≡ inside_all (declarations_of m)
all-parts m fs gs base mid last b f g p q =
    q ∙ (ap (λ l. l ++ inside_records gs) p ∙ (append_assoc base (inside_types fs) (inside_records gs) ∙ ((λ i. b i ++ (inside_types (f i) ++ inside_records (g i))) ∙ all-inside m)))

pub with-no-params : {ts us : List (Node TypeKind)} → ts ≡ us → ◌≡◌ {A = Inner} ([], ts) ([], us)
with-no-params e i = ([], e i)
