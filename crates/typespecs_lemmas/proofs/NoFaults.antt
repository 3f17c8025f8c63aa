-- Where nothing is wrong with a module's text, nothing is wrong with any type expression of its types and records.
use Rattle.std.proofs.Common.{◌≡◌, refl, ap, sym, subst, ◌∙◌, List, [], ◌∷◌, ◌++◌, map, inl, inr}
use Rattle.std.specs.Prelude.{Some, Bool, true, false, not, ◌||◌, length, if◌then◌else◌}
use Rattle.std.specs.List.{list_any}
use Rattle.type_terms.specs.Keys.{Name, same_name}
use Rattle.erl_tree.specs.Lists.{Every, Among}
use Rattle.erl_tree.specs.declared.token.Node.{Node}
use Rattle.erl_tree.specs.declared.form.TypeDefKind.{TypeDefKind}
use Rattle.erl_tree.specs.declared.form.RecDefKind.{RecDefKind}
use Rattle.erl_tree.specs.declared.form.RecFieldKind.{RecFieldKind}
use Rattle.erl_tree.specs.declared.form.TreeForm.{TreeForm}
use Rattle.erl_tree.specs.declared.form.TreeForm.TheVariants as F
use Rattle.erl_tree.specs.declared.form.Module.{Module}
use Rattle.erl_runs.specs.Records.{find_record, fields_of, records_in}
use Rattle.typespecs_rules.specs.declared.fault.PlacedFault.{PlacedFault}
use Rattle.typespecs_rules.specs.declared.fault.TypeFault.TheVariants.{Repeated}
use Rattle.typespecs_rules.specs.TypeParts.{from_each, types_within}
use Rattle.typespecs_rules.specs.BuiltInTypes.{is_built_in_name}
use Rattle.typespecs_rules.specs.Declarations.{Declarations, declarations_of, types_in, is_type_named}
use Rattle.typespecs_rules.specs.RegularUse.{field_types, of_record, all_types}
use Rattle.typespecs_rules.specs.TypeFaults.{unless, stands_among, own_faults, type_faults, no_variable, default_faults, declared_fields_faults, Behind, behind, forms_faults, form_faults, listed_faults, IsTextFault, at_one_place}
use Rattle.typespecs_rules.proofs.RightTypes.{nil-parts, from_each-append}

none-there : {A : Type 0} (xs : List A) → ((x : A) → Among x xs → ⊥) → xs ≡ []
none-there [] h = refl
none-there (x ∷ xs) h = absurd (h x (inl refl))

from-twice : {A B C : Type 0} (f : B → List C) (g : A → List B) (xs : List A) → from_each (λ x. from_each f (g x)) xs ≡ from_each f (from_each g xs)
from-twice f g [] = refl
from-twice f g (x ∷ xs) = ap (λ more. from_each f (g x) ++ more) (from-twice f g xs) ∙ sym (from_each-append f (g x) (from_each g xs))

pub nothing-from : {A B : Type 0} (f : A → List B) (xs : List A) → from_each f xs ≡ [] → (x : A) → Among x xs → f x ≡ []
nothing-from f [] e x a = absurd a
nothing-from f (y ∷ ys) e x (inl q) = ap f q ∙ (nil-parts (f y) (from_each f ys) e).0
nothing-from f (y ∷ ys) e x (inr a) = nothing-from f ys (nil-parts (f y) (from_each f ys) e).1 x a

pub found-every : (P : RecDefKind → Type 0) (rs : List RecDefKind) → Every P rs → (name : Name) (r : RecDefKind) → find_record rs name ≡ Some r → P r
found-every P [] h name r e = absurd (cc)
found-every P (s ∷ rs) h name r e = go (same_name s.name name) e (found-every P rs h.1 name r)
  where
    go : (b : Bool) → (if b then Some s else find_record rs name) ≡ Some r → (find_record rs name ≡ Some r → P r) → P r
    go true q k = subst P (cc) h.0
    go false q k = k q

module _ (declared : Declarations) where
  -- nothing is wrong with a type declaration's body, nor with any type expression in a record
  abbrev pub TypeRight : TypeDefKind → Type 0
  TypeRight d = type_faults declared (λ x. stands_among x d.params) d.body ≡ []

  abbrev pub RecordRight : RecDefKind → Type 0
  RecordRight r = from_each (own_faults declared no_variable) (all_types (of_record r)) ≡ []

  fields-right : (before : List Name) (fs : List (Node RecFieldKind)) → declared_fields_faults declared before fs ≡ [] → from_each (type_faults declared no_variable) (from_each (λ (f : RecFieldKind). field_types f.ty) (map (λ f. f.kind) fs)) ≡ []
  fields-right before [] e = refl
  fields-right before (f ∷ fs) e =
      let a = nil-parts (unless (not (stands_among f.kind.name before)) Repeated f.place) _ e in
      let b = nil-parts (default_faults f.kind.default) _ a.1 in
      let c = nil-parts (from_each (type_faults declared no_variable) (field_types f.kind.ty)) (declared_fields_faults declared (f.kind.name ∷ before) fs) b.1 in
      from_each-append (type_faults declared no_variable) (field_types f.kind.ty) (from_each (λ (g : RecFieldKind). field_types g.ty) (map (λ (g : Node RecFieldKind). g.kind) fs))
      ∙ (ap (λ l. l ++ from_each (type_faults declared no_variable) (from_each (λ (g : RecFieldKind). field_types g.ty) (map (λ (g : Node RecFieldKind). g.kind) fs))) c.0 ∙ fields-right (f.kind.name ∷ before) fs c.1)

  types-right : (b : Behind) (forms : List TreeForm) → forms_faults declared b forms ≡ [] → Every TypeRight (map (λ (d : Node TypeDefKind). d.kind) (types_in forms))
  types-right b [] e = tt
  types-right b (F.TypeDef d ∷ forms) e =
      let a = nil-parts (form_faults declared b (F.TypeDef d)) (forms_faults declared (behind (F.TypeDef d) b) forms) e in
      ((nil-parts (unless (not (is_built_in_name d.kind.name || list_any (is_type_named d.kind.name (length d.kind.params)) b.types)) Repeated d.place) _ a.0).1, types-right _ forms a.1)
  types-right b (F.RecDef r ∷ forms) e = types-right _ forms (nil-parts (form_faults declared b (F.RecDef r)) (forms_faults declared (behind (F.RecDef r) b) forms) e).1
  types-right b (F.Spec s ∷ forms) e = types-right _ forms (nil-parts (form_faults declared b (F.Spec s)) (forms_faults declared (behind (F.Spec s) b) forms) e).1
  types-right b (F.Export x ∷ forms) e = types-right b forms e
  types-right b (F.Skipped x ∷ forms) e = types-right b forms e
  types-right b (F.Function x ∷ forms) e = types-right b forms e

  records-right : (b : Behind) (forms : List TreeForm) → forms_faults declared b forms ≡ [] → Every RecordRight (records_in forms)
  records-right b [] e = tt
  records-right b (F.RecDef r ∷ forms) e =
      let a = nil-parts (form_faults declared b (F.RecDef r)) (forms_faults declared (behind (F.RecDef r) b) forms) e in
      let c = (nil-parts (unless (not (stands_among r.kind.name b.records)) Repeated r.place) _ a.0).1 in
      (sym (from-twice (own_faults declared no_variable) types_within (from_each (λ (f : RecFieldKind). field_types f.ty) (fields_of r.kind))) ∙ fields-right [] r.kind.fields c, records-right _ forms a.1)
  records-right b (F.TypeDef d ∷ forms) e = records-right _ forms (nil-parts (form_faults declared b (F.TypeDef d)) (forms_faults declared (behind (F.TypeDef d) b) forms) e).1
  records-right b (F.Spec s ∷ forms) e = records-right _ forms (nil-parts (form_faults declared b (F.Spec s)) (forms_faults declared (behind (F.Spec s) b) forms) e).1
  records-right b (F.Export x ∷ forms) e = records-right b forms e
  records-right b (F.Skipped x ∷ forms) e = records-right b forms e
  records-right b (F.Function x ∷ forms) e = records-right b forms e

pub all-right : (m : Module) → ((f : PlacedFault) → IsTextFault m f → ⊥) → Every (TypeRight (declarations_of m)) (declarations_of m).types × Every (RecordRight (declarations_of m)) (declarations_of m).records
all-right m none =
    let e : listed_faults m ≡ [] = none-there (listed_faults m) (λ f a. none f (at_one_place f a)) in
    (types-right (declarations_of m) _ m.forms e, records-right (declarations_of m) _ m.forms e)
