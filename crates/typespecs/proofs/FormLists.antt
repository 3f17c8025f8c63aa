-- What is listed of forms, one list of forms behind another.
use Rattle.std.proofs.Common.{◌≡◌, ◌∙◌, ℕ, suc, ◌+◌, List, [], ◌∷◌, ◌++◌, refl, ap, sym, subst, map, length, append_assoc, arith}
use Rattle.std.specs.Prelude.{Result, IfOk}
use Rattle.std.proofs.lemmas.List.{map-append, length-append}
use Rattle.erl_tree.specs.declared.token.Node.{Node}
use Rattle.erl_tree.specs.declared.form.TypeDefKind.{TypeDefKind}
use Rattle.erl_tree.specs.declared.form.RecDefKind.{RecDefKind}
use Rattle.erl_tree.specs.declared.form.TreeForm.{TreeForm}
use Rattle.erl_tree.specs.declared.form.TreeForm.TheVariants as F
use Rattle.erl_tree.specs.declared.form.RecFieldKind.{RecFieldKind}
use Rattle.erl_runs.specs.Records.{records_in, fields_of}
use Rattle.erl_runs.specs.Specs.{specs_in}
use Rattle.typespecs_rules.specs.Declarations.{types_in, record_forms_in}
use Rattle.typespecs_rules.specs.TypeParts.{from_each}
use Rattle.typespecs_rules.specs.declared.specs.RecordSpec.{RecordSpec}
use Rattle.typespecs_rules.specs.SpecTerms.{records_from}
use Rattle.typespecs.specs.Names.{name_of, names_among, type_place, type_places_among, record_place, record_places_among, clause_places, clause_places_among}

pub types_in_append : (xs ys : List TreeForm) → types_in (xs ++ ys) ≡ types_in xs ++ types_in ys
types_in_append [] ys = refl
types_in_append (F.TypeDef s ∷ xs) ys = ap (λ ss. s ∷ ss) (types_in_append xs ys)
types_in_append (F.Export x ∷ xs) ys = types_in_append xs ys
types_in_append (F.RecDef x ∷ xs) ys = types_in_append xs ys
types_in_append (F.Spec x ∷ xs) ys = types_in_append xs ys
types_in_append (F.Function x ∷ xs) ys = types_in_append xs ys
types_in_append (F.Skipped x ∷ xs) ys = types_in_append xs ys

pub record_forms_in_append : (xs ys : List TreeForm) → record_forms_in (xs ++ ys) ≡ record_forms_in xs ++ record_forms_in ys
record_forms_in_append [] ys = refl
record_forms_in_append (F.RecDef s ∷ xs) ys = ap (λ ss. s ∷ ss) (record_forms_in_append xs ys)
record_forms_in_append (F.Export x ∷ xs) ys = record_forms_in_append xs ys
record_forms_in_append (F.TypeDef x ∷ xs) ys = record_forms_in_append xs ys
record_forms_in_append (F.Spec x ∷ xs) ys = record_forms_in_append xs ys
record_forms_in_append (F.Function x ∷ xs) ys = record_forms_in_append xs ys
record_forms_in_append (F.Skipped x ∷ xs) ys = record_forms_in_append xs ys

pub records_in_append : (xs ys : List TreeForm) → records_in (xs ++ ys) ≡ records_in xs ++ records_in ys
records_in_append [] ys = refl
records_in_append (F.RecDef s ∷ xs) ys = ap (λ ss. s.kind ∷ ss) (records_in_append xs ys)
records_in_append (F.Export x ∷ xs) ys = records_in_append xs ys
records_in_append (F.TypeDef x ∷ xs) ys = records_in_append xs ys
records_in_append (F.Spec x ∷ xs) ys = records_in_append xs ys
records_in_append (F.Function x ∷ xs) ys = records_in_append xs ys
records_in_append (F.Skipped x ∷ xs) ys = records_in_append xs ys

pub specs_in_append : (xs ys : List TreeForm) → specs_in (xs ++ ys) ≡ specs_in xs ++ specs_in ys
specs_in_append [] ys = refl
specs_in_append (F.Spec s ∷ xs) ys = ap (λ ss. s ∷ ss) (specs_in_append xs ys)
specs_in_append (F.Export x ∷ xs) ys = specs_in_append xs ys
specs_in_append (F.RecDef x ∷ xs) ys = specs_in_append xs ys
specs_in_append (F.TypeDef x ∷ xs) ys = specs_in_append xs ys
specs_in_append (F.Function x ∷ xs) ys = specs_in_append xs ys
specs_in_append (F.Skipped x ∷ xs) ys = specs_in_append xs ys

pub from_each-append : {A B : Type 0} (f : A → List B) (xs ys : List A) → from_each f (xs ++ ys) ≡ from_each f xs ++ from_each f ys
from_each-append f [] ys = refl
from_each-append f (x ∷ xs) ys = ap (λ zs. f x ++ zs) (from_each-append f xs ys) ∙ sym (append_assoc (f x) (from_each f xs) (from_each f ys))

pub names_among_append : (xs ys : List TreeForm) → names_among (xs ++ ys) ≡ names_among xs ++ names_among ys
names_among_append xs ys = ap (map (λ (d : Node TypeDefKind). name_of d.kind)) (types_in_append xs ys) ∙ map-append _ (types_in xs) (types_in ys)

pub type_places_append : (xs ys : List TreeForm) → type_places_among (xs ++ ys) ≡ type_places_among xs ++ type_places_among ys
type_places_append xs ys = ap (map type_place) (types_in_append xs ys) ∙ map-append type_place (types_in xs) (types_in ys)

pub record_places_append : (xs ys : List TreeForm) → record_places_among (xs ++ ys) ≡ record_places_among xs ++ record_places_among ys
record_places_append xs ys = ap (map record_place) (record_forms_in_append xs ys) ∙ map-append record_place (record_forms_in xs) (record_forms_in ys)

pub clause_places_append : (xs ys : List TreeForm) → clause_places_among (xs ++ ys) ≡ clause_places_among xs ++ clause_places_among ys
clause_places_append xs ys = ap (from_each clause_places) (specs_in_append xs ys) ∙ from_each-append clause_places (specs_in xs) (specs_in ys)

pub ruleset form_list_laws = (names_among_append, type_places_append, record_places_append, clause_places_append, append_assoc)

-- names by nodes, and by what stands in them
pub names_of_kinds : (ds : List (Node TypeDefKind)) → map (λ (d : Node TypeDefKind). name_of d.kind) ds ≡ map name_of (map (λ (d : Node TypeDefKind). d.kind) ds)
names_of_kinds [] = refl
names_of_kinds (d ∷ ds) = ap (λ xs. name_of d.kind ∷ xs) (names_of_kinds ds)

-- one record with its number
abbrev record_of : ℕ → RecDefKind → RecordSpec
record_of n r = record { name = r.name; fields = map (λ (f : RecFieldKind). f.name) (fields_of r); def = n }

pub records_from_append : (n : ℕ) (xs ys : List RecDefKind) → records_from n (xs ++ ys) ≡ records_from n xs ++ records_from (n + length xs) ys
records_from_append n [] ys = ap (λ k. records_from k ys) (plus_none n)
  where
    plus_none : (n : ℕ) → n ≡ n + 0
    plus_none n = grind (arith)
records_from_append n (x ∷ xs) ys =
    ap (λ rs. record_of n x ∷ rs) (records_from_append (suc n) xs ys ∙ ap (λ k. records_from (suc n) xs ++ records_from k ys) (plus_one n (length xs)))
  where
    plus_one : (n k : ℕ) → suc n + k ≡ n + suc k
    plus_one n k = grind (arith)

-- the records of some forms and of one more
pub records_next : (first number after : ℕ) (forms one : List TreeForm) (old new : List RecordSpec)
    → old ≡ records_from first (records_in forms) → number ≡ first + length (records_in forms) → new ≡ old ++ records_from number (records_in one) → after ≡ number + length (records_in one)
    → (new ≡ records_from first (records_in (forms ++ one))) × (after ≡ first + length (records_in (forms ++ one)))
records_next first number after forms one old new is counted added next = (
  added ∙ (ap (λ xs. xs ++ records_from number (records_in one)) is ∙ (ap (λ k. records_from first (records_in forms) ++ records_from k (records_in one)) counted ∙ (sym (records_from_append first (records_in forms) (records_in one)) ∙ ap (records_from first) (sym (records_in_append forms one))))),
  next ∙ (ap (λ k. k + length (records_in one)) counted ∙ (add-assoc first (length (records_in forms)) (length (records_in one)) ∙ ap (λ k. first + k) (sym (length-append (records_in forms) (records_in one)) ∙ ap length (sym (records_in_append forms one))))),
)
  where
    add-assoc : (a b c : ℕ) → (a + b) + c ≡ a + (b + c)
    add-assoc a b c = grind (arith)

-- what is answered is something else that is the same
pub if_ok_is : {A E : Type 0} (r : Result A E) {x y : A} → x ≡ y → IfOk r (λ a. a ≡ x) → IfOk r (λ a. a ≡ y)
if_ok_is r e h = subst (λ z. IfOk r (λ a. a ≡ z)) e h
