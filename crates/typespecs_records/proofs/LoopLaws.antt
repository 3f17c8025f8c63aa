-- Loops over records, their fields, and forms.
use Rattle.std.proofs.Common.{◌≡◌, ℕ, ◌+◌, ◌<◌, ◌≤◌, Bool, true, false, not, List, [], ◌∷◌, ◌++◌, length, map, take, get_or, inl, inr, ⊎_elim, refl, sym, ap, ◌∙◌, subst, Option, Some, None, true≢false}
use Rattle.std.specs.Prelude.{◌⊎◌}
use Rattle.std.specs.Borrow.{Bor}
use Rattle.std.specs.Option.{option_map}
use Rattle.std.proofs.lemmas.List.{take_more, take_all}
use Rattle.type_terms.specs.Keys.{Name}
use Rattle.type_terms.specs.declared.term.Term.{Term}
use Rattle.erl_tree.specs.declared.token.Node.{Node}
use Rattle.erl_tree.specs.declared.type_expr.TypeKind.{TypeKind}
use Rattle.erl_tree.specs.declared.form.RecFieldKind.{RecFieldKind}
use Rattle.erl_tree.specs.declared.form.RecDefKind.{RecDefKind}
use Rattle.erl_tree.specs.declared.form.TreeForm.{TreeForm}
use Rattle.erl_tree.specs.declared.form.TreeForm.TheVariants as F
use Rattle.erl_tree.specs.Lists.{Among}
use Rattle.erl_runs.specs.Records.{records_in}
use Rattle.erl_runs.specs.Specs.{all_present}
use Rattle.typespecs_rules.specs.Declarations.{Declarations, record_number}
use Rattle.typespecs_rules.specs.TypeParts.{from_each, types_within}
use Rattle.typespecs_rules.specs.TypeTerms.{RecordTuple, field_term, named_term, no_variables, tuple_of, type_kind_term}
use Rattle.typespecs_rules.specs.RegularUse.{all_types, field_types, of_record}
use Rattle.typespecs_records.specs.Records.{records_seen}
use Rattle.typespecs_records.specs.Settled.{AreSettled, of_field}

pub not-false : (b : Bool) → not b ≡ false → b ≡ true
not-false true e = refl
not-false false e = absurd (true≢false e)

pub seen-behind : (xs : List (Bor RecDefKind)) (b : Bor RecDefKind) → records_seen (xs ++ b ∷ []) ≡ records_seen xs ++ b.now ∷ []
seen-behind [] b = refl
seen-behind (x ∷ xs) b = ap (λ ys. x.now ∷ ys) (seen-behind xs b)

among-last : (ys : List RecDefKind) (z r : RecDefKind) → Among r (ys ++ z ∷ []) → Among r ys ⊎ (r ≡ z)
among-last [] z r a = ⊎_elim (λ e. inr e) (λ f. absurd f) a
among-last (y ∷ ys) z r a = ⊎_elim (λ e. inl (inl e)) (λ l. ⊎_elim (λ m. inl (inr m)) (λ e. inr e) (among-last ys z r l)) a

-- one more record is settled
pub settled-step : (d : Declarations) (marks : List Bool) (xs : List (Bor RecDefKind)) (i : ℕ) (b : Bor RecDefKind) → i < length xs → b ≡ get_or xs i b → AreSettled d marks (records_seen (take i xs))
    → ((n : ℕ) → record_number d b.now.name ≡ Some n → get_or marks n false ≡ true) → AreSettled d marks (records_seen (take (i + 1) xs))
settled-step d marks xs i b lt is so_far this r a n e =
    ⊎_elim (λ l. so_far r l n e) (λ s. this n (ap (λ (z : Bor RecDefKind). record_number d z.now.name) is ∙ (sym (ap (λ (z : RecDefKind). record_number d z.name) s) ∙ e)))
    (among-last (records_seen (take i xs)) (get_or xs i b).now r (subst (Among r) (ap records_seen (take_more xs i b lt) ∙ seen-behind (take i xs) (get_or xs i b)) a))

-- ---- forms

records-last : (fs : List TreeForm) (r : Node RecDefKind) → records_in (fs ++ F.RecDef r ∷ []) ≡ records_in fs ++ r.kind ∷ []
records-last [] r = refl
records-last (F.RecDef e ∷ fs) r = ap (λ rs. e.kind ∷ rs) (records-last fs r)
records-last (F.Export e ∷ fs) r = records-last fs r
records-last (F.TypeDef e ∷ fs) r = records-last fs r
records-last (F.Spec e ∷ fs) r = records-last fs r
records-last (F.Skipped e ∷ fs) r = records-last fs r
records-last (F.Function e ∷ fs) r = records-last fs r

no-record : (form : TreeForm) → ((r : Node RecDefKind) → form ≡ F.RecDef r → ⊥) → records_in (form ∷ []) ≡ []
no-record (F.RecDef r) h = absurd (h r refl)
no-record _ h = refl

others-last : (fs : List TreeForm) (form : TreeForm) → records_in (form ∷ []) ≡ [] → records_in (fs ++ form ∷ []) ≡ records_in fs
others-last [] form h = h
others-last (F.RecDef e ∷ fs) form h = ap (λ rs. e.kind ∷ rs) (others-last fs form h)
others-last (F.Export e ∷ fs) form h = others-last fs form h
others-last (F.TypeDef e ∷ fs) form h = others-last fs form h
others-last (F.Spec e ∷ fs) form h = others-last fs form h
others-last (F.Skipped e ∷ fs) form h = others-last fs form h
others-last (F.Function e ∷ fs) form h = others-last fs form h

module _ (forms : List TreeForm) (i : ℕ) (form : TreeForm) (lt : i < length forms) (is : form ≡ get_or forms i form) where
  front : take (i + 1) forms ≡ take i forms ++ form ∷ []
  front = take_more forms i form lt ∙ ap (λ z. take i forms ++ z ∷ []) (sym is)

  -- the form declares a record, which is noted
  pub records-more : (r : Node RecDefKind) (old new : List (Bor RecDefKind)) (b : Bor RecDefKind) → form ≡ F.RecDef r → b.now ≡ r.kind → new ≡ old ++ b ∷ [] → records_seen old ≡ records_in (take i forms) → records_seen new ≡ records_in (take (i + 1) forms)
  records-more r old new b it same push so_far =
      ap records_seen push ∙ (seen-behind old b ∙ ((λ j. so_far j ++ same j ∷ []) ∙ sym (ap records_in (front ∙ ap (λ z. take i forms ++ z ∷ []) it) ∙ records-last (take i forms) r)))

  -- it declares none
  pub records-same : (old : List (Bor RecDefKind)) → ((r : Node RecDefKind) → form ≡ F.RecDef r → ⊥) → records_seen old ≡ records_in (take i forms) → records_seen old ≡ records_in (take (i + 1) forms)
  records-same old h so_far = so_far ∙ sym (ap records_in front ∙ others-last (take i forms) form (no-record form h))

-- ---- fields

each-mapped : {A B C : Type 0} (f : B → List C) (g : A → B) (xs : List A) → from_each f (map g xs) ≡ from_each (λ x. f (g x)) xs
each-mapped f g [] = refl
each-mapped f g (x ∷ xs) = ap (λ more. f (g x) ++ more) (each-mapped f g xs)

map-twice : {A B C : Type 0} (f : B → C) (g : A → B) (xs : List A) → map f (map g xs) ≡ map (λ x. f (g x)) xs
map-twice f g [] = refl
map-twice f g (x ∷ xs) = ap (λ more. f (g x) ∷ more) (map-twice f g xs)

-- all types of a record, once all its fields are gone through
pub all-gathered : (r : RecDefKind) (fields : List (Node RecFieldKind)) (i : ℕ) → fields ≡ r.fields → length fields ≤ i → from_each types_within (from_each (λ (f : Node RecFieldKind). field_types f.kind.ty) (take i r.fields)) ≡ all_types (of_record r)
all-gathered r fields i same le =
    ap (from_each types_within)
    (ap (from_each (λ (f : Node RecFieldKind). field_types f.kind.ty)) (take_all i r.fields (subst (λ (xs : List (Node RecFieldKind)). length xs ≤ i) same le))
    ∙ sym (each-mapped (λ (f : RecFieldKind). field_types f.ty) (λ (f : Node RecFieldKind). f.kind) r.fields))

-- the tuples of a record by the terms of its fields
pub tuple-is : (t : TypeKind → Option Term) (r : RecDefKind) (o : Option (List (Name × Term))) → o ≡ all_present (map (of_field t) r.fields) → option_map (λ fields. record { tag = r.tag; fields = fields }) o ≡ tuple_of t r
tuple-is t r o e =
    ap (λ p. option_map (λ fields. record { tag = r.tag; fields = fields }) p) (e ∙ ap all_present (sym (map-twice (λ (f : RecFieldKind). named_term f.name (field_term t f)) (λ (f : Node RecFieldKind). f.kind) r.fields)))

-- a table without terms gives none for any variable
pub without-variables : (d : Declarations) (tuples : Name → Option RecordTuple) (variables : Name → Option Term) (r : RecDefKind) → ((x : Name) → variables x ≡ None) → tuple_of (type_kind_term d tuples variables) r ≡ tuple_of (type_kind_term d tuples no_variables) r
without-variables d tuples variables r none = ap (λ v. tuple_of (type_kind_term d tuples v) r) (λ j x. none x j)
