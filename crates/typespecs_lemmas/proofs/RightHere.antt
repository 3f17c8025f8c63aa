-- A type expression with which nothing is wrong has a term, where the variables and the records that stand in it have theirs.
use Rattle.std.proofs.Common.{◌≡◌, refl, subst, inl, inr, List, [], ◌∷◌, ◌++◌, map}
use Rattle.std.specs.Prelude.{Option, Some, None as Nothing, Bool, true, false, cond, is_some}
use Rattle.type_terms.specs.Keys.{Name}
use Rattle.type_terms.specs.declared.term.Term.{Term, Any}
use Rattle.erl_tree.specs.declared.token.Node.{Node}
use Rattle.erl_tree.specs.declared.expr.ExprKind.{ExprKind}
use Rattle.erl_tree.specs.declared.type_expr.TypeKind.{TypeKind, out-TypeKind}
use Rattle.erl_tree.specs.declared.type_expr.TypeKind.TheOpen as O
use Rattle.erl_tree.specs.declared.form.RecFieldKind.{RecFieldKind}
use Rattle.erl_tree.specs.declared.form.RecDefKind.{RecDefKind}
use Rattle.erl_tree.specs.Lists.{Among}
use Rattle.erl_runs.specs.Names.{is_wildcard}
use Rattle.erl_runs.specs.Records.{find_record, fields_of}
use Rattle.erl_runs.specs.Specs.{and_then, all_present}
use Rattle.typespecs_rules.specs.TypeParts.{types_within}
use Rattle.typespecs_rules.specs.Declarations.{Declarations}
use Rattle.typespecs_rules.specs.TypeTerms.{RecordTuple, type_kind_term, named_term, field_term, tuple_of}
use Rattle.typespecs_rules.specs.TypeFaults.{type_faults}
use Rattle.typespecs_rules.proofs.RightTypes.{then-some, map-some, all-right}
use Rattle.typespecs_lemmas.proofs.AlikeTypes.{all-alike}
use Rattle.typespecs_lemmas.proofs.RecordTuples.{agreeing}

-- ---- what is there

-- a value in the place of one that is absent
abbrev or_given : {A : Type 0} → A → Option A → Option A
or_given given Nothing = Some given
or_given given (Some a) = Some a

given-same : {A : Type 0} (given : A) (b : Bool) (o : Option A) → (b ≡ true → is_some o ≡ true) → cond b (or_given given o) o ≡ o
given-same given false o h = refl
given-same given true Nothing h = absurd (absent (h refl))
  where
    absent : false ≡ true → ⊥
    absent e = cc
given-same given true (Some a) h = refl

given-some : {A : Type 0} (given : A) (b : Bool) (o : Option A) → b ≡ true → is_some (cond b (or_given given o) o) ≡ true
given-some given false o e = absurd (cc)
given-some given true Nothing e = refl
given-some given true (Some a) e = refl

-- all of a list are there
pub present-mapped : {A B : Type 0} (f : A → Option B) (xs : List A) → ((x : A) → Among x xs → is_some (f x) ≡ true) → is_some (all_present (map f xs)) ≡ true
present-mapped f [] h = refl
present-mapped f (x ∷ xs) h = then-some (f x) _ (h x (inl refl)) (λ a e. then-some (all_present (map f xs)) _ (present-mapped f xs (λ y i. h y (inr i))) (λ more q. refl))

pub present-both : {A : Type 0} (xs ys : List (Option A)) → is_some (all_present xs) ≡ true → is_some (all_present ys) ≡ true → is_some (all_present (xs ++ ys)) ≡ true
present-both [] ys e f = f
present-both {A} (Nothing ∷ xs) ys e f = absurd (absent e)
  where
    absent : false ≡ true → ⊥
    absent q = cc
present-both {A} (Some x ∷ xs) ys e f = then-some (all_present (xs ++ ys)) _ (present-both xs ys (back (all_present xs) e) f) (λ more q. refl)
  where
    back : (o : Option (List A)) → is_some (and_then o (λ more. Some (x ∷ more))) ≡ true → is_some o ≡ true
    back Nothing q = q
    back (Some l) q = refl

-- ---- type expressions

module _ (declared : Declarations) (tuples : Name → Option RecordTuple) (variables : Name → Option Term) (allowed : Name → Bool) where
  abbrev all_tuples : Name → Option RecordTuple
  all_tuples name = cond (is_some (find_record declared.records name)) (or_given (record { tag = []; fields = [] }) (tuples name)) (tuples name)

  abbrev all_variables : Name → Option Term
  all_variables x = cond (allowed x) (or_given Any (variables x)) (variables x)

  pub right-here : (t : Node TypeKind) → type_faults declared allowed t ≡ [] →
      ((u : Node TypeKind) (name tag : Name) (f : Node (Name × Node TypeKind)) (fs : List (Node (Name × Node TypeKind))) → Among u (types_within t) → out-TypeKind u.kind ≡ O.Rec name tag (f ∷ fs) → is_some (find_record declared.records name) ≡ true → is_some (tuples name) ≡ true) →
      ((u : Node TypeKind) (x : Name) → Among u (types_within t) → out-TypeKind u.kind ≡ O.Var x → is_wildcard x ≡ false → allowed x ≡ true → is_some (variables x) ≡ true) →
      is_some (type_kind_term declared tuples variables t.kind) ≡ true
  right-here t e records there =
      subst (λ o. is_some o ≡ true)
      (all-alike declared all_tuples tuples all_variables variables t.kind t.place t.marks (λ u i. agreeing all_tuples tuples all_variables variables (out-TypeKind u.kind)
      (λ name tag f fs o. given-same _ (is_some (find_record declared.records name)) (tuples name) (records u name tag f fs i o))
      (λ x o w. given-same Any (allowed x) (variables x) (there u x i o w))))
      (all-right declared all_tuples all_variables allowed (λ x a. given-some Any (allowed x) (variables x) a) (λ name a. given-some _ (is_some (find_record declared.records name)) (tuples name) a) t.kind t.place t.marks e)

-- ---- records

field-there : (g : TypeKind → Option Term) (name : Name) (default : Option (Node ExprKind)) (o : Option (Node TypeKind)) → ((t : Node TypeKind) → o ≡ Some t → is_some (g t.kind) ≡ true) → is_some (field_term g (record { name = name; default = default; ty = o })) ≡ true
field-there g name default Nothing h = refl
field-there g name default (Some t) h = h t refl

-- a record has tuples where the types of its fields have terms
pub tuple-there : (g : TypeKind → Option Term) (r : RecDefKind) → ((f : RecFieldKind) (t : Node TypeKind) → Among f (fields_of r) → f.ty ≡ Some t → is_some (g t.kind) ≡ true) → is_some (tuple_of g r) ≡ true
tuple-there g r h = map-some _ (all_present (map (λ (f : RecFieldKind). named_term f.name (field_term g f)) (fields_of r)))
    (present-mapped (λ (f : RecFieldKind). named_term f.name (field_term g f)) (fields_of r) (λ f i. map-some _ (field_term g f) (field-there g f.name f.default f.ty (λ t e. h f t i e))))
