-- The definitions of declared types and records, form by form.
use Rattle.std.proofs.Common.{◌≡◌, ◌∙◌, List, [], ◌∷◌, ◌++◌, refl, ap, sym, subst, map, append-nil, append_assoc, inl, inr, ℕ, zero, suc, Option, Some, None, Bool, true, false, Result, Ok, Err, IfOk}
use Rattle.std.proofs.lemmas.List.{map-append}
use Rattle.type_terms.specs.declared.term.Def.{Def}
use Rattle.erl_tree.specs.declared.token.Node.{Node}
use Rattle.erl_tree.specs.declared.form.TypeDefKind.{TypeDefKind}
use Rattle.erl_tree.specs.declared.form.RecDefKind.{RecDefKind}
use Rattle.erl_tree.specs.declared.form.TreeForm.{TreeForm}
use Rattle.erl_tree.specs.declared.form.TreeForm.TheVariants as F
use Rattle.erl_runs.specs.Records.{records_in}
use Rattle.erl_runs.specs.Specs.{all_present, specs_in}
use Rattle.erl_tree.specs.declared.form.SpecKind.{SpecKind}
use Rattle.erl_tree.specs.declared.form.SpecClauseKind.{SpecClauseKind}
use Rattle.erl_tree.specs.Lists.{Among}
use Rattle.type_terms.specs.declared.spec.FunSpec.{FunSpec}
use Rattle.typespecs_rules.specs.Bounds.{IsCyclic}
use Rattle.typespecs.specs.CyclicBounds.{HaveNoCyclicBound}
use Rattle.type_terms.specs.declared.list.NoMemory.{NoMemory}
use Rattle.type_terms.specs.Definitions.{given_definitions}
use Rattle.std.specs.Prelude.{slice_get}
use Rattle.std.specs.Option.{option_map}
use Rattle.erl_tree.specs.declared.form.Module.{Module}
use Rattle.typespecs_rules.specs.Declarations.{Declarations, declarations_of, types_in}
use Rattle.typespecs_rules.specs.SpecTerms.{type_definition, record_definition, function_spec, definitions}
use Rattle.typespecs.specs.Reads.{added, given_all, types_given, records_given}
use Rattle.typespecs.proofs.Inversion.{some-is}
use Rattle.typespecs.proofs.Present.{one-added, both-there, none-behind, none-before}
use Rattle.typespecs.proofs.FormLists.{types_in_append, records_in_append, specs_in_append}

abbrev pub types_of : Declarations → List TreeForm → List (Option Def)
types_of d forms = map (λ (t : Node TypeDefKind). type_definition d t.kind) (types_in forms)

abbrev pub records_of : Declarations → List TreeForm → List (Option Def)
records_of d forms = map (record_definition d) (records_in forms)

pub types_append : (d : Declarations) (xs ys : List TreeForm) → types_of d (xs ++ ys) ≡ types_of d xs ++ types_of d ys
types_append d xs ys = ap (map (λ (t : Node TypeDefKind). type_definition d t.kind)) (types_in_append xs ys) ∙ map-append (λ (t : Node TypeDefKind). type_definition d t.kind) (types_in xs) (types_in ys)

pub records_append : (d : Declarations) (xs ys : List TreeForm) → records_of d (xs ++ ys) ≡ records_of d xs ++ records_of d ys
records_append d xs ys = ap (map (record_definition d)) (records_in_append xs ys) ∙ map-append (record_definition d) (records_in xs) (records_in ys)

-- what a form gives adds its item
pub item-added : {A : Type 0} (of_forms : Declarations → List TreeForm → List (Option A)) (reads : Declarations → Type 0) (form : TreeForm) (own : Declarations → Option A) (item : Option A) (result : Result Bool NoMemory) (old new : List A)
    → ((d : Declarations) → reads d → of_forms d (form ∷ []) ≡ own d ∷ []) → ((d : Declarations) → reads d → item ≡ own d) → IfOk result (λ b. added item b old new)
    → IfOk result (λ b. (d : Declarations) → reads d → given_all (all_present (of_forms d (form ∷ []))) b old new)
item-added of_forms reads form own item (Ok b) old new gives item_is a = λ d read.
    subst (λ o. given_all o b old new) (ap (λ o. all_present (o ∷ [])) (item_is d read) ∙ ap all_present (sym (gives d read))) (one-added item b old new a)
item-added of_forms reads form own item (Err e) old new gives item_is a = a

-- a record that is declared
pub record-given : (d : Declarations) (form : TreeForm) (r : Node RecDefKind) (k : RecDefKind) → form ≡ F.RecDef r → k ≡ r.kind → records_of d (form ∷ []) ≡ record_definition d k ∷ []
record-given d form r k is k_is = ap (λ f. records_of d (f ∷ [])) is ∙ ap (λ o. record_definition d o ∷ []) (sym k_is)

-- a spec
abbrev pub specs_of : Declarations → List TreeForm → List (Option FunSpec)
specs_of d forms = map (λ (s : Node SpecKind). function_spec d s.kind) (specs_in forms)

pub specs_append : (d : Declarations) (xs ys : List TreeForm) → specs_of d (xs ++ ys) ≡ specs_of d xs ++ specs_of d ys
specs_append d xs ys = ap (map (λ (s : Node SpecKind). function_spec d s.kind)) (specs_in_append xs ys) ∙ map-append (λ (s : Node SpecKind). function_spec d s.kind) (specs_in xs) (specs_in ys)

pub spec-given : (d : Declarations) (form : TreeForm) (s : Node SpecKind) (k : SpecKind) → form ≡ F.Spec s → k ≡ s.kind → specs_of d (form ∷ []) ≡ function_spec d k ∷ []
spec-given d form s k is k_is = ap (λ f. specs_of d (f ∷ [])) is ∙ ap (λ o. function_spec d o ∷ []) (sym k_is)

-- any other form declares no record
no-record : (form : TreeForm) → ((r : Node RecDefKind) → form ≡ F.RecDef r → ⊥) → records_in (form ∷ []) ≡ []
no-record (F.RecDef r) h = absurd (h r refl)
no-record (F.Export x) h = refl
no-record (F.TypeDef x) h = refl
no-record (F.Spec x) h = refl
no-record (F.Function x) h = refl
no-record (F.Skipped x) h = refl

pub no-record-added : (d : Declarations) (form : TreeForm) (old : List Def) → ((r : Node RecDefKind) → form ≡ F.RecDef r → ⊥) → (own : List Def) × (all_present (records_of d (form ∷ [])) ≡ Some own) × (old ≡ old ++ own)
no-record-added d form old h = ([], ap (λ rs. all_present (map (record_definition d) rs)) (no-record form h), sym (append-nil old))

-- any other form is no spec
no-spec : (form : TreeForm) → ((s : Node SpecKind) → form ≡ F.Spec s → ⊥) → specs_in (form ∷ []) ≡ []
no-spec (F.Spec s) h = absurd (h s refl)
no-spec (F.Export x) h = refl
no-spec (F.TypeDef x) h = refl
no-spec (F.RecDef x) h = refl
no-spec (F.Function x) h = refl
no-spec (F.Skipped x) h = refl

pub no-spec-added : (d : Declarations) (form : TreeForm) (old : List FunSpec) → ((s : Node SpecKind) → form ≡ F.Spec s → ⊥) → (own : List FunSpec) × (all_present (specs_of d (form ∷ [])) ≡ Some own) × (old ≡ old ++ own)
no-spec-added d form old h = ([], ap (λ ss. all_present (map (λ (s : Node SpecKind). function_spec d s.kind) ss)) (no-spec form h), sym (append-nil old))

-- ---- bounds that aren't cyclic

pub spec-acyclic : (form : TreeForm) (s : Node SpecKind) (k : SpecKind) → form ≡ F.Spec s → k ≡ s.kind → HaveNoCyclicBound (form ∷ []) → (c : Node SpecClauseKind) → Among c k.clauses → IsCyclic c.kind.bounds → ⊥
spec-acyclic form s k is k_is none c among = none s c (subst (λ f. Among s (specs_in (f ∷ []))) (sym is) (inl refl)) (subst (λ (j : SpecKind). Among c j.clauses) k_is among)

pub among-left : {A : Type 0} (x : A) (xs ys : List A) → Among x xs → Among x (xs ++ ys)
among-left x [] ys a = absurd a
among-left x (z ∷ xs) ys (inl e) = inl e
among-left x (z ∷ xs) ys (inr a) = inr (among-left x xs ys a)

pub among-right : {A : Type 0} (x : A) (xs ys : List A) → Among x ys → Among x (xs ++ ys)
among-right x [] ys a = a
among-right x (z ∷ xs) ys a = inr (among-right x xs ys a)

among-at : (s : Node SpecKind) (forms : List TreeForm) (i : ℕ) (form : TreeForm) → slice_get forms i ≡ Some form → Among s (specs_in (form ∷ [])) → Among s (specs_in forms)
among-at s [] i form at a = absurd (cc)
among-at s (f ∷ forms) zero form at a = subst (Among s) (sym (specs_in_append (f ∷ []) forms)) (among-left s (specs_in (f ∷ [])) (specs_in forms) (subst (λ g. Among s (specs_in (g ∷ []))) (sym (some-is at)) a))
among-at s (f ∷ forms) (suc i) form at a = subst (Among s) (sym (specs_in_append (f ∷ []) forms)) (among-right s (specs_in (f ∷ [])) (specs_in forms) (among-at s forms i form at a))

pub form-acyclic : (forms : List TreeForm) (i : ℕ) (form : TreeForm) → slice_get forms i ≡ Some form → HaveNoCyclicBound forms → HaveNoCyclicBound (form ∷ [])
form-acyclic forms i form at none s c a = none s c (among-at s forms i form at a)

-- ---- definitions

kinds-of : (d : Declarations) (ts : List (Node TypeDefKind)) → map (type_definition d) (map (λ (t : Node TypeDefKind). t.kind) ts) ≡ map (λ (t : Node TypeDefKind). type_definition d t.kind) ts
kinds-of d [] = refl
kinds-of d (t ∷ ts) = ap (λ xs. type_definition d t.kind ∷ xs) (kinds-of d ts)

module _ (m : Module) where
  abbrev own : Declarations
  own = declarations_of m

  definitions-by : (defs : Option (List Def)) → all_present (types_of own m.forms ++ records_of own m.forms) ≡ defs → option_map (λ ds. given_definitions ++ ds) defs ≡ definitions own
  definitions-by defs e = ap (option_map (λ ds. given_definitions ++ ds)) (sym e ∙ ap (λ ts. all_present (ts ++ records_of own m.forms)) (sym (kinds-of own (types_in m.forms))))

  pub definitions-there : (mid new : List Def) → given_all (all_present (types_of own m.forms)) true given_definitions mid → given_all (all_present (records_of own m.forms)) true mid new → Some new ≡ definitions own
  definitions-there mid new types records =
      ap Some (records.2 ∙ (ap (λ xs. xs ++ records.0) types.2 ∙ append_assoc given_definitions types.0 records.0))
      ∙ definitions-by (Some (types.0 ++ records.0)) (both-there (types_of own m.forms) (records_of own m.forms) types.0 records.0 types.1 records.1)

  pub no-types : all_present (types_of own m.forms) ≡ None → None ≡ definitions own
  no-types e = definitions-by None (none-before (types_of own m.forms) (records_of own m.forms) e)

  pub no-records : all_present (records_of own m.forms) ≡ None → None ≡ definitions own
  no-records e = definitions-by None (none-behind (types_of own m.forms) (records_of own m.forms) e)

  -- the answers, by what the two passes over the forms have said
  pub no-types-answer : (forms : List TreeForm) (b : Bool) (old new : List Def) → forms ≡ m.forms → b ≡ false → types_given own forms b old new → None ≡ definitions own
  no-types-answer forms b old new f e given = no-types (subst (λ fs. all_present (types_of own fs) ≡ None) f (subst (λ c. given_all (all_present (types_of own forms)) c old new) e given))

  pub no-records-answer : (forms : List TreeForm) (b : Bool) (old new : List Def) → forms ≡ m.forms → b ≡ false → records_given own forms b old new → None ≡ definitions own
  no-records-answer forms b old new f e given = no-records (subst (λ fs. all_present (records_of own fs) ≡ None) f (subst (λ c. given_all (all_present (records_of own forms)) c old new) e given))

  pub definitions-answer : (forms : List TreeForm) (b c : Bool) (start mid new : List Def) → forms ≡ m.forms → start ≡ given_definitions → b ≡ true → c ≡ true → types_given own forms b start mid → records_given own forms c mid new → Some new ≡ definitions own
  definitions-answer forms b c start mid new f s e g types records =
      definitions-there mid new
      (subst (λ fs. given_all (all_present (types_of own fs)) true given_definitions mid) f (subst (λ d. given_all (all_present (types_of own forms)) true d mid) s (subst (λ d. given_all (all_present (types_of own forms)) d start mid) e types)))
      (subst (λ fs. given_all (all_present (records_of own fs)) true mid new) f (subst (λ d. given_all (all_present (records_of own forms)) d mid new) g records))
