-- What right names come to in flat modules: no function is defined twice or is built in, each has a spec and each spec a function, and each variable that is used is bound in its clause's head.
use Rattle.std.proofs.Common.{◌≡◌, refl, ap, sym, subst, ◌∙◌, suc, List, [], ◌∷◌, ◌||◌, length, map, ◌⊎◌, inl, inr, Bool, true, false}
use Rattle.std.specs.Prelude.{Option, Some, None, not, nat_eq}
use Rattle.std.specs.List.{list_any}
use Rattle.std.proofs.lemmas.Bool.{and_parts, and_from, eqb-true, eq-eqb, true≢false}
use Rattle.type_terms.specs.declared.term.Term.{Term}
use Rattle.type_terms.specs.declared.spec.Arrow.{Arrow}
use Rattle.type_terms.specs.declared.spec.FunSpec.{FunSpec}
use Rattle.type_terms.specs.Keys.{same_name}
use Rattle.type_terms.proofs.KeyLaws.{name-is, name-refl}
use Rattle.erl_tree.specs.Lists.{Every, Among, AreDistinct}
use Rattle.erl_tree.specs.Functions.{FunctionId, of_function, function_id, functions_in, function_ids, spec_clauses_arity}
use Rattle.erl_tree.specs.declared.token.Place.{Place}
use Rattle.erl_tree.specs.declared.token.Node.{Node}
use Rattle.erl_tree.specs.declared.form.Function.{Function}
use Rattle.erl_tree.specs.declared.form.SpecKind.{SpecKind}
use Rattle.erl_tree.specs.declared.form.SpecClauseKind.{SpecClauseKind}
use Rattle.erl_tree.specs.declared.form.TreeForm.{TreeForm}
use Rattle.erl_tree.specs.declared.form.TreeForm.TheVariants as F
use Rattle.erl_tree.specs.declared.form.Module.{Module}
use Rattle.erl_grammar.proofs.Layers.{each}
use Rattle.erl_runs.specs.Names.{same_id, is_built_in}
use Rattle.erl_runs.specs.Records.{records_of}
use Rattle.erl_runs.specs.Specs.{and_then, all_present, specified_id, specs_in, spec_id}
use Rattle.flat_modules.specs.FlatSpecs.{type_term, clause_arrow, arrows_arity, function_spec, specs_of, HasFlatSpecs}
use Rattle.erl_scope_rules.specs.declared.fault.NameFault.{NameFault}
use Rattle.erl_scope_rules.specs.declared.fault.NameFault.TheVariants.{NoSuchFunction, TwoFunctions, NoSpec}
use Rattle.erl_scope_rules.specs.Occurrences.{function_occurrences, forms_occurrences, occurrences_of}
use Rattle.erl_scope_rules.specs.ScopeFaults.{unless, faults_of_each, occurrence_faults, function_faults, specified_in, forms_faults, HasRightNames}
use Rattle.erl_scope_rules.proofs.OccurrenceLists.{faults_of_each-append}
use Rattle.flat_modules.specs.FlatNames.{IsScoped, HasRightFlatNames}
use Rattle.flat_modules.specs.Grammar.{IsForm, is_module_layer, IsWellFormed}
use Rattle.flat_modules.proofs.Lists.{every-so}
use Rattle.flat_modules.proofs.SeenVariables.{append-none, function-scoped}

-- ---- names and arities

id-is : (f g : FunctionId) → same_id f g ≡ true → f ≡ g
id-is f g h =
    let parts : (same_name f.name g.name ≡ true) × (nat_eq f.arity g.arity ≡ true) = and_parts _ _ h in
    λ j. of_function (name-is f.name g.name parts.0 j) (eqb-true f.arity g.arity parts.1 j)

id-refl : (f : FunctionId) → same_id f f ≡ true
id-refl f = and_from _ _ (name-refl f.name) (eq-eqb f.arity f.arity refl)

known-among : (id : FunctionId) (ids : List FunctionId) → list_any (same_id id) ids ≡ true → Among id ids
known-among id [] h = absurd (true≢false (sym h))
known-among id (x ∷ xs) h = go (same_id id x) refl h (known-among id xs)
  where
    go : (same : Bool) → same_id id x ≡ same → (same || list_any (same_id id) xs) ≡ true → (list_any (same_id id) xs ≡ true → Among id xs) → (id ≡ x) ⊎ Among id xs
    go true e h more = inl (id-is id x e)
    go false e h more = inr (more h)

pub none-among : (id : FunctionId) (ids : List FunctionId) → list_any (same_id id) ids ≡ false → Among id ids → ⊥
none-among id [] h i = i
none-among id (x ∷ xs) h i = go (same_id id x) refl h i (none-among id xs)
  where
    go : (same : Bool) → same_id id x ≡ same → (same || list_any (same_id id) xs) ≡ false → (id ≡ x) ⊎ Among id xs → (list_any (same_id id) xs ≡ false → Among id xs → ⊥) → ⊥
    go true e h i more = true≢false h
    go false e h (inl q) more = true≢false (sym (ap (same_id id) (sym q) ∙ id-refl id) ∙ e)
    go false e h (inr i) more = more h i

pub neither : (a b : Bool) → not (a || b) ≡ true → (a ≡ false) × (b ≡ false)
neither true b h = absurd (true≢false (sym h))
neither false true h = absurd (true≢false (sym h))
neither false false h = (refl, refl)

-- there is no fault only where the test holds
unless-none : (holds : Bool) (fault : NameFault) (place : Place) → unless holds fault place ≡ [] → holds ≡ true
unless-none true fault place h = refl
unless-none false fault place h = absurd (cc)

-- ---- functions and specs

module _ (m : Module) where
  -- what forms come to that stand behind functions with these names, where nothing is wrong with them
  record AreRightForms (before : List FunctionId) (forms : List TreeForm) : Type 0 where
    distinct : AreDistinct (map function_id (functions_in forms))
    other : Every (λ id. Among id before → ⊥) (map function_id (functions_in forms))
    not_built_in : Every (λ id. is_built_in id ≡ false) (map function_id (functions_in forms))
    specified : Every (λ id. Among id (specified_in m.forms)) (map function_id (functions_in forms))
    defined : Every (λ id. Among id (function_ids m)) (specified_in forms)

  with-function : (before : List FunctionId) (f : Function) (forms : List TreeForm) → function_faults (function_ids m) (records_of m) (specified_in m.forms) before f ≡ [] → AreRightForms (function_id f ∷ before) forms → AreRightForms before (F.Function f ∷ forms)
  with-function before f forms h more =
      let own : (unless (not (is_built_in (function_id f) || list_any (same_id (function_id f)) before)) TwoFunctions f.place ≡ []) × _ = append-none _ _ h in
      let spec : (unless (list_any (same_id (function_id f)) (specified_in m.forms)) NoSpec f.place ≡ []) × _ = append-none _ _ own.1 in
      let new : (is_built_in (function_id f) ≡ false) × (list_any (same_id (function_id f)) before ≡ false) = neither _ _ (unless-none _ TwoFunctions f.place own.0) in
      let others : List FunctionId = map function_id (functions_in forms) in
      record {
        distinct = ((λ i. each (λ id. Among id (function_id f ∷ before) → ⊥) others more.other (function_id f) i (inl refl)), more.distinct);
        other = (none-among (function_id f) before new.1, every-so (λ id. Among id (function_id f ∷ before) → ⊥) (λ id. Among id before → ⊥) others (λ id away i. away (inr i)) more.other);
        not_built_in = (new.0, more.not_built_in);
        specified = (known-among (function_id f) (specified_in m.forms) (unless-none _ NoSpec f.place spec.0), more.specified);
        defined = more.defined;
      }

  with-spec : (before : List FunctionId) (s : Node SpecKind) (forms : List TreeForm) → unless (list_any (same_id (specified_id s)) (function_ids m)) NoSuchFunction s.place ≡ [] → AreRightForms before forms → AreRightForms before (F.Spec s ∷ forms)
  with-spec before s forms h more = record {
    distinct = more.distinct;
    other = more.other;
    not_built_in = more.not_built_in;
    specified = more.specified;
    defined = (known-among (specified_id s) (function_ids m) (unless-none _ NoSuchFunction s.place h), more.defined);
  }

  right-forms : (before : List FunctionId) (forms : List TreeForm) → Every IsForm forms → forms_faults m before forms ≡ [] → AreRightForms before forms
  right-forms before [] w h = record { distinct = tt; other = tt; not_built_in = tt; specified = tt; defined = tt }
  right-forms before (F.Function f ∷ forms) w h =
      let parts : (function_faults (function_ids m) (records_of m) (specified_in m.forms) before f ≡ []) × (forms_faults m (function_id f ∷ before) forms ≡ []) = append-none _ _ h in
      with-function before f forms parts.0 (right-forms (function_id f ∷ before) forms w.1 parts.1)
  right-forms before (F.Spec s ∷ forms) w h =
      let parts : (unless (list_any (same_id (specified_id s)) (function_ids m)) NoSuchFunction s.place ≡ []) × (forms_faults m before forms ≡ []) = append-none _ _ h in
      with-spec before s forms parts.0 (right-forms before forms w.1 parts.1)
  right-forms before (_ ∷ forms) w h = absurd w.0

-- ---- the specs as trees and as terms

some-same : {A : Type 0} (a b : A) → Some a ≡ Some b → a ≡ b
some-same a b e = cc

-- what came before a value that came
before-some : {A B : Type 0} (o : Option A) (f : A → Option B) (b : B) → and_then o f ≡ Some b → (a : A) × (o ≡ Some a) × (f a ≡ Some b)
before-some None f b e = absurd (cc)
before-some (Some a) f b e = (a, refl, e)

present-length : {A B : Type 0} (f : A → Option B) (xs : List A) (ys : List B) → all_present (map f xs) ≡ Some ys → length ys ≡ length xs
present-length f [] ys e = ap length (sym (some-same [] ys e))
present-length f (x ∷ xs) ys e =
    let y : (y : _) × (f x ≡ Some y) × (and_then (all_present (map f xs)) (λ more. Some (y ∷ more)) ≡ Some ys) = before-some (f x) _ ys e in
    let r : (more : List _) × (all_present (map f xs) ≡ Some more) × (Some (y.0 ∷ more) ≡ Some ys) = before-some (all_present (map f xs)) _ ys y.2 in
    ap length (sym (some-same _ ys r.2)) ∙ ap suc (present-length f xs r.0 r.1)

arrow-length : (c : Node SpecClauseKind) (a : Arrow) → clause_arrow c ≡ Some a → length a.params ≡ length c.kind.params
arrow-length c a e =
    let p : (ps : List Term) × (all_present (map type_term c.kind.params) ≡ Some ps) × (and_then (type_term c.kind.result) (λ result. Some (record { params = ps; result = result })) ≡ Some a) = before-some _ _ a e in
    let r : (t : Term) × (type_term c.kind.result ≡ Some t) × (Some (record { params = p.0; result = t }) ≡ Some a) = before-some (type_term c.kind.result) _ a p.2 in
    ap (λ (z : Arrow). length z.params) (sym (some-same _ a r.2)) ∙ present-length type_term c.kind.params p.0 p.1

pub arrows-arity : (cs : List (Node SpecClauseKind)) (arrows : List Arrow) → all_present (map clause_arrow cs) ≡ Some arrows → arrows_arity arrows ≡ spec_clauses_arity cs
arrows-arity [] arrows e = ap arrows_arity (sym (some-same [] arrows e))
arrows-arity (c ∷ cs) arrows e =
    let a : (a : Arrow) × (clause_arrow c ≡ Some a) × (and_then (all_present (map clause_arrow cs)) (λ more. Some (a ∷ more)) ≡ Some arrows) = before-some (clause_arrow c) _ arrows e in
    let r : (more : List Arrow) × (all_present (map clause_arrow cs) ≡ Some more) × (Some (a.0 ∷ more) ≡ Some arrows) = before-some (all_present (map clause_arrow cs)) _ arrows a.2 in
    ap arrows_arity (sym (some-same _ arrows r.2)) ∙ arrow-length c a.0 a.1

name-read : (s : Node SpecKind) (f : FunSpec) → function_spec s ≡ Some f → spec_id f ≡ specified_id s
name-read s f e =
    let a : (arrows : List Arrow) × (all_present (map clause_arrow s.kind.clauses) ≡ Some arrows) × (Some (record { name = s.kind.name; arity = arrows_arity arrows; vars = 0; clauses = arrows }) ≡ Some f) = before-some _ _ f e in
    ap spec_id (sym (some-same _ f a.2)) ∙ ap (of_function s.kind.name) (arrows-arity s.kind.clauses a.0 a.1)

pub names-read : (ss : List (Node SpecKind)) (fs : List FunSpec) → all_present (map function_spec ss) ≡ Some fs → map spec_id fs ≡ map specified_id ss
names-read [] fs e = ap (map spec_id) (sym (some-same [] fs e))
names-read (s ∷ ss) fs e =
    let f : (f : FunSpec) × (function_spec s ≡ Some f) × (and_then (all_present (map function_spec ss)) (λ more. Some (f ∷ more)) ≡ Some fs) = before-some (function_spec s) _ fs e in
    let r : (more : List FunSpec) × (all_present (map function_spec ss) ≡ Some more) × (Some (f.0 ∷ more) ≡ Some fs) = before-some (all_present (map function_spec ss)) _ fs f.2 in
    ap (map spec_id) (sym (some-same _ fs r.2)) ∙ (ap (λ id. id ∷ map spec_id r.0) (name-read s f.0 f.1) ∙ ap (λ ids. specified_id s ∷ ids) (names-read ss r.0 r.1))

specified-names : (forms : List TreeForm) → specified_in forms ≡ map specified_id (specs_in forms)
specified-names [] = refl
specified-names (F.Spec s ∷ forms) = ap (λ ids. specified_id s ∷ ids) (specified-names forms)
specified-names (_ ∷ forms) = specified-names forms

-- ---- modules

functions-scoped : (forms : List TreeForm) → Every IsForm forms → faults_of_each occurrence_faults (forms_occurrences forms) ≡ [] → Every IsScoped (functions_in forms)
functions-scoped [] w h = tt
functions-scoped (F.Function f ∷ forms) w h =
    let parts : (faults_of_each occurrence_faults (function_occurrences f) ≡ []) × (faults_of_each occurrence_faults (forms_occurrences forms) ≡ []) = append-none _ _ (sym (faults_of_each-append occurrence_faults (function_occurrences f) (forms_occurrences forms)) ∙ h) in
    (function-scoped f w.0 parts.0, functions-scoped forms w.1 parts.1)
functions-scoped (F.Spec s ∷ forms) w h = functions-scoped forms w.1 h
functions-scoped (_ ∷ forms) w h = absurd w.0

forms_formed : (forms : List TreeForm) (ms : List Place) → is_module_layer forms ms → Every IsForm forms
forms_formed forms (h ∷ m ∷ o ∷ n ∷ c ∷ d ∷ e ∷ []) i = i
forms_formed forms _ i = absurd i

pub forms-formed : (m : Module) → IsWellFormed m → Every IsForm m.forms
unfolding IsWellFormed
forms-formed m w = forms_formed m.forms m.marks w

pub right-flat-names : (m : Module) → IsWellFormed m → HasRightNames m → HasFlatSpecs m → HasRightFlatNames m
right-flat-names m w r s =
    let parts : (faults_of_each occurrence_faults (occurrences_of m) ≡ []) × (forms_faults m [] m.forms ≡ []) = append-none _ _ r in
    let right : AreRightForms m [] m.forms = right-forms m [] m.forms (forms-formed m w) parts.1 in
    let named : map spec_id (specs_of m) ≡ specified_in m.forms = names-read (specs_in m.forms) (specs_of m) s.specs_read ∙ sym (specified-names m.forms) in
    record {
      functions_distinct = right.distinct;
      not_built_in = right.not_built_in;
      specified = subst (λ ids. Every (λ id. Among id ids) (function_ids m)) (sym named) right.specified;
      defined = subst (Every (λ id. Among id (function_ids m))) (sym named) right.defined;
      scoped = functions-scoped m.forms (forms-formed m w) parts.0;
    }
