-- Each function of a readable module has one spec, whose clauses are its arrows.
use Rattle.std.proofs.Common.{◌≡◌, refl, ap, sym, subst, ◌∙◌, ℕ, ◌+◌, ◌<◌, List, [], ◌∷◌, ◌++◌, ◌||◌, length, map, ◌⊎◌, inl, inr, Bool, true, false, arith}
use Rattle.std.specs.Prelude.{Option, Some, None, not, nat_eq}
use Rattle.std.specs.Option.{option_map}
use Rattle.std.specs.List.{list_any}
use Rattle.std.proofs.lemmas.Bool.{and_parts, and_from, eqb-true, eq-eqb, true≢false}
use Rattle.std.proofs.lemmas.List.{append-nil}
use Rattle.type_terms.specs.Keys.{same_name}
use Rattle.type_terms.specs.declared.spec.Arrow.{Arrow}
use Rattle.type_terms.specs.declared.spec.FunSpec.{FunSpec}
use Rattle.type_terms.proofs.Contained.{contains-first, contains-later}
use Rattle.type_terms.proofs.KeyLaws.{name-is, name-refl}
use Rattle.erl_tree.specs.declared.token.Node.{Node}
use Rattle.erl_tree.specs.declared.token.Place.{Place}
use Rattle.erl_tree.specs.declared.form.Function.{Function}
use Rattle.erl_tree.specs.declared.form.SpecKind.{SpecKind}
use Rattle.erl_tree.specs.declared.form.SpecClauseKind.{SpecClauseKind}
use Rattle.erl_tree.specs.declared.form.TreeForm.{TreeForm}
use Rattle.erl_tree.specs.declared.form.TreeForm.TheVariants as F
use Rattle.erl_tree.specs.declared.form.Module.{Module}
use Rattle.erl_tree.specs.Functions.{FunctionId, of_function, function_id, functions_in, functions_of, function_ids, spec_clauses_arity}
use Rattle.erl_tree.specs.Lists.{Among, AreDistinct}
use Rattle.erl_grammar.specs.FormGrammar.{IsSpec, spec, IsForm, spec_form, IsModule, module_of}
use Rattle.erl_runs.specs.Membership.{arrows_if, arrows_of}
use Rattle.erl_runs.specs.Names.{same_id, is_built_in}
use Rattle.erl_runs.specs.Records.{records_of}
use Rattle.erl_runs.specs.Specs.{and_then, specs_in, specified_id, spec_id}
use Rattle.erl_scope_rules.specs.declared.fault.NameFault.{NameFault}
use Rattle.erl_scope_rules.specs.declared.fault.NameFault.TheVariants.{TwoFunctions, NoSpec}
use Rattle.erl_scope_rules.specs.ScopeFaults as N
use Rattle.erl_scope_rules.specs.ScopeFaults.{specified_in, HasRightNames}
use Rattle.typespecs_rules.specs.Declarations.{Declarations, declarations_of}
use Rattle.typespecs_rules.specs.declared.fault.TypeFault.{TypeFault}
use Rattle.typespecs_rules.specs.declared.fault.TypeFault.TheVariants.{Repeated}
use Rattle.typespecs_rules.specs.declared.specs.Specs.{Specs}
use Rattle.typespecs_rules.specs.SpecTerms.{definitions, held_variables, clause_arrow, arrows_from, variables_in, function_spec, function_specs, module_specs}
use Rattle.typespecs_rules.specs.TypeFaults as T
use Rattle.typespecs_rules.specs.TypeFaults.{Behind, behind, spec_form_faults, clauses_faults, listed_faults, at_one_place}
use Rattle.text_reader_rules.specs.Readable.{IsReadable}
use Rattle.text_reader_laws.specs.EachFunction.{HasArrow, HasItsArrows}

-- ---- lists and options

append-none : {A : Type 0} (xs ys : List A) → xs ++ ys ≡ [] → (xs ≡ []) × (ys ≡ [])
append-none [] ys h = (refl, h)
append-none (x ∷ xs) ys h = absurd (cc)

empty : {A : Type 0} (xs : List A) → ((x : A) → Among x xs → ⊥) → xs ≡ []
empty [] h = refl
empty (x ∷ xs) h = absurd (h x (inl refl))

among-map : {A B : Type 0} (f : A → B) (x : A) (xs : List A) → Among x xs → Among (f x) (map f xs)
among-map f x [] a = absurd a
among-map f x (y ∷ ys) (inl e) = inl (ap f e)
among-map f x (y ∷ ys) (inr a) = inr (among-map f x ys a)

map-among : {A B : Type 0} (f : A → B) (y : B) (xs : List A) → Among y (map f xs) → (x : A) × Among x xs × (f x ≡ y)
map-among f y [] a = absurd a
map-among f y (x ∷ xs) (inl e) = (x, inl refl, sym e)
map-among f y (x ∷ xs) (inr a) = let r : (x : _) × Among x xs × (f x ≡ y) = map-among f y xs a in (r.0, inr r.1, r.2)

some-same : {A : Type 0} (a b : A) → Some a ≡ Some b → a ≡ b
some-same a b e = cc

-- what came before a value that came
before-some : {A B : Type 0} (o : Option A) (f : A → Option B) (b : B) → and_then o f ≡ Some b → (a : A) × (o ≡ Some a) × (f a ≡ Some b)
before-some None f b e = absurd (cc)
before-some (Some a) f b e = (a, refl, e)

before-mapped : {A B : Type 0} (f : A → B) (o : Option A) (b : B) → option_map f o ≡ Some b → (a : A) × (o ≡ Some a) × (f a ≡ b)
before-mapped f None b e = absurd (cc)
before-mapped f (Some a) b e = (a, refl, some-same (f a) b e)

-- ---- names and arities

id-is : (f g : FunctionId) → same_id f g ≡ true → f ≡ g
id-is f g h =
    let parts : (same_name f.name g.name ≡ true) × (nat_eq f.arity g.arity ≡ true) = and_parts _ _ h in
    λ j. of_function (name-is f.name g.name parts.0 j) (eqb-true f.arity g.arity parts.1 j)

id-refl : (f : FunctionId) → same_id f f ≡ true
id-refl f = and_from _ _ (name-refl f.name) (eq-eqb f.arity f.arity refl)

not-same : (f g : FunctionId) → (f ≡ g → ⊥) → same_id f g ≡ false
not-same f g away = go (same_id f g) refl
  where
    go : (same : Bool) → same_id f g ≡ same → same_id f g ≡ false
    go true e = absurd (away (id-is f g e))
    go false e = e

known-among : (id : FunctionId) (ids : List FunctionId) → list_any (same_id id) ids ≡ true → Among id ids
known-among id [] h = absurd (true≢false (sym h))
known-among id (x ∷ xs) h = go (same_id id x) refl h (known-among id xs)
  where
    go : (same : Bool) → same_id id x ≡ same → (same || list_any (same_id id) xs) ≡ true → (list_any (same_id id) xs ≡ true → Among id xs) → (id ≡ x) ⊎ Among id xs
    go true e h more = inl (id-is id x e)
    go false e h more = inr (more h)

none-among : (id : FunctionId) (ids : List FunctionId) → list_any (same_id id) ids ≡ false → Among id ids → ⊥
none-among id [] h i = i
none-among id (x ∷ xs) h i = go (same_id id x) refl h i (none-among id xs)
  where
    go : (same : Bool) → same_id id x ≡ same → (same || list_any (same_id id) xs) ≡ false → (id ≡ x) ⊎ Among id xs → (list_any (same_id id) xs ≡ false → Among id xs → ⊥) → ⊥
    go true e h i more = true≢false h
    go false e h (inl q) more = true≢false (sym (ap (same_id id) (sym q) ∙ id-refl id) ∙ e)
    go false e h (inr i) more = more h i

-- ---- each function has a spec

unless-none : (holds : Bool) (fault : NameFault) (place : Place) → N.unless holds fault place ≡ [] → holds ≡ true
unless-none true fault place h = refl
unless-none false fault place h = absurd (cc)

specified-names : (forms : List TreeForm) → specified_in forms ≡ map specified_id (specs_in forms)
specified-names [] = refl
specified-names (F.Spec s ∷ forms) = ap (λ ids. specified_id s ∷ ids) (specified-names forms)
specified-names (F.Export x ∷ forms) = specified-names forms
specified-names (F.RecDef x ∷ forms) = specified-names forms
specified-names (F.TypeDef x ∷ forms) = specified-names forms
specified-names (F.Skipped x ∷ forms) = specified-names forms
specified-names (F.Function x ∷ forms) = specified-names forms

module _ (m : Module) where
  function-right : (before : List FunctionId) (f : Function) → N.function_faults (function_ids m) (records_of m) (specified_in m.forms) before f ≡ [] → Among (function_id f) (specified_in m.forms)
  function-right before f h =
      let own : (N.unless (not (is_built_in (function_id f) || list_any (same_id (function_id f)) before)) TwoFunctions f.place ≡ []) × _ = append-none _ _ h in
      let spec : (N.unless (list_any (same_id (function_id f)) (specified_in m.forms)) NoSpec f.place ≡ []) × _ = append-none _ _ own.1 in
      known-among (function_id f) (specified_in m.forms) (unless-none _ NoSpec f.place spec.0)

  is-specified : (before : List FunctionId) (forms : List TreeForm) → N.forms_faults m before forms ≡ [] → (f : Function) → Among f (functions_in forms) → Among (function_id f) (specified_in m.forms)
  is-specified before [] h f a = absurd a
  is-specified before (F.Function g ∷ forms) h f (inl e) = function-right before f (ap (λ g. N.function_faults (function_ids m) (records_of m) (specified_in m.forms) before g) e ∙ (append-none (N.form_faults (function_ids m) (records_of m) (specified_in m.forms) before (F.Function g)) _ h).0)
  is-specified before (F.Function g ∷ forms) h f (inr a) = is-specified (function_id g ∷ before) forms (append-none (N.form_faults (function_ids m) (records_of m) (specified_in m.forms) before (F.Function g)) _ h).1 f a
  is-specified before (F.Spec x ∷ forms) h f a = is-specified before forms (append-none (N.form_faults (function_ids m) (records_of m) (specified_in m.forms) before (F.Spec x)) _ h).1 f a
  is-specified before (F.Export x ∷ forms) h f a = is-specified before forms (append-none (N.form_faults (function_ids m) (records_of m) (specified_in m.forms) before (F.Export x)) _ h).1 f a
  is-specified before (F.RecDef x ∷ forms) h f a = is-specified before forms (append-none (N.form_faults (function_ids m) (records_of m) (specified_in m.forms) before (F.RecDef x)) _ h).1 f a
  is-specified before (F.TypeDef x ∷ forms) h f a = is-specified before forms (append-none (N.form_faults (function_ids m) (records_of m) (specified_in m.forms) before (F.TypeDef x)) _ h).1 f a
  is-specified before (F.Skipped x ∷ forms) h f a = is-specified before forms (append-none (N.form_faults (function_ids m) (records_of m) (specified_in m.forms) before (F.Skipped x)) _ h).1 f a

-- ---- no function has two

unless-not : (holds : Bool) (fault : TypeFault) (place : Place) → T.unless (not holds) fault place ≡ [] → holds ≡ false
unless-not false fault place h = refl
unless-not true fault place h = absurd (cc)

-- specs are of different functions, and of others than those before
record AreNew (before : List FunctionId) (forms : List TreeForm) : Type 0 where
  distinct : AreDistinct (map specified_id (specs_in forms))
  other : (id : FunctionId) → Among id (map specified_id (specs_in forms)) → Among id before → ⊥

module _ (declared : Declarations) where
  with-spec : (before : List FunctionId) (s : Node SpecKind) (forms : List TreeForm) → spec_form_faults declared before s ≡ [] → AreNew (specified_id s ∷ before) forms → AreNew before (F.Spec s ∷ forms)
  with-spec before s forms h more =
      let own : (T.unless (not (list_any (same_id (specified_id s)) before)) Repeated s.place ≡ []) × (clauses_faults declared s.kind.clauses ≡ []) = append-none _ _ h in
      let new : Among (specified_id s) before → ⊥ = none-among (specified_id s) before (unless-not _ Repeated s.place own.0) in
      record {
        distinct = ((λ i. more.other (specified_id s) i (inl refl)), more.distinct);
        other = λ id i j. elim i [ inl e ↦ new (subst (λ x. Among x before) e j) | inr k ↦ more.other id k (inr j) ];
      }

  passed : (before : List FunctionId) (forms more : List TreeForm) → specs_in more ≡ specs_in forms → AreNew before forms → AreNew before more
  passed before forms more e n = record {
    distinct = subst (λ ss. AreDistinct (map specified_id ss)) (sym e) n.distinct;
    other = λ id i. n.other id (subst (λ ss. Among id (map specified_id ss)) e i);
  }

  new-specs : (b : Behind) (forms : List TreeForm) → T.forms_faults declared b forms ≡ [] → AreNew b.specs forms
  new-specs b [] h = record { distinct = tt; other = λ id i j. i }
  new-specs b (F.Spec s ∷ forms) h =
      let parts : (spec_form_faults declared b.specs s ≡ []) × (T.forms_faults declared (behind (F.Spec s) b) forms ≡ []) = append-none _ _ h in
      with-spec b.specs s forms parts.0 (new-specs (behind (F.Spec s) b) forms parts.1)
  new-specs b (F.TypeDef d ∷ forms) h = passed b.specs forms (F.TypeDef d ∷ forms) refl (new-specs (behind (F.TypeDef d) b) forms (append-none (T.form_faults declared b (F.TypeDef d)) _ h).1)
  new-specs b (F.RecDef r ∷ forms) h = passed b.specs forms (F.RecDef r ∷ forms) refl (new-specs (behind (F.RecDef r) b) forms (append-none (T.form_faults declared b (F.RecDef r)) _ h).1)
  new-specs b (F.Export x ∷ forms) h = passed b.specs forms (F.Export x ∷ forms) refl (new-specs b forms h)
  new-specs b (F.Skipped x ∷ forms) h = passed b.specs forms (F.Skipped x ∷ forms) refl (new-specs b forms h)
  new-specs b (F.Function x ∷ forms) h = passed b.specs forms (F.Function x ∷ forms) refl (new-specs b forms h)

-- specs with one name and arity are one
one-spec : (ss : List (Node SpecKind)) → AreDistinct (map specified_id ss) → (s t : Node SpecKind) → Among s ss → Among t ss → specified_id s ≡ specified_id t → s ≡ t
one-spec [] d s t a b e = absurd a
one-spec (x ∷ xs) d s t (inl p) (inl q) e = p ∙ sym q
one-spec (x ∷ xs) d s t (inl p) (inr b) e = absurd (d.0 (subst (λ id. Among id (map specified_id xs)) (sym e ∙ ap specified_id p) (among-map specified_id t xs b)))
one-spec (x ∷ xs) d s t (inr a) (inl q) e = absurd (d.0 (subst (λ id. Among id (map specified_id xs)) (e ∙ ap specified_id q) (among-map specified_id s xs a)))
one-spec (x ∷ xs) d s t (inr a) (inr b) e = one-spec xs d.1 s t a b e

-- ---- arrows

module _ (declared : Declarations) where
  -- the spec of a function, and its arrows
  spec-parts : (s : Node SpecKind) (f : FunSpec) → function_spec declared s.kind ≡ Some f → (spec_id f ≡ specified_id s) × (arrows_from declared 0 s.kind.clauses ≡ Some f.clauses)
  spec-parts s f e =
      let a : (arrows : List Arrow) × (arrows_from declared 0 s.kind.clauses ≡ Some arrows) × (record { name = s.kind.name; arity = spec_clauses_arity s.kind.clauses; vars = variables_in declared s.kind.clauses; clauses = arrows } ≡ f) = before-mapped _ _ f e in
      (ap spec_id (sym a.2), a.1 ∙ ap (λ (g : FunSpec). Some g.clauses) a.2)

  -- the first of some specs, and the others
  first-spec : (s : Node SpecKind) (ss : List (Node SpecKind)) (fs : List FunSpec) → function_specs declared (s ∷ ss) ≡ Some fs → (f : FunSpec) × (more : List FunSpec) × (function_spec declared s.kind ≡ Some f) × (function_specs declared ss ≡ Some more) × (f ∷ more ≡ fs)
  first-spec s ss fs e =
      let f : (f : FunSpec) × (function_spec declared s.kind ≡ Some f) × (and_then (function_specs declared ss) (λ more. Some (f ∷ more)) ≡ Some fs) = before-some _ _ fs e in
      let r : (more : List FunSpec) × (function_specs declared ss ≡ Some more) × (Some (f.0 ∷ more) ≡ Some fs) = before-some _ _ fs f.2 in
      (f.0, r.0, f.1, r.1, some-same _ fs r.2)

  arrows-none : (id : FunctionId) (ss : List (Node SpecKind)) (fs : List FunSpec) → function_specs declared ss ≡ Some fs → (Among id (map specified_id ss) → ⊥) → arrows_of fs id.name id.arity ≡ []
  arrows-none id [] fs e away = ap (λ (fs : List FunSpec). arrows_of fs id.name id.arity) (sym (some-same [] fs e))
  arrows-none id (s ∷ ss) fs e away =
      let p : _ = first-spec s ss fs e in
      let other : same_id (spec_id p.0) id ≡ false = ap (λ i. same_id i id) (spec-parts s p.0 p.2).0 ∙ not-same (specified_id s) id (λ q. away (inl (sym q))) in
      ap (λ (fs : List FunSpec). arrows_of fs id.name id.arity) (sym p.4) ∙ ((λ j. arrows_if (other j) p.0.clauses ++ arrows_of p.1 id.name id.arity) ∙ arrows-none id ss p.1 p.3 (λ i. away (inr i)))

  arrows-found : (ss : List (Node SpecKind)) (fs : List FunSpec) → function_specs declared ss ≡ Some fs → AreDistinct (map specified_id ss) → (s : Node SpecKind) → Among s ss → arrows_from declared 0 s.kind.clauses ≡ Some (arrows_of fs (specified_id s).name (specified_id s).arity)
  arrows-found [] fs e d s a = absurd a
  arrows-found (t ∷ ss) fs e d s (inl q) =
      let p : _ = first-spec t ss fs e in
      let id : FunctionId = specified_id s in
      let parts : (spec_id p.0 ≡ specified_id t) × (arrows_from declared 0 t.kind.clauses ≡ Some p.0.clauses) = spec-parts t p.0 p.2 in
      let same : same_id (spec_id p.0) id ≡ true = ap (λ i. same_id i id) (parts.0 ∙ sym (ap specified_id q)) ∙ id-refl id in
      let others : arrows_of p.1 id.name id.arity ≡ [] = arrows-none id ss p.1 p.3 (subst (λ i. Among i (map specified_id ss) → ⊥) (sym (ap specified_id q)) d.0) in
      ap (λ (s : Node SpecKind). arrows_from declared 0 s.kind.clauses) q ∙ (parts.1 ∙ ap (λ arrows. Some arrows) (sym (ap (λ (fs : List FunSpec). arrows_of fs id.name id.arity) (sym p.4) ∙ ((λ j. arrows_if (same j) p.0.clauses ++ others j) ∙ append-nil p.0.clauses))))
  arrows-found (t ∷ ss) fs e d s (inr a) =
      let p : _ = first-spec t ss fs e in
      let id : FunctionId = specified_id s in
      let other : same_id (spec_id p.0) id ≡ false = ap (λ i. same_id i id) (spec-parts t p.0 p.2).0 ∙ not-same (specified_id t) id (λ q. d.0 (subst (λ i. Among i (map specified_id ss)) (sym q) (among-map specified_id s ss a))) in
      arrows-found ss p.1 p.3 d.1 s a ∙ ap (λ arrows. Some arrows) (sym (ap (λ (fs : List FunSpec). arrows_of fs id.name id.arity) (sym p.4) ∙ (λ j. arrows_if (other j) p.0.clauses ++ arrows_of p.1 id.name id.arity)))

  every-clause : (first : ℕ) (cs : List (Node SpecClauseKind)) (arrows : List Arrow) → arrows_from declared first cs ≡ Some arrows → (c : Node SpecClauseKind) → Among c cs → HasArrow declared c arrows
  every-clause first [] arrows e c a = absurd a
  every-clause first (d ∷ cs) arrows e c a =
      let x : (x : Arrow) × (clause_arrow declared first d.kind ≡ Some x) × (option_map (λ more. x ∷ more) (arrows_from declared (first + length (held_variables declared d.kind)) cs) ≡ Some arrows) = before-some _ _ arrows e in
      let r : (more : List Arrow) × (arrows_from declared (first + length (held_variables declared d.kind)) cs ≡ Some more) × (x.0 ∷ more ≡ arrows) = before-mapped _ _ arrows x.2 in
      subst (λ arrows. HasArrow declared c arrows) r.2 (here x.0 r.0 x.1 a (every-clause (first + length (held_variables declared d.kind)) cs r.0 r.1 c))
    where
      here : (x : Arrow) (more : List Arrow) → clause_arrow declared first d.kind ≡ Some x → (c ≡ d) ⊎ Among c cs → (Among c cs → HasArrow declared c more) → HasArrow declared c (x ∷ more)
      here x more q (inl p) h = record { first = first; arrow = x; meant = ap (λ (c : Node SpecClauseKind). clause_arrow declared first c.kind) p ∙ q; among = contains-first x more }
      here x more q (inr b) h = let k : HasArrow declared c more = h b in record { first = k.first; arrow = k.arrow; meant = k.meant; among = contains-later x k.arrow more k.among }

-- ---- clauses of a well-formed spec

spec-among : (s : Node SpecKind) (forms : List TreeForm) → Among s (specs_in forms) → Among (F.Spec s) forms
spec-among s [] a = absurd a
spec-among s (F.Spec t ∷ forms) (inl e) = inl (ap F.Spec e)
spec-among s (F.Spec t ∷ forms) (inr a) = inr (spec-among s forms a)
spec-among s (F.Export x ∷ forms) a = inr (spec-among s forms a)
spec-among s (F.RecDef x ∷ forms) a = inr (spec-among s forms a)
spec-among s (F.TypeDef x ∷ forms) a = inr (spec-among s forms a)
spec-among s (F.Skipped x ∷ forms) a = inr (spec-among s forms a)
spec-among s (F.Function x ∷ forms) a = inr (spec-among s forms a)

spec-formed : (s : Node SpecKind) → IsForm (F.Spec s) → IsSpec s
spec-formed _ (spec_form s h) = h

some-clause : (s : Node SpecKind) → IsSpec s → 0 < length s.kind.clauses
some-clause _ (spec h w n p ms name c cs a k) = omega arith

module-forms : (m : Module) → IsModule m → (f : TreeForm) → Among f m.forms → IsForm f
module-forms _ (module_of h w o n c d e name forms k) = k

-- ---- the law

module-functions : (m : Module) (s : Specs) → module_specs m ≡ Some s → function_specs (declarations_of m) (specs_in m.forms) ≡ Some s.functions
module-functions m s e =
    let a : _ = before-some (definitions (declarations_of m)) _ s e in
    let b : _ = before-mapped _ (function_specs (declarations_of m) (specs_in m.forms)) s a.2 in
    b.1 ∙ ap (λ (x : Specs). Some x.functions) b.2

pub its-arrows : (m : Module) → IsModule m → (r : IsReadable m) (f : Function) → Among f (functions_of m) → HasItsArrows m r.specs.functions f
its-arrows m formed r f a =
    let names : N.forms_faults m [] m.forms ≡ [] = (append-none _ _ r.right_names).1 in
    let found : (s : Node SpecKind) × Among s (specs_in m.forms) × (specified_id s ≡ function_id f) = map-among specified_id (function_id f) (specs_in m.forms) (subst (λ ids. Among (function_id f) ids) (specified-names m.forms) (is-specified m [] m.forms names f a)) in
    let listed : listed_faults m ≡ [] = empty (listed_faults m) (λ x i. r.has_specs.terms.no_fault x (at_one_place x i)) in
    let new : AreNew [] m.forms = new-specs (declarations_of m) (record { types = []; records = []; specs = [] }) m.forms listed in
    let functions : function_specs (declarations_of m) (specs_in m.forms) ≡ Some r.specs.functions = module-functions m r.specs r.has_specs.terms.terms in
    let arrows : arrows_from (declarations_of m) 0 found.0.kind.clauses ≡ Some (arrows_of r.specs.functions (function_id f).name (function_id f).arity) = arrows-found (declarations_of m) (specs_in m.forms) r.specs.functions functions new.distinct found.0 found.1 ∙ ap (λ (id : FunctionId). Some (arrows_of r.specs.functions id.name id.arity)) found.2 in
    record {
      spec = found.0;
      written = found.1;
      for_function = found.2;
      only = λ other i e. one-spec (specs_in m.forms) new.distinct other found.0 i found.1 (e ∙ sym found.2);
      some_clause = some-clause found.0 (spec-formed found.0 (module-forms m formed (F.Spec found.0) (spec-among found.0 m.forms found.1)));
      every_clause = every-clause (declarations_of m) 0 found.0.kind.clauses _ arrows;
      arrows = arrows;
    }
