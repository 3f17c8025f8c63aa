-- A table of the specs among a module's forms, and the arrow that it leads to for each function.
use Rattle.std.proofs.Common.{◌≡◌, refl, sym, ◌∙◌, ap, subst, ◌⊎◌, inl, inr, ℕ, zero, suc, ◌+◌, ◌<◌, List, [], ◌∷◌, ◌++◌, length, arith}
use Rattle.std.specs.Prelude.{Bool, true, false, ◌&&◌, Option, Some, map, nat_eq, slice_get}
use Rattle.std.proofs.lemmas.Bool.{and_parts, eqb-true, eq-eqb}
use Rattle.std.proofs.lemmas.Option.{slice_get_within}
use Rattle.std.proofs.lemmas.List.{append-nil}
use Rattle.type_terms.specs.declared.term.Term.{Term}
use Rattle.type_terms.specs.declared.spec.Arrow.{Arrow}
use Rattle.type_terms.specs.declared.spec.FunSpec.{FunSpec}
use Rattle.type_terms.specs.Keys.{Name, same_name}
use Rattle.type_terms.proofs.KeyLaws.{name-refl, name-is}
use Rattle.erl_tree.specs.declared.token.Node.{Node}
use Rattle.erl_tree.specs.declared.form.SpecKind.{SpecKind}
use Rattle.erl_tree.specs.declared.form.SpecClauseKind.{SpecClauseKind}
use Rattle.erl_tree.specs.declared.form.Function.{Function}
use Rattle.erl_tree.specs.declared.form.TreeForm.{TreeForm}
use Rattle.erl_tree.specs.declared.form.TreeForm.TheVariants as F
use Rattle.erl_tree.specs.declared.form.Module.{Module}
use Rattle.erl_tree.specs.Lists.{Every, Among, AreDistinct}
use Rattle.erl_tree.specs.Functions.{FunctionId, clauses_arity, function_id, functions_of, function_ids, of_function, spec_clauses_arity}
use Rattle.erl_runs.specs.Specs.{and_then, all_present, specs_in, spec_id, specified_id}
use Rattle.flat_modules.specs.FlatSpecs.{type_term, clause_arrow, function_spec, specs_of}
use Rattle.flat_modules.specs.Grammar.{IsSpec, IsSpecClause}
use Rattle.flat_modules.specs.FlatModules.{IsFlatModule}
use Rattle.flat_modules.proofs.FlatLaws.{flat-formed, flat-names}
use Rattle.erl_runs.specs.Membership.{arrows_if, arrows_of}
use Rattle.name_table.specs.Table.{Entry, ids, IsInsertion}
use Rattle.cert_checker.specs.SpecTables.{HoldsSpecs, Adds, IsFirstArrow, IsArrowAt}
use Rattle.cert_checker.proofs.Lists.{every-at, among-map, then-some, none-some, some-inj}
use Rattle.cert_checker.proofs.Parts.{HasOneArrow, one-arrow-each, arrow-arity, well_formed-forms, forms-specs, spec-clause, arrow-spec}
use Rattle.std.specs.List.{Contains}
use Rattle.type_terms.proofs.Contained.{contains-first}

-- ---- making a table

among-push : (es : List Entry) (x e : Entry) → Among e (es ++ x ∷ []) → Among e es ⊎ (e ≡ x)
among-push [] x e (inl q) = inr q
among-push [] x e (inr a) = absurd a
among-push (y ∷ es) x e (inl q) = inl (inl q)
among-push (y ∷ es) x e (inr a) = elim (among-push es x e a) [ inl b ↦ inl (inr b) | inr q ↦ inr q ]

ids-kept : (es : List Entry) (x : Entry) (id : FunctionId) → Among id (ids es) → Among id (ids (es ++ x ∷ []))
ids-kept [] x id a = absurd a
ids-kept (y ∷ es) x id (inl q) = inl q
ids-kept (y ∷ es) x id (inr a) = inr (ids-kept es x id a)

ids-added : (es : List Entry) (x : Entry) → Among x.0 (ids (es ++ x ∷ []))
ids-added [] x = inl refl
ids-added (y ∷ es) x = inr (ids-added es x)

pub insertion-adds : (added : Bool) (old new : List Entry) (s : Node SpecKind) (number : ℕ) → IsInsertion added old (specified_id s) number new → Adds (F.Spec s) number old new
insertion-adds true old new s number h = subst (λ z. Adds (F.Spec s) number old z) (sym h.1) ((λ e a. among-push old (specified_id s, number) e a), (λ id a. ids-kept old (specified_id s, number) id a), ids-added old (specified_id s, number))
insertion-adds false old new s number h = subst (λ z. Adds (F.Spec s) number old z) (sym h.1) ((λ e a. inl a), (λ id a. a), h.0)

entry-id : (id id' : FunctionId) (k k' : ℕ) → ◌≡◌ {A = Entry} (id, k) (id', k') → id ≡ id'
entry-id id id' k k' q = ap (λ (z : FunctionId × ℕ). z.0) q

entry-place : (id id' : FunctionId) (k k' : ℕ) → ◌≡◌ {A = Entry} (id, k) (id', k') → k ≡ k'
entry-place id id' k k' q = ap (λ (z : FunctionId × ℕ). z.1) q

below : (k i : ℕ) → k < i + 1 → nat_eq k i ≡ false → k < i
below k i l s = grind (arith)

-- either an earlier form, or the last one
last-case : (k i : ℕ) → k < i + 1 → (k < i) ⊎ (k ≡ i)
last-case k i l = go (nat_eq k i) refl
  where
    go : (b : Bool) → nat_eq k i ≡ b → (k < i) ⊎ (k ≡ i)
    go true e = inr (eqb-true k i e)
    go false e = inl (below k i l e)

spec-inj : (s t : Node SpecKind) → F.Spec s ≡ F.Spec t → s ≡ t
spec-inj s t e = cc

pub holds-more : (forms : List TreeForm) (old new : List Entry) (form : TreeForm) (i : ℕ) → HoldsSpecs forms i old → slice_get forms i ≡ Some form → Adds form i old new → HoldsSpecs forms (i + 1) new
holds-more forms old new (F.Spec s) i h at adds = record {
  sound = λ id k a. elim (adds.0 (id, k) a) [ inl b ↦ h.sound id k b | inr q ↦ (s, ap (slice_get forms) (entry-place id (specified_id s) k i q) ∙ at, sym (entry-id id (specified_id s) k i q)) ];
  complete = λ k t l e. elim (last-case k i l) [ inl b ↦ adds.1 (specified_id t) (h.complete k t b e) | inr q ↦ subst (λ z. Among (specified_id z) (ids new)) (spec-inj s t (some-inj _ _ (sym at ∙ (ap (slice_get forms) (sym q) ∙ e)))) adds.2 ];
}
holds-more forms old new form i h at adds = other form at adds (λ s e. cc)
  where
    other : (form : TreeForm) → slice_get forms i ≡ Some form → new ≡ old → ((s : Node SpecKind) → form ≡ F.Spec s → ⊥) → HoldsSpecs forms (i + 1) new
    other form at e absent = subst (λ z. HoldsSpecs forms (i + 1) z) (sym e) (record {
      sound = h.sound;
      complete = λ k t l f. elim (last-case k i l) [ inl b ↦ h.complete k t b f | inr q ↦ absurd (absent t (some-inj _ _ (sym at ∙ (ap (slice_get forms) (sym q) ∙ f)))) ];
    })

-- ---- the specs of a module, as trees and as terms

present-length : {A B : Type 0} (f : A → Option B) (xs : List A) (ys : List B) → all_present (map f xs) ≡ Some ys → length ys ≡ length xs
present-length f [] ys e = ap length (sym (some-inj [] ys e))
present-length f (x ∷ xs) ys e =
    let y : (y : _) × (f x ≡ Some y) × (and_then (all_present (map f xs)) (λ more. Some (y ∷ more)) ≡ Some ys) = then-some (f x) _ ys e in
    let r : (more : List _) × (all_present (map f xs) ≡ Some more) × (Some (y.0 ∷ more) ≡ Some ys) = then-some (all_present (map f xs)) _ ys y.2 in
    ap length (sym (some-inj _ ys r.2)) ∙ ap suc (present-length f xs r.0 r.1)

arrow-length : (c : Node SpecClauseKind) (a : Arrow) → clause_arrow c ≡ Some a → length a.params ≡ length c.kind.params
arrow-length c a e =
    let p : (ps : List Term) × (all_present (map type_term c.kind.params) ≡ Some ps) × (and_then (type_term c.kind.result) (λ result. Some (record { params = ps; result = result })) ≡ Some a) = then-some _ _ a e in
    let r : (t : Term) × (type_term c.kind.result ≡ Some t) × (Some (record { params = p.0; result = t }) ≡ Some a) = then-some (type_term c.kind.result) _ a p.2 in
    ap (λ (z : Arrow). length z.params) (sym (some-inj _ a r.2)) ∙ present-length type_term c.kind.params p.0 p.1

-- what a spec that is read is
record IsReadSpec (s : Node SpecKind) (f : FunSpec) : Type 0 where
  arrow : Arrow
  first : IsFirstArrow s.kind.clauses arrow
  only : f.clauses ≡ arrow ∷ []
  named : spec_id f ≡ specified_id s

read-spec : (s : Node SpecKind) (f : FunSpec) → IsSpec s → function_spec s ≡ Some f → IsReadSpec s f
read-spec s f w e =
    let c : (c : Node SpecClauseKind) × (s.kind.clauses ≡ c ∷ []) × IsSpecClause c = spec-clause s w in
    let a : (a : Arrow) × (clause_arrow c.0 ≡ Some a) × (f ≡ record { name = s.kind.name; arity = length a.params; vars = 0; clauses = a ∷ [] }) = arrow-spec s.kind.name c.0 s.kind.clauses f c.1 e in
    record {
      arrow = a.0;
      first = (c.0, ap (λ cs. slice_get cs 0) c.1, a.1);
      only = ap (λ (z : FunSpec). z.clauses) a.2;
      named = ap spec_id a.2 ∙ ap (λ n. of_function s.kind.name n) (arrow-length c.0 a.0 a.1 ∙ ap spec_clauses_arity (sym c.1));
    }

tree-among : (ss : List (Node SpecKind)) (fs : List FunSpec) (s : Node SpecKind) → all_present (map function_spec ss) ≡ Some fs → Among s ss → (f : FunSpec) × (function_spec s ≡ Some f) × Among f fs
tree-among [] fs s e a = absurd a
tree-among (t ∷ ss) fs s e a =
    let f : (f : FunSpec) × (function_spec t ≡ Some f) × (and_then (all_present (map function_spec ss)) (λ more. Some (f ∷ more)) ≡ Some fs) = then-some (function_spec t) _ fs e in
    let r : (more : List FunSpec) × (all_present (map function_spec ss) ≡ Some more) × (Some (f.0 ∷ more) ≡ Some fs) = then-some (all_present (map function_spec ss)) _ fs f.2 in
    subst (λ z. (f : FunSpec) × (function_spec s ≡ Some f) × Among f z) (some-inj _ fs r.2)
    (elim a [
      | inl q ↦ (f.0, ap function_spec q ∙ f.1, inl refl)
      | inr b ↦ let k : (f : FunSpec) × (function_spec s ≡ Some f) × Among f r.0 = tree-among ss r.0 s r.1 b in (k.0, k.1, inr k.2)
    ])

id-tree : (ss : List (Node SpecKind)) (fs : List FunSpec) (id : FunctionId) → all_present (map function_spec ss) ≡ Some fs → Among id (map spec_id fs) → (s : Node SpecKind) × (f : FunSpec) × Among s ss × (function_spec s ≡ Some f) × (id ≡ spec_id f)
id-tree [] fs id e a = absurd (subst (λ z. Among id (map spec_id z)) (sym (some-inj [] fs e)) a)
id-tree (t ∷ ss) fs id e a =
    let f : (f : FunSpec) × (function_spec t ≡ Some f) × (and_then (all_present (map function_spec ss)) (λ more. Some (f ∷ more)) ≡ Some fs) = then-some (function_spec t) _ fs e in
    let r : (more : List FunSpec) × (all_present (map function_spec ss) ≡ Some more) × (Some (f.0 ∷ more) ≡ Some fs) = then-some (all_present (map function_spec ss)) _ fs f.2 in
    let b : Among id (map spec_id (f.0 ∷ r.0)) = subst (λ z. Among id (map spec_id z)) (sym (some-inj _ fs r.2)) a in
    elim b [
      | inl q ↦ (t, f.0, inl refl, f.1, q)
      | inr d ↦ let k : (s : Node SpecKind) × (g : FunSpec) × Among s ss × (function_spec s ≡ Some g) × (id ≡ spec_id g) = id-tree ss r.0 id r.1 d in (k.0, k.1, inr k.2, k.3, k.4)
    ]

place-tree : (forms : List TreeForm) (k : ℕ) (s : Node SpecKind) → slice_get forms k ≡ Some (F.Spec s) → Among s (specs_in forms)
place-tree [] k s e = none-some _ e
place-tree (F.Spec t ∷ forms) zero s e = inl (spec-inj s t (some-inj _ _ (sym e)))
place-tree (F.Spec t ∷ forms) (suc k) s e = inr (place-tree forms k s e)
place-tree (F.Function f ∷ forms) zero s e = absurd (cc)
place-tree (F.Function f ∷ forms) (suc k) s e = place-tree forms k s e
place-tree (F.Export f ∷ forms) zero s e = absurd (cc)
place-tree (F.Export f ∷ forms) (suc k) s e = place-tree forms k s e
place-tree (F.RecDef f ∷ forms) zero s e = absurd (cc)
place-tree (F.RecDef f ∷ forms) (suc k) s e = place-tree forms k s e
place-tree (F.TypeDef f ∷ forms) zero s e = absurd (cc)
place-tree (F.TypeDef f ∷ forms) (suc k) s e = place-tree forms k s e
place-tree (F.Skipped f ∷ forms) zero s e = absurd (cc)
place-tree (F.Skipped f ∷ forms) (suc k) s e = place-tree forms k s e

later : (form : TreeForm) (forms : List TreeForm) (s : Node SpecKind) → (k : ℕ) × (slice_get forms k ≡ Some (F.Spec s)) → (k : ℕ) × (slice_get (form ∷ forms) k ≡ Some (F.Spec s))
later form forms s h = (suc h.0, h.1)

tree-place : (forms : List TreeForm) (s : Node SpecKind) → Among s (specs_in forms) → (k : ℕ) × (slice_get forms k ≡ Some (F.Spec s))
tree-place [] s a = absurd a
tree-place (F.Spec t ∷ forms) s (inl q) = (0, ap (λ z. Some (F.Spec z)) (sym q))
tree-place (F.Spec t ∷ forms) s (inr a) = later (F.Spec t) forms s (tree-place forms s a)
tree-place (F.Function f ∷ forms) s a = later (F.Function f) forms s (tree-place forms s a)
tree-place (F.Export f ∷ forms) s a = later (F.Export f) forms s (tree-place forms s a)
tree-place (F.RecDef f ∷ forms) s a = later (F.RecDef f) forms s (tree-place forms s a)
tree-place (F.TypeDef f ∷ forms) s a = later (F.TypeDef f) forms s (tree-place forms s a)
tree-place (F.Skipped f ∷ forms) s a = later (F.Skipped f) forms s (tree-place forms s a)

-- ---- the arrows of a function

spec-test : (f : FunSpec) (name : Name) (arity : ℕ) → (same_name f.name name && nat_eq f.arity arity) ≡ true → spec_id f ≡ of_function name arity
spec-test f name arity e =
    let p : (same_name f.name name ≡ true) × (nat_eq f.arity arity ≡ true) = and_parts _ _ e in
    let n : f.name ≡ name = name-is f.name name p.0 in
    let a : f.arity ≡ arity = eqb-true _ _ p.1 in
    λ i. of_function (n i) (a i)

arrows-none : (specs : List FunSpec) (name : Name) (arity : ℕ) → (Among (of_function name arity) (map spec_id specs) → ⊥) → arrows_of specs name arity ≡ []
arrows-none [] name arity absent = refl
arrows-none (f ∷ specs) name arity absent = go (same_name f.name name && nat_eq f.arity arity) refl (arrows-none specs name arity (λ a. absent (inr a)))
  where
    go : (b : Bool) → (same_name f.name name && nat_eq f.arity arity) ≡ b → arrows_of specs name arity ≡ [] → arrows_if b f.clauses ++ arrows_of specs name arity ≡ []
    go true e ih = absurd (absent (inl (sym (spec-test f name arity e))))
    go false e ih = ih

own-test : (f : FunSpec) → (same_name f.name f.name && nat_eq f.arity f.arity) ≡ true
own-test f = ap (λ b. b && nat_eq f.arity f.arity) (name-refl f.name) ∙ eq-eqb f.arity f.arity refl

arrows-found : (specs : List FunSpec) (f : FunSpec) → Among f specs → AreDistinct (map spec_id specs) → arrows_of specs f.name f.arity ≡ f.clauses
arrows-found [] f a d = absurd a
arrows-found (g ∷ specs) f (inl q) d =
    subst (λ (z : FunSpec). arrows_of (z ∷ specs) f.name f.arity ≡ f.clauses) q
    (ap (λ b. arrows_if b f.clauses ++ arrows_of specs f.name f.arity) (own-test f)
    ∙ (ap (λ r. f.clauses ++ r) (arrows-none specs f.name f.arity (λ a. d.0 (subst (λ (z : FunSpec). Among (spec_id z) (map spec_id specs)) q a))) ∙ append-nil f.clauses))
arrows-found (g ∷ specs) f (inr a) d = go (same_name g.name f.name && nat_eq g.arity f.arity) refl (arrows-found specs f a d.1)
  where
    go : (b : Bool) → (same_name g.name f.name && nat_eq g.arity f.arity) ≡ b → arrows_of specs f.name f.arity ≡ f.clauses → arrows_if b g.clauses ++ arrows_of specs f.name f.arity ≡ f.clauses
    go true e ih = absurd (d.0 (subst (λ z. Among z (map spec_id specs)) (sym (spec-test g f.name f.arity e)) (among-map spec_id f specs a)))
    go false e ih = ih

-- ---- looking up the spec of a function

pub found-arrow : (m : Module) (table : List Entry) (name : Name) (arity k : ℕ) → IsFlatModule m → HoldsSpecs m.forms (length m.forms) table → Among (of_function name arity, k) table →
    (arrow : Arrow) × IsArrowAt m.forms k arrow × (arrows_of (specs_of m) name arity ≡ arrow ∷ [])
found-arrow m table name arity k flat holds a =
    let t : (s : Node SpecKind) × (slice_get m.forms k ≡ Some (F.Spec s)) × (specified_id s ≡ of_function name arity) = holds.sound (of_function name arity) k a in
    let b : Among t.0 (specs_in m.forms) = place-tree m.forms k t.0 t.1 in
    let f : (f : FunSpec) × (function_spec t.0 ≡ Some f) × Among f (specs_of m) = tree-among (specs_in m.forms) (specs_of m) t.0 flat.flat_specs.specs_read b in
    let r : IsReadSpec t.0 f.0 = read-spec t.0 f.0 (every-at IsSpec t.0 (specs_in m.forms) (forms-specs m.forms (well_formed-forms m (flat-formed m flat))) b) f.1 in
    let q : spec_id f.0 ≡ of_function name arity = r.named ∙ t.2 in
    (r.arrow, (t.0, t.1, r.first), ap (λ (z : FunctionId). arrows_of (specs_of m) z.name z.arity) (sym q) ∙ (arrows-found (specs_of m) f.0 f.2 flat.flat_specs.specs_distinct ∙ r.only))

pub is-found : (m : Module) (table : List Entry) (f : Function) → IsFlatModule m → HoldsSpecs m.forms (length m.forms) table → Among f (functions_of m) → (Among (function_id f) (ids table) → ⊥) → ⊥
is-found m table f flat holds a absent =
    let d : Among (function_id f) (map spec_id (specs_of m)) = every-at _ (function_id f) (function_ids m) (flat-names m flat).specified (among-map function_id f (functions_of m) a) in
    let t : (s : Node SpecKind) × (g : FunSpec) × Among s (specs_in m.forms) × (function_spec s ≡ Some g) × (function_id f ≡ spec_id g) = id-tree (specs_in m.forms) (specs_of m) (function_id f) flat.flat_specs.specs_read d in
    let p : (k : ℕ) × (slice_get m.forms k ≡ Some (F.Spec t.0)) = tree-place m.forms t.0 t.2 in
    let r : IsReadSpec t.0 t.1 = read-spec t.0 t.1 (every-at IsSpec t.0 (specs_in m.forms) (forms-specs m.forms (well_formed-forms m (flat-formed m flat))) t.2) t.3 in
    absent (subst (λ z. Among z (ids table)) (sym (t.4 ∙ r.named)) (holds.complete p.0 t.0 (slice_get_within m.forms p.0 (F.Spec t.0) p.1) p.1))

-- the one arrow of a function of a flat module
pub own-arrow : (m : Module) (f : Function) → IsFlatModule m → Among f (functions_of m) → (arrow : Arrow) × (arrows_of (specs_of m) f.name (clauses_arity f.clauses) ≡ arrow ∷ []) × (clauses_arity f.clauses ≡ length arrow.params)
own-arrow m f flat a =
    let d : Among (function_id f) (map spec_id (specs_of m)) = every-at _ (function_id f) (function_ids m) (flat-names m flat).specified (among-map function_id f (functions_of m) a) in
    let t : (s : Node SpecKind) × (g : FunSpec) × Among s (specs_in m.forms) × (function_spec s ≡ Some g) × (function_id f ≡ spec_id g) = id-tree (specs_in m.forms) (specs_of m) (function_id f) flat.flat_specs.specs_read d in
    let b : (g : FunSpec) × (function_spec t.0 ≡ Some g) × Among g (specs_of m) = tree-among (specs_in m.forms) (specs_of m) t.0 flat.flat_specs.specs_read t.2 in
    let r : IsReadSpec t.0 b.0 = read-spec t.0 b.0 (every-at IsSpec t.0 (specs_in m.forms) (forms-specs m.forms (well_formed-forms m (flat-formed m flat))) t.2) b.1 in
    let q : function_id f ≡ spec_id b.0 = t.4 ∙ ap spec_id (some-inj t.1 b.0 (sym t.3 ∙ b.1)) in
    let o : arrows_of (specs_of m) f.name (clauses_arity f.clauses) ≡ r.arrow ∷ [] = ap (λ (z : FunctionId). arrows_of (specs_of m) z.name z.arity) q ∙ (arrows-found (specs_of m) b.0 b.2 flat.flat_specs.specs_distinct ∙ r.only) in
    let one : Every HasOneArrow (specs_of m) = one-arrow-each (specs_in m.forms) (specs_of m) (forms-specs m.forms (well_formed-forms m (flat-formed m flat))) flat.flat_specs.specs_read in
    (r.arrow, o, sym (arrow-arity (specs_of m) f.name (clauses_arity f.clauses) r.arrow one (subst (λ (z : List Arrow). Contains z r.arrow) (sym o) (contains-first r.arrow []))))

-- a function with an arrow is in the table
pub is-specified : (m : Module) (table : List Entry) (name : Name) (arity : ℕ) (arrow : Arrow) → IsFlatModule m → HoldsSpecs m.forms (length m.forms) table → arrows_of (specs_of m) name arity ≡ arrow ∷ [] → (Among (of_function name arity) (ids table) → ⊥) → ⊥
is-specified m table name arity arrow flat holds e absent = empty (sym e ∙ arrows-none (specs_of m) name arity (λ d.
    let t : (s : Node SpecKind) × (g : FunSpec) × Among s (specs_in m.forms) × (function_spec s ≡ Some g) × (of_function name arity ≡ spec_id g) = id-tree (specs_in m.forms) (specs_of m) (of_function name arity) flat.flat_specs.specs_read d in
    let p : (k : ℕ) × (slice_get m.forms k ≡ Some (F.Spec t.0)) = tree-place m.forms t.0 t.2 in
    let r : IsReadSpec t.0 t.1 = read-spec t.0 t.1 (every-at IsSpec t.0 (specs_in m.forms) (forms-specs m.forms (well_formed-forms m (flat-formed m flat))) t.2) t.3 in
    absent (subst (λ z. Among z (ids table)) (sym (t.4 ∙ r.named)) (holds.complete p.0 t.0 (slice_get_within m.forms p.0 (F.Spec t.0) p.1) p.1))))
  where
    empty : arrow ∷ [] ≡ [] → ⊥
    empty e = cc

-- an arrow of a function of a flat module has as many parameters as the function
pub arrow-length-of : (m : Module) (name : Name) (arity : ℕ) (arrow : Arrow) → IsFlatModule m → arrows_of (specs_of m) name arity ≡ arrow ∷ [] → length arrow.params ≡ arity
arrow-length-of m name arity arrow flat e =
    let one : Every HasOneArrow (specs_of m) = one-arrow-each (specs_in m.forms) (specs_of m) (forms-specs m.forms (well_formed-forms m (flat-formed m flat))) flat.flat_specs.specs_read in
    arrow-arity (specs_of m) name arity arrow one (subst (λ (z : List Arrow). Contains z arrow) (sym e) (contains-first arrow []))
