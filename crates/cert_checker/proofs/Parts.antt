-- The parts of a well-formed flat module: each spec has one arrow, with as many parameters as its arity says; each function has one clause, whose body is one expression.
use Rattle.std.proofs.Common.{◌≡◌, refl, sym, ◌∙◌, ap, subst, ◌⊎◌, inl, inr, ℕ, List, [], ◌∷◌, length}
use Rattle.std.specs.Prelude.{Bool, true, false, ◌&&◌, Some, map, nat_eq, if◌then◌else◌}
use Rattle.std.specs.List.{Contains}
use Rattle.std.proofs.lemmas.Bool.{and_parts, eqb-true, eq-eqb}
use Rattle.std.proofs.lemmas.List.Elements.{Contains-append_cases}
use Rattle.type_terms.specs.declared.spec.Arrow.{Arrow}
use Rattle.type_terms.specs.declared.spec.FunSpec.{FunSpec}
use Rattle.type_terms.specs.Keys.{Name, same_name}
use Rattle.type_terms.proofs.KeyLaws.{name-refl, name-is}
use Rattle.type_terms.proofs.Contained.{contains-cases, contains-none}
use Rattle.erl_tree.specs.declared.token.Place.{Place}
use Rattle.erl_tree.specs.declared.token.Node.{Node}
use Rattle.erl_tree.specs.declared.expr.ClauseKind.{ClauseKind}
use Rattle.erl_tree.specs.declared.form.SpecKind.{SpecKind}
use Rattle.erl_tree.specs.declared.form.SpecClauseKind.{SpecClauseKind}
use Rattle.erl_tree.specs.declared.form.Function.{Function}
use Rattle.erl_tree.specs.declared.form.TreeForm.{TreeForm}
use Rattle.erl_tree.specs.declared.form.TreeForm.TheVariants as F
use Rattle.erl_tree.specs.declared.form.Module.{Module}
use Rattle.erl_tree.specs.Lists.{Every, Among, AreDistinct}
use Rattle.erl_tree.specs.Functions.{functions_in, function_id, clauses_arity, has_id, find_function}
use Rattle.erl_runs.specs.Specs.{and_then, all_present, specs_in}
use Rattle.flat_modules.specs.FlatSpecs.{clause_arrow, arrows_arity, function_spec}
use Rattle.flat_modules.specs.Grammar.{IsForm, IsSpec, IsSpecClause, IsFunction, IsClause, is_spec_layer, is_function_layer, is_module_layer, IsWellFormed}
use Rattle.erl_runs.specs.Membership.{arrows_if, arrows_of}
use Rattle.cert_checker.proofs.Lists.{among-map, then-some, some-inj}

-- ---- forms

pub well_formed-forms : (m : Module) → IsWellFormed m → Every IsForm m.forms
unfolding IsWellFormed
well_formed-forms m w = go m.marks w
  where
    go : (marks : List Place) → is_module_layer m.forms marks → Every IsForm m.forms
    go (h ∷ mm ∷ o ∷ n ∷ c ∷ d ∷ e ∷ []) w = w
    go [] w = absurd w
    go (h ∷ []) w = absurd w
    go (h ∷ mm ∷ []) w = absurd w
    go (h ∷ mm ∷ o ∷ []) w = absurd w
    go (h ∷ mm ∷ o ∷ n ∷ []) w = absurd w
    go (h ∷ mm ∷ o ∷ n ∷ c ∷ []) w = absurd w
    go (h ∷ mm ∷ o ∷ n ∷ c ∷ d ∷ []) w = absurd w
    go (h ∷ mm ∷ o ∷ n ∷ c ∷ d ∷ e ∷ f ∷ r) w = absurd w

pub forms-functions : (forms : List TreeForm) → Every IsForm forms → Every IsFunction (functions_in forms)
forms-functions [] w = tt
forms-functions (F.Function f ∷ forms) w = (w.0, forms-functions forms w.1)
forms-functions (F.Spec s ∷ forms) w = forms-functions forms w.1
forms-functions (_ ∷ forms) w = absurd w.0

pub forms-specs : (forms : List TreeForm) → Every IsForm forms → Every IsSpec (specs_in forms)
forms-specs [] w = tt
forms-specs (F.Spec s ∷ forms) w = (w.0, forms-specs forms w.1)
forms-specs (F.Function f ∷ forms) w = forms-specs forms w.1
forms-specs (_ ∷ forms) w = absurd w.0

-- ---- specs

abbrev pub HasOneArrow : FunSpec → Type 0
HasOneArrow s = (a : Arrow) × (s.clauses ≡ a ∷ []) × (s.arity ≡ length a.params)

one-clause : (cs : List (Node SpecClauseKind)) (p : Place) (ms : List Place) → is_spec_layer cs p ms → (c : Node SpecClauseKind) × (cs ≡ c ∷ []) × IsSpecClause c
one-clause (c ∷ []) p (h ∷ s ∷ n ∷ d ∷ []) w = (c, refl, w.1)
one-clause [] p ms w = absurd w
one-clause (c ∷ e ∷ cs) p ms w = absurd w
one-clause (c ∷ []) p [] w = absurd w
one-clause (c ∷ []) p (h ∷ []) w = absurd w
one-clause (c ∷ []) p (h ∷ s ∷ []) w = absurd w
one-clause (c ∷ []) p (h ∷ s ∷ n ∷ []) w = absurd w
one-clause (c ∷ []) p (h ∷ s ∷ n ∷ d ∷ e ∷ r) w = absurd w

pub spec-clause : (s : Node SpecKind) → IsSpec s → (c : Node SpecClauseKind) × (s.kind.clauses ≡ c ∷ []) × IsSpecClause c
spec-clause s w = one-clause s.kind.clauses s.place s.marks w

-- the spec of one clause
pub arrow-spec : (name : Name) (c : Node SpecClauseKind) (cs : List (Node SpecClauseKind)) (s : FunSpec) → cs ≡ c ∷ [] →
    and_then (all_present (map clause_arrow cs)) (λ arrows. Some (record { name = name; arity = arrows_arity arrows; vars = 0; clauses = arrows })) ≡ Some s →
    (a : Arrow) × (clause_arrow c ≡ Some a) × (s ≡ record { name = name; arity = length a.params; vars = 0; clauses = a ∷ [] })
arrow-spec name c cs s e h =
    let h1 : and_then (all_present (map clause_arrow (c ∷ []))) (λ arrows. Some (record { name = name; arity = arrows_arity arrows; vars = 0; clauses = arrows })) ≡ Some s =
    subst (λ z. and_then (all_present (map clause_arrow z)) (λ arrows. Some (record { name = name; arity = arrows_arity arrows; vars = 0; clauses = arrows })) ≡ Some s) e h in
    let r : (us : List Arrow) × (all_present (map clause_arrow (c ∷ [])) ≡ Some us) × (Some (record { name = name; arity = arrows_arity us; vars = 0; clauses = us }) ≡ Some s) = then-some _ _ s h1 in
    let q : (a : Arrow) × (clause_arrow c ≡ Some a) × (Some (a ∷ []) ≡ Some r.0) = then-some (clause_arrow c) _ r.0 r.1 in
    (q.0, q.1, sym (some-inj _ s r.2) ∙ ap (λ (z : List Arrow). record { name = name; arity = arrows_arity z; vars = 0; clauses = z }) (sym (some-inj _ r.0 q.2)))

one-arrow : (s : Node SpecKind) (f : FunSpec) → IsSpec s → function_spec s ≡ Some f → HasOneArrow f
one-arrow s f w e =
    let c : (c : Node SpecClauseKind) × (s.kind.clauses ≡ c ∷ []) × IsSpecClause c = spec-clause s w in
    let a : (a : Arrow) × (clause_arrow c.0 ≡ Some a) × (f ≡ record { name = s.kind.name; arity = length a.params; vars = 0; clauses = a ∷ [] }) = arrow-spec s.kind.name c.0 s.kind.clauses f c.1 e in
    (a.0, ap (λ z. z.clauses) a.2, ap (λ z. z.arity) a.2)

pub one-arrow-each : (ss : List (Node SpecKind)) (fs : List FunSpec) → Every IsSpec ss → all_present (map function_spec ss) ≡ Some fs → Every HasOneArrow fs
one-arrow-each [] fs w e = subst (λ z. Every HasOneArrow z) (some-inj _ fs e) tt
one-arrow-each (s ∷ ss) fs w e =
    let f : (f : FunSpec) × (function_spec s ≡ Some f) × (and_then (all_present (map function_spec ss)) (λ more. Some (f ∷ more)) ≡ Some fs) = then-some (function_spec s) _ fs e in
    let r : (more : List FunSpec) × (all_present (map function_spec ss) ≡ Some more) × (Some (f.0 ∷ more) ≡ Some fs) = then-some (all_present (map function_spec ss)) _ fs f.2 in
    subst (λ z. Every HasOneArrow z) (some-inj _ fs r.2) (one-arrow s f.0 w.0 f.1, one-arrow-each ss r.0 w.1 r.1)

-- an arrow of a function has as many parameters as the function
pub arrow-arity : (specs : List FunSpec) (name : Name) (arity : ℕ) (arrow : Arrow) → Every HasOneArrow specs → Contains (arrows_of specs name arity) arrow → length arrow.params ≡ arity
arrow-arity [] name arity arrow one h = absurd (contains-none arrow h)
arrow-arity (s ∷ specs) name arity arrow one h = go (same_name s.name name && nat_eq s.arity arity) refl (Contains-append_cases (arrows_if (same_name s.name name && nat_eq s.arity arity) s.clauses) (arrows_of specs name arity) arrow h) (arrow-arity specs name arity arrow one.1)
  where
    here : (b : Bool) → same_name s.name name && nat_eq s.arity arity ≡ b → Contains (arrows_if b s.clauses) arrow → length arrow.params ≡ arity
    here true e k = elim (contains-cases one.0.0 arrow [] (subst (λ z. Contains z arrow) one.0.1 k)) [
      | inl q ↦ sym (ap (λ (z : Arrow). length z.params) q) ∙ (sym one.0.2 ∙ eqb-true s.arity arity (and_parts (same_name s.name name) (nat_eq s.arity arity) e).1)
      | inr n ↦ absurd (contains-none arrow n)
    ]
    here false e k = absurd (contains-none arrow k)

    go : (b : Bool) → same_name s.name name && nat_eq s.arity arity ≡ b → Contains (arrows_if b s.clauses) arrow ⊎ Contains (arrows_of specs name arity) arrow → (Contains (arrows_of specs name arity) arrow → length arrow.params ≡ arity) → length arrow.params ≡ arity
    go b e (inl k) rest = here b e k
    go b e (inr k) rest = rest k

-- ---- functions

one-function-clause : (cs : List (Node ClauseKind)) (p : Place) (ms : List Place) → is_function_layer cs p ms → (c : Node ClauseKind) × (cs ≡ c ∷ []) × IsClause c
one-function-clause (c ∷ []) p (d ∷ []) w = (c, refl, w.1)
one-function-clause [] p ms w = absurd w
one-function-clause (c ∷ e ∷ cs) p ms w = absurd w
one-function-clause (c ∷ []) p [] w = absurd w
one-function-clause (c ∷ []) p (d ∷ e ∷ r) w = absurd w

pub function-clause : (f : Function) → IsFunction f → (c : Node ClauseKind) × (f.clauses ≡ c ∷ []) × IsClause c
function-clause f w = one-function-clause f.clauses f.place f.marks w

-- a function is found by its own name and arity
has-own_id : (f : Function) → has_id f.name (clauses_arity f.clauses) f ≡ true
has-own_id f = ap (λ b. b && nat_eq (clauses_arity f.clauses) (clauses_arity f.clauses)) (name-refl f.name) ∙ eq-eqb (clauses_arity f.clauses) (clauses_arity f.clauses) refl

same-id : (f g : Function) → has_id f.name (clauses_arity f.clauses) g ≡ true → function_id f ≡ function_id g
same-id f g e =
    let p : (same_name g.name f.name ≡ true) × (nat_eq (clauses_arity g.clauses) (clauses_arity f.clauses) ≡ true) = and_parts _ _ e in
    let n : f.name ≡ g.name = sym (name-is g.name f.name p.0) in
    let a : clauses_arity f.clauses ≡ clauses_arity g.clauses = sym (eqb-true _ _ p.1) in
    λ i. record { name = n i; arity = a i }

pub found : (fs : List Function) (f : Function) → Among f fs → AreDistinct (map function_id fs) → find_function fs f.name (clauses_arity f.clauses) ≡ Some f
found [] f a d = absurd a
found (g ∷ fs) f (inl e) d = subst (λ (z : Function). find_function (z ∷ fs) f.name (clauses_arity f.clauses) ≡ Some f) e (ap (λ b. if b then Some f else find_function fs f.name (clauses_arity f.clauses)) (has-own_id f))
found (g ∷ fs) f (inr a) d = go (has_id f.name (clauses_arity f.clauses) g) refl (found fs f a d.1)
  where
    go : (b : Bool) → has_id f.name (clauses_arity f.clauses) g ≡ b → find_function fs f.name (clauses_arity f.clauses) ≡ Some f → (if b then Some g else find_function fs f.name (clauses_arity f.clauses)) ≡ Some f
    go true e ih = absurd (d.0 (subst (λ z. Among z (map function_id fs)) (same-id f g e) (among-map function_id f fs a)))
    go false e ih = ih
