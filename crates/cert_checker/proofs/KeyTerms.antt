-- Terms of keys: their values are integers and atoms alone, and whether a value is in one depends neither on the program nor on the level nor on the instance. The types of flat modules are such terms.
use Rattle.std.proofs.Common.{◌≡◌, sym, ◌∙◌, ap, subst, inl, inr, ℕ, ℤ, List, [], ◌∷◌, length}
use Rattle.std.specs.Prelude.{Bool, true, false, Option, Some, None as Nothing, neg_ℤ, map, if◌then◌else◌, codes}
use Rattle.std.specs.List.{Contains}
use Rattle.std.specs.Str.{bytes_eq}
use Rattle.std.proofs.lemmas.List.Elements.{Contains-append_cases}
use Rattle.type_terms.specs.Keys.{Name}
use Rattle.type_terms.specs.Reading.{le_int}
use Rattle.type_terms.specs.declared.term.Term.{Term, Ints, AtomLit, AnyAtom, Or}
use Rattle.type_terms.specs.declared.spec.Arrow.{Arrow}
use Rattle.type_terms.specs.declared.spec.FunSpec.{FunSpec}
use Rattle.type_terms.specs.Definitions.{given_definitions}
use Rattle.type_terms.specs.Instances.{Instance}
use Rattle.type_terms.proofs.Contained.{contains-cases, contains-none}
use Rattle.type_terms.proofs.ReadingStability.{Stable, unit-stable, none-stable, pair-stable}
use Rattle.erl_tree.specs.declared.token.Node.{Node}
use Rattle.erl_tree.specs.declared.type_expr.TypeKind.{TypeKind}
use Rattle.erl_tree.specs.declared.form.SpecKind.{SpecKind}
use Rattle.erl_tree.specs.declared.form.SpecClauseKind.{SpecClauseKind}
use Rattle.erl_tree.specs.declared.form.Module.{Module}
use Rattle.erl_tree.specs.Lists.{Every}
use Rattle.flat_modules.specs.Grammar.{IsType, one_type, union, IsSimpleType, atom_type, integer_type, negative_type, range_type, use_type, paren_type, IsSpec, IsSpecClause, is_spec_clause_layer, IsWellFormed}
use Rattle.erl_runs.specs.Specs.{and_then, range, all_present, specs_in}
use Rattle.flat_modules.specs.FlatSpecs.{end_of, built_in_type, type_term, clause_arrow, function_spec, read_specs, specs_of}
use Rattle.erl_runs.specs.Value.{Value, integer, atom, nil, cons, tuple, map_of, named_fun, closure}
use Rattle.erl_runs.specs.Membership.{Program, InTerm, values_in, arrows_if, arrows_of}
use Rattle.flat_modules.proofs.FlatTermLaws.{type_kind_term-Atom, type_kind_term-Int, type_kind_term-NegInt, type_kind_term-Paren, type_kind_term-Or, type_kind_term-Range, type_kind_term-Use}
use Rattle.erl_runs.proofs.Equations.{in-Or}
use Rattle.erl_runs.proofs.MembershipStability.{in-stable}
use Rattle.cert_checker.proofs.Lists.{then-some, some-inj, none-some}
use Rattle.cert_checker.proofs.Parts.{well_formed-forms, forms-specs, spec-clause, arrow-spec}

-- ---- keys

-- an integer or an atom
abbrev pub IsKey : Value → Type 0
IsKey (integer n) = Unit {0}
IsKey (atom a) = Unit {0}
IsKey _ = ⊥

key-stable : (v : Value) → Stable (IsKey v)
key-stable (integer n) = unit-stable
key-stable (atom a) = unit-stable
key-stable nil = none-stable
key-stable (cons v w) = none-stable
key-stable (tuple vs) = none-stable
key-stable (map_of es) = none-stable
key-stable (named_fun name arity) = none-stable
key-stable (closure number environment) = none-stable

-- a term of keys
unfoldable pub IsOfKeys : Term → Type 0
IsOfKeys t = (p q : Program) (k l : ℕ) (i j : Instance) (v : Value) → InTerm p k v t given_definitions i → IsKey v × InTerm q l v t given_definitions j

pub key-in : (t : Term) → IsOfKeys t → (p : Program) (k : ℕ) (i : Instance) (v : Value) → InTerm p k v t given_definitions i → IsKey v
unfolding IsOfKeys
key-in t h p k i v x = (h p p k k i i v x).0

pub moved : (t : Term) → IsOfKeys t → (p q : Program) (k l : ℕ) (i j : Instance) (v : Value) → InTerm p k v t given_definitions i → InTerm q l v t given_definitions j
unfolding IsOfKeys
moved t h p q k l i j v x = (h p q k l i j v x).1

pub ints-keys : (low high : Option ℤ) → IsOfKeys (Ints low high)
unfolding IsOfKeys
ints-keys low high p q k l i j (integer n) h = (tt, h)
ints-keys low high p q k l i j (atom a) h = absurd h
ints-keys low high p q k l i j nil h = absurd h
ints-keys low high p q k l i j (cons v w) h = absurd h
ints-keys low high p q k l i j (tuple vs) h = absurd h
ints-keys low high p q k l i j (map_of es) h = absurd h
ints-keys low high p q k l i j (named_fun name arity) h = absurd h
ints-keys low high p q k l i j (closure number environment) h = absurd h

pub atom-keys : (a : Name) → IsOfKeys (AtomLit a)
unfolding IsOfKeys
atom-keys b p q k l i j (integer n) h = absurd h
atom-keys b p q k l i j (atom a) h = (tt, h)
atom-keys b p q k l i j nil h = absurd h
atom-keys b p q k l i j (cons v w) h = absurd h
atom-keys b p q k l i j (tuple vs) h = absurd h
atom-keys b p q k l i j (map_of es) h = absurd h
atom-keys b p q k l i j (named_fun name arity) h = absurd h
atom-keys b p q k l i j (closure number environment) h = absurd h

pub atoms-keys : IsOfKeys AnyAtom
unfolding IsOfKeys
atoms-keys p q k l i j (integer n) h = absurd h
atoms-keys p q k l i j (atom a) h = (tt, h)
atoms-keys p q k l i j nil h = absurd h
atoms-keys p q k l i j (cons v w) h = absurd h
atoms-keys p q k l i j (tuple vs) h = absurd h
atoms-keys p q k l i j (map_of es) h = absurd h
atoms-keys p q k l i j (named_fun name arity) h = absurd h
atoms-keys p q k l i j (closure number environment) h = absurd h

every-contained : {A : Type 0} (P : A → Type 0) (xs : List A) (x : A) → Every P xs → Contains xs x → P x
every-contained P [] x h c = absurd (contains-none x c)
every-contained P (y ∷ xs) x h c = elim (contains-cases y x xs c) [ inl e ↦ subst P e h.0 | inr d ↦ every-contained P xs x h.1 d ]

pub or-keys : (ts : List Term) → Every IsOfKeys ts → IsOfKeys (Or ts)
unfolding IsOfKeys
or-keys ts h p q k l i j v x =
    pair-stable (key-stable v) (in-stable q l v (Or ts) given_definitions j)
    (λ no. (in-Or p k given_definitions i v ts).0 x (λ t c y.
    let r : IsKey v × InTerm q l v t given_definitions j = every-contained IsOfKeys ts t h c p q k l i j v y in
    no (r.0, (in-Or q l given_definitions j v ts).1 (λ none. none t c r.1))))

-- ---- the types of flat modules

range-keys : (low high : ℤ) (t : Term) → range low high ≡ Some t → IsOfKeys t
range-keys low high t e = go (le_int low high) e
  where
    go : (b : Bool) → (if b then Some (Ints (Some low) (Some high)) else Nothing) ≡ Some t → IsOfKeys t
    go true e = subst IsOfKeys (some-inj _ t e) (ints-keys (Some low) (Some high))
    go false e = none-some t e

built_in-keys : (name : Name) (t : Term) → built_in_type name ≡ Some t → IsOfKeys t
built_in-keys name t e = go (bytes_eq name (codes "integer")) (bytes_eq name (codes "atom")) e
  where
    go : (b c : Bool) → (if b then Some (Ints Nothing Nothing) else if c then Some AnyAtom else Nothing) ≡ Some t → IsOfKeys t
    go true c e = subst IsOfKeys (some-inj _ t e) (ints-keys Nothing Nothing)
    go false true e = subst IsOfKeys (some-inj _ t e) atoms-keys
    go false false e = none-some t e

mutual
  pub type-keys : (ty : Node TypeKind) → IsType ty → (t : Term) → type_term ty ≡ Some t → IsOfKeys t
  type-keys ty (one_type _ w) t e = simple-keys ty w t e
  type-keys ty (union a b m v w) t e =
      let x : (s : Term) × (type_term a ≡ Some s) × (and_then (type_term b) (λ u. Some (Or (s ∷ u ∷ []))) ≡ Some t) = then-some (type_term a) _ t (sym (type_kind_term-Or a b) ∙ e) in
      let y : (u : Term) × (type_term b ≡ Some u) × (Some (Or (x.0 ∷ u ∷ [])) ≡ Some t) = then-some (type_term b) _ t x.2 in
      subst IsOfKeys (some-inj _ t y.2) (or-keys (x.0 ∷ y.0 ∷ []) (simple-keys a v x.0 x.1, (type-keys b w y.0 y.1, tt)))

  simple-keys : (ty : Node TypeKind) → IsSimpleType ty → (t : Term) → type_term ty ≡ Some t → IsOfKeys t
  simple-keys ty (atom_type p a) t e = subst IsOfKeys (some-inj _ t (sym (type_kind_term-Atom a) ∙ e)) (atom-keys a)
  simple-keys ty (integer_type p n) t e = subst IsOfKeys (some-inj _ t (sym (type_kind_term-Int n) ∙ e)) (ints-keys (Some n) (Some n))
  simple-keys ty (negative_type h p n) t e = subst IsOfKeys (some-inj _ t (sym (type_kind_term-NegInt n) ∙ e)) (ints-keys (Some (neg_ℤ n)) (Some (neg_ℤ n)))
  simple-keys ty (range_type low high m v w) t e =
      let x : (l : ℤ) × (end_of low.kind ≡ Some l) × (and_then (end_of high.kind) (λ h. range l h) ≡ Some t) = then-some (end_of low.kind) _ t (sym (type_kind_term-Range low high) ∙ e) in
      let y : (h : ℤ) × (end_of high.kind ≡ Some h) × (range x.0 h ≡ Some t) = then-some (end_of high.kind) _ t x.2 in
      range-keys x.0 y.0 t y.2
  simple-keys ty (use_type p o c name) t e = built_in-keys name t (sym (type_kind_term-Use name) ∙ e)
  simple-keys ty (paren_type o c s w) t e = type-keys s w t (sym (type_kind_term-Paren s) ∙ e)

types-keys : (tys : List (Node TypeKind)) → Every IsType tys → (ts : List Term) → all_present (map type_term tys) ≡ Some ts → Every IsOfKeys ts
types-keys [] w ts e = subst (λ z. Every IsOfKeys z) (some-inj [] ts e) tt
types-keys (ty ∷ tys) w ts e =
    let x : (t : Term) × (type_term ty ≡ Some t) × (and_then (all_present (map type_term tys)) (λ more. Some (t ∷ more)) ≡ Some ts) = then-some (type_term ty) _ ts e in
    let y : (more : List Term) × (all_present (map type_term tys) ≡ Some more) × (Some (x.0 ∷ more) ≡ Some ts) = then-some (all_present (map type_term tys)) _ ts x.2 in
    subst (λ z. Every IsOfKeys z) (some-inj _ ts y.2) (type-keys ty w.0 x.0 x.1, types-keys tys w.1 y.0 y.1)

-- ---- the arrows of flat modules

-- the parameters and the result are of keys
abbrev pub IsArrowOfKeys : Arrow → Type 0
IsArrowOfKeys a = Every IsOfKeys a.params × IsOfKeys a.result

spec_clause-types : (c : Node SpecClauseKind) → IsSpecClause c → Every IsType c.kind.params × IsType c.kind.result
spec_clause-types c w = go c.marks w
  where
    go : (ms : List _) → is_spec_clause_layer c.kind c.place ms → Every IsType c.kind.params × IsType c.kind.result
    go [] w = absurd w
    go (m ∷ ms) w = (w.1, w.4)

pub arrow-keys : (c : Node SpecClauseKind) → IsSpecClause c → (a : Arrow) → clause_arrow c ≡ Some a → IsArrowOfKeys a
arrow-keys c w a e =
    let ty : Every IsType c.kind.params × IsType c.kind.result = spec_clause-types c w in
    let p : (ps : List Term) × (all_present (map type_term c.kind.params) ≡ Some ps) × (and_then (type_term c.kind.result) (λ result. Some (record { params = ps; result = result })) ≡ Some a) = then-some _ _ a e in
    let r : (t : Term) × (type_term c.kind.result ≡ Some t) × (Some (record { params = p.0; result = t }) ≡ Some a) = then-some (type_term c.kind.result) _ a p.2 in
    subst IsArrowOfKeys (some-inj _ a r.2) (types-keys c.kind.params ty.0 p.0 p.1, type-keys c.kind.result ty.1 r.0 r.1)

abbrev HasArrowsOfKeys : FunSpec → Type 0
HasArrowsOfKeys s = Every IsArrowOfKeys s.clauses

spec-keys : (s : Node SpecKind) (f : FunSpec) → IsSpec s → function_spec s ≡ Some f → HasArrowsOfKeys f
spec-keys s f w e =
    let c : (c : Node SpecClauseKind) × (s.kind.clauses ≡ c ∷ []) × IsSpecClause c = spec-clause s w in
    let a : (a : Arrow) × (clause_arrow c.0 ≡ Some a) × (f ≡ record { name = s.kind.name; arity = length a.params; vars = 0; clauses = a ∷ [] }) = arrow-spec s.kind.name c.0 s.kind.clauses f c.1 e in
    subst (λ (z : List Arrow). Every IsArrowOfKeys z) (sym (ap (λ (z : FunSpec). z.clauses) a.2)) (arrow-keys c.0 c.2 a.0 a.1, tt)

specs-keys : (ss : List (Node SpecKind)) (fs : List FunSpec) → Every IsSpec ss → all_present (map function_spec ss) ≡ Some fs → Every HasArrowsOfKeys fs
specs-keys [] fs w e = subst (λ z. Every HasArrowsOfKeys z) (some-inj _ fs e) tt
specs-keys (s ∷ ss) fs w e =
    let f : (f : FunSpec) × (function_spec s ≡ Some f) × (and_then (all_present (map function_spec ss)) (λ more. Some (f ∷ more)) ≡ Some fs) = then-some (function_spec s) _ fs e in
    let r : (more : List FunSpec) × (all_present (map function_spec ss) ≡ Some more) × (Some (f.0 ∷ more) ≡ Some fs) = then-some (all_present (map function_spec ss)) _ fs f.2 in
    subst (λ z. Every HasArrowsOfKeys z) (some-inj _ fs r.2) (spec-keys s f.0 w.0 f.1, specs-keys ss r.0 w.1 r.1)

arrows-keys : (specs : List FunSpec) (name : Name) (arity : ℕ) (arrow : Arrow) → Every HasArrowsOfKeys specs → Contains (arrows_of specs name arity) arrow → IsArrowOfKeys arrow
arrows-keys [] name arity arrow h c = absurd (contains-none arrow c)
arrows-keys (s ∷ specs) name arity arrow h c = elim (Contains-append_cases (arrows_if _ s.clauses) (arrows_of specs name arity) arrow c) [
  | inl k ↦ here _ k
  | inr k ↦ arrows-keys specs name arity arrow h.1 k
]
  where
    here : (b : Bool) → Contains (arrows_if b s.clauses) arrow → IsArrowOfKeys arrow
    here true k = every-contained IsArrowOfKeys s.clauses arrow h.0 k
    here false k = absurd (contains-none arrow k)

-- the arrows of a flat module's specs are of keys
pub module-keys : (m : Module) → IsWellFormed m → read_specs m ≡ Some (specs_of m) → (name : Name) (arity : ℕ) (arrow : Arrow) → Contains (arrows_of (specs_of m) name arity) arrow → IsArrowOfKeys arrow
module-keys m w e name arity arrow c = arrows-keys (specs_of m) name arity arrow (specs-keys (specs_in m.forms) (specs_of m) (forms-specs m.forms (well_formed-forms m w)) e) c

-- ---- rows of values

pub values-moved : (ts : List Term) → Every IsOfKeys ts → (p q : Program) (k l : ℕ) (i j : Instance) (vs : List Value) → values_in (InTerm p k) vs ts given_definitions i → values_in (InTerm q l) vs ts given_definitions j
values-moved [] h p q k l i j [] x = tt
values-moved (t ∷ ts) h p q k l i j (v ∷ vs) x = (moved t h.0 p q k l i j v x.0, values-moved ts h.1 p q k l i j vs x.1)
values-moved [] h p q k l i j (v ∷ vs) x = absurd x
values-moved (t ∷ ts) h p q k l i j [] x = absurd x

pub values-keys : (ts : List Term) → Every IsOfKeys ts → (p : Program) (k : ℕ) (i : Instance) (vs : List Value) → values_in (InTerm p k) vs ts given_definitions i → Every IsKey vs
values-keys [] h p k i [] x = tt
values-keys (t ∷ ts) h p k i (v ∷ vs) x = (key-in t h.0 p k i v x.0, values-keys ts h.1 p k i vs x.1)
values-keys [] h p k i (v ∷ vs) x = absurd x
values-keys (t ∷ ts) h p k i [] x = absurd x
