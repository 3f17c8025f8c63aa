-- The equations of the limits on integers of types and expressions, and what a form of a flat module's type has.
use Rattle.std.proofs.Common.{◌≡◌, refl, sym, ◌∙◌, ap, subst, ℤ, List, [], ◌∷◌}
use Rattle.std.specs.Prelude.{Bool, true, ◌&&◌, Option, Some, None, neg_ℤ}
use Rattle.std.proofs.lemmas.Bool.{and_parts}
use Rattle.type_terms.specs.declared.term.Term.{Term, Or, AtomLit}
use Rattle.type_terms.specs.Keys.{Name}
use Rattle.erl_tree.specs.declared.token.Node.{Node}
use Rattle.erl_tree.specs.declared.pattern.LiteralKind.{LiteralKind}
use Rattle.erl_tree.specs.declared.type_expr.TypeKind.{TypeKind, out-TypeKind, roll-TypeKind, roll-out-TypeKind, fold-roll-TypeKind}
use Rattle.erl_tree.specs.declared.type_expr.MapPart.{MapPart}
use Rattle.erl_tree.specs.declared.type_expr.TypeKind.TheVariants as Y
use Rattle.erl_tree.specs.declared.type_expr.TypeKind.TheOpen as L
use Rattle.erl_tree.specs.declared.token.Place.{Place}
use Rattle.flat_modules.specs.Grammar.{IsType, one_type, atom_type}
use Rattle.erl_runs.specs.Specs.{and_then, one_integer}
use Rattle.flat_modules.specs.FlatSpecs.{built_in_type, type_kind_term, type_term}
use Rattle.flat_modules.proofs.FlatTermLaws.{type_kind_term-Atom, type_kind_term-Int, type_kind_term-NegInt, type_kind_term-Paren, type_kind_term-Or, type_kind_term-Range, type_kind_term-Use}
use Rattle.flat_modules.proofs.GrammarLaws.{flat_type_layer, type-layer}
use Rattle.cert_checker.specs.FlatTypes.{is_limited, is_limited_end, limited_type_layer, is_limited_type, IsFlatType, range_term}
use Rattle.cert_checker.proofs.Lists.{then-some, some-inj}

-- ---- the limits of types

pub limited-Int : (n : ℤ) → is_limited_type (Y.Int n) ≡ is_limited n
unfolding is_limited_type
limited-Int n = ap (λ k. is_limited_type k) (sym (Y.rolls-Int n)) ∙ fold-roll-TypeKind Bool (Unit {0}) limited_type_layer (λ part. tt) (L.Int n)

pub limited-NegInt : (n : ℤ) → is_limited_type (Y.NegInt n) ≡ is_limited n
unfolding is_limited_type
limited-NegInt n = ap (λ k. is_limited_type k) (sym (Y.rolls-NegInt n)) ∙ fold-roll-TypeKind Bool (Unit {0}) limited_type_layer (λ part. tt) (L.NegInt n)

pub limited-Paren : (t : Node TypeKind) → is_limited_type (Y.Paren t) ≡ is_limited_type t.kind
unfolding is_limited_type
limited-Paren t = ap (λ k. is_limited_type k) (sym (Y.rolls-Paren t)) ∙ fold-roll-TypeKind Bool (Unit {0}) limited_type_layer (λ part. tt) (L.Paren t)

pub limited-Or : (t u : Node TypeKind) → is_limited_type (Y.Or t u) ≡ (is_limited_type t.kind && is_limited_type u.kind)
unfolding is_limited_type
limited-Or t u = ap (λ k. is_limited_type k) (sym (Y.rolls-Or t u)) ∙ fold-roll-TypeKind Bool (Unit {0}) limited_type_layer (λ part. tt) (L.Or t u)

pub limited-Range : (low high : Node LiteralKind) → is_limited_type (Y.Range low high) ≡ (is_limited_end low.kind && is_limited_end high.kind)
unfolding is_limited_type
limited-Range low high = ap (λ k. is_limited_type k) (sym (Y.rolls-Range low high)) ∙ fold-roll-TypeKind Bool (Unit {0}) limited_type_layer (λ part. tt) (L.Range low high)

pub limited-Atom : (a : Name) → is_limited_type (Y.Atom a) ≡ true
unfolding is_limited_type
limited-Atom a = ap (λ k. is_limited_type k) (sym (Y.rolls-Atom a)) ∙ fold-roll-TypeKind Bool (Unit {0}) limited_type_layer (λ part. tt) (L.Atom a)

pub limited-Use : (name : Name) → is_limited_type (Y.Use None name []) ≡ true
unfolding is_limited_type
limited-Use name = ap (λ k. is_limited_type k) (sym (Y.rolls-Use None name [])) ∙ fold-roll-TypeKind Bool (Unit {0}) limited_type_layer (λ part. tt) (L.Use None name [])

-- ---- what each form of a type has

-- the layer of a type that is known to be this form
layer-at : (t : Node TypeKind) (k : TypeKind) (l : L.TypeKind-F TypeKind MapPart) → t.kind ≡ k → out-TypeKind k ≡ l → IsType t → flat_type_layer l
layer-at t k l e o w = subst flat_type_layer (ap out-TypeKind e ∙ o) (type-layer t w)

pub flat-Int : (t : Node TypeKind) (n : ℤ) → IsFlatType t → t.kind ≡ Y.Int n → is_limited n ≡ true
flat-Int t n f e = sym (ap is_limited_type e ∙ limited-Int n) ∙ f.limited

pub flat-NegInt : (t : Node TypeKind) (n : ℤ) → IsFlatType t → t.kind ≡ Y.NegInt n → is_limited n ≡ true
flat-NegInt t n f e = sym (ap is_limited_type e ∙ limited-NegInt n) ∙ f.limited

pub flat-Paren : (t u : Node TypeKind) → IsFlatType t → t.kind ≡ Y.Paren u → IsFlatType u
flat-Paren t u f e = record {
  well_formed = layer-at t (Y.Paren u) (L.Paren u) e (Y.outs-Paren u) f.well_formed;
  limited = sym (ap is_limited_type e ∙ limited-Paren u) ∙ f.limited;
  term = f.term;
  read = sym (ap type_kind_term e ∙ type_kind_term-Paren u) ∙ f.read;
}

pub flat-Or : (t u v : Node TypeKind) → IsFlatType t → t.kind ≡ Y.Or u v → IsFlatType u × IsFlatType v
flat-Or t u v f e =
    let w : IsType u × IsType v = layer-at t (Y.Or u v) (L.Or u v) e (Y.outs-Or u v) f.well_formed in
    let l : (is_limited_type u.kind ≡ true) × (is_limited_type v.kind ≡ true) = and_parts _ _ (sym (ap is_limited_type e ∙ limited-Or u v) ∙ f.limited) in
    let p : (a : Term) × (type_term u ≡ Some a) × (and_then (type_term v) (λ b. Some (Or (a ∷ b ∷ []))) ≡ Some f.term) = then-some (type_term u) _ f.term (sym (ap type_kind_term e ∙ type_kind_term-Or u v) ∙ f.read) in
    let q : (b : Term) × (type_term v ≡ Some b) × (Some (Or (p.0 ∷ b ∷ [])) ≡ Some f.term) = then-some (type_term v) _ f.term p.2 in
    (record { well_formed = w.0; limited = l.0; term = p.0; read = p.1 }, record { well_formed = w.1; limited = l.1; term = q.0; read = q.1 })

pub flat-Range : (t : Node TypeKind) (low high : Node LiteralKind) → IsFlatType t → t.kind ≡ Y.Range low high → (is_limited_end low.kind ≡ true) × (is_limited_end high.kind ≡ true)
flat-Range t low high f e = and_parts _ _ (sym (ap is_limited_type e ∙ limited-Range low high) ∙ f.limited)

pub Range-term : (t : Node TypeKind) (low high : Node LiteralKind) → t.kind ≡ Y.Range low high → type_term t ≡ range_term low high
Range-term t low high e = ap type_kind_term e ∙ type_kind_term-Range low high

-- a use has no prefix and no arguments
pub Use-term : (t : Node TypeKind) (prefix : Option Name) (name : Name) (args : List (Node TypeKind)) → IsFlatType t → t.kind ≡ Y.Use prefix name args → type_term t ≡ built_in_type name
Use-term t prefix name args f e = go prefix args e (layer-at t (Y.Use prefix name args) (L.Use prefix name args) e (Y.outs-Use prefix name args) f.well_formed)
  where
    go : (prefix : Option Name) (args : List (Node TypeKind)) → t.kind ≡ Y.Use prefix name args → flat_type_layer (L.Use prefix name args) → type_term t ≡ built_in_type name
    go None [] e h = ap type_kind_term e ∙ type_kind_term-Use name
    go None (a ∷ args) e h = absurd h
    go (Some p) args e h = absurd h

pub Atom-term : (t : Node TypeKind) (a : Name) → t.kind ≡ Y.Atom a → type_term t ≡ Some (AtomLit a)
Atom-term t a e = ap type_kind_term e ∙ type_kind_term-Atom a

pub Int-term : (t : Node TypeKind) (n : ℤ) → t.kind ≡ Y.Int n → type_term t ≡ Some (one_integer n)
Int-term t n e = ap type_kind_term e ∙ type_kind_term-Int n

-- a type of a flat module is of one of the forms
pub type-forms : (t : Node TypeKind) → IsFlatType t → ((a : Name) → t.kind ≡ Y.Atom a → ⊥) → ((n : ℤ) → t.kind ≡ Y.Int n → ⊥) → ((n : ℤ) → t.kind ≡ Y.NegInt n → ⊥) → ((u : Node TypeKind) → t.kind ≡ Y.Paren u → ⊥) → ((u v : Node TypeKind) → t.kind ≡ Y.Or u v → ⊥) → ((l h : Node LiteralKind) → t.kind ≡ Y.Range l h → ⊥) → ((prefix : Option Name) (name : Name) (args : List (Node TypeKind)) → t.kind ≡ Y.Use prefix name args → ⊥) → ⊥
type-forms t f atom int neg paren or range use_ = go (out-TypeKind t.kind) refl (type-layer t f.well_formed)
  where
    back : (l : L.TypeKind-F TypeKind MapPart) → out-TypeKind t.kind ≡ l → t.kind ≡ roll-TypeKind l
    back l e = sym (roll-out-TypeKind t.kind) ∙ ap roll-TypeKind e

    go : (l : L.TypeKind-F TypeKind MapPart) → out-TypeKind t.kind ≡ l → flat_type_layer l → ⊥
    go (L.Atom a) e h = atom a (back (L.Atom a) e ∙ Y.rolls-Atom a)
    go (L.Int n) e h = int n (back (L.Int n) e ∙ Y.rolls-Int n)
    go (L.NegInt n) e h = neg n (back (L.NegInt n) e ∙ Y.rolls-NegInt n)
    go (L.Paren u) e h = paren u (back (L.Paren u) e ∙ Y.rolls-Paren u)
    go (L.Or u v) e h = or u v (back (L.Or u v) e ∙ Y.rolls-Or u v)
    go (L.Range l u) e h = range l u (back (L.Range l u) e ∙ Y.rolls-Range l u)
    go (L.Use p n as_) e h = use_ p n as_ (back (L.Use p n as_) e ∙ Y.rolls-Use p n as_)
    go _ e h = absurd h

pub NegInt-term : (t : Node TypeKind) (n : ℤ) → t.kind ≡ Y.NegInt n → type_term t ≡ Some (one_integer (neg_ℤ n))
NegInt-term t n e = ap type_kind_term e ∙ type_kind_term-NegInt n

pub Paren-term : (t u : Node TypeKind) → t.kind ≡ Y.Paren u → type_term t ≡ type_term u
Paren-term t u e = ap type_kind_term e ∙ type_kind_term-Paren u

pub Or-term : (t u v : Node TypeKind) (w : Term) → t.kind ≡ Y.Or u v → type_term t ≡ Some w → (a b : Term) × (type_term u ≡ Some a) × (type_term v ≡ Some b) × (Or (a ∷ b ∷ []) ≡ w)
Or-term t u v w e r =
    let p : (a : Term) × (type_term u ≡ Some a) × (and_then (type_term v) (λ b. Some (Or (a ∷ b ∷ []))) ≡ Some w) = then-some (type_term u) _ w (sym (ap type_kind_term e ∙ type_kind_term-Or u v) ∙ r) in
    let q : (b : Term) × (type_term v ≡ Some b) × (Some (Or (p.0 ∷ b ∷ [])) ≡ Some w) = then-some (type_term v) _ w p.2 in
    (p.0, q.0, p.1, q.1, some-inj _ w q.2)

-- an atom is a type of a flat module
pub atom-flat : (p : Place) (ms : List Place) (k : TypeKind) (a : Name) → ms ≡ p ∷ [] → k ≡ Y.Atom a → IsFlatType (record { place = p; marks = ms; kind = k })
atom-flat p ms k a e q =
    subst (λ z. IsFlatType (record { place = p; marks = z; kind = k })) (sym e)
    (subst (λ z. IsFlatType (record { place = p; marks = p ∷ []; kind = z })) (sym q)
    (record { well_formed = one_type _ (atom_type p a); limited = limited-Atom a; term = AtomLit a; read = type_kind_term-Atom a }))
