-- No variable stands in the term of a flat type.
use Rattle.std.proofs.Common.{◌≡◌, refl, sym, subst, ◌∙◌, ℕ, ℤ, [], ◌∷◌}
use Rattle.std.specs.Prelude.{Option, Some, None as Nothing, Bool, true, false, if◌then◌else◌, codes}
use Rattle.std.specs.Str.{bytes_eq}
use Rattle.type_terms.specs.Keys.{Name}
use Rattle.type_terms.specs.Reading.{le_int}
use Rattle.type_terms.specs.declared.term.Term.{Term, Ints, AnyAtom, Or}
use Rattle.erl_tree.specs.declared.type_expr.TypeKind.{TypeKind, roll-TypeKind, map-TypeKind, ind-TypeKind, fold-roll-TypeKind}
use Rattle.erl_tree.specs.declared.type_expr.MapPart.{MapPart}
use Rattle.erl_tree.specs.declared.type_expr.TypeKind.TheOpen as O
use Rattle.erl_runs.specs.Specs.{one_integer, range}
use Rattle.flat_modules.specs.FlatSpecs.{end_of, built_in_type, type_term_layer, type_kind_term}
use Rattle.typespecs_rules.specs.SpecTerms.{holds_variable, some_true}
use Rattle.typespecs_rules.proofs.VariableLaws.{holds-Ints, holds-AtomLit, holds-AnyAtom, holds-Or}
use Rattle.flat_modules.proofs.FlatTypeTerms.{then-value}

-- no variable stands in a term
abbrev pub HoldsNone : Term → Type 0
HoldsNone t = (n : ℕ) → holds_variable n t ≡ false

pub some-is : {A : Type 0} (a b : A) → Some a ≡ Some b → a ≡ b
some-is a b e = cc

at-term : (t u : Term) → Some t ≡ Some u → HoldsNone t → HoldsNone u
at-term t u e h = subst HoldsNone (some-is t u e) h

integer-none : (i : ℤ) → HoldsNone (one_integer i)
integer-none i n = holds-Ints n (Some i) (Some i)

range-none : (low high : ℤ) (t : Term) → range low high ≡ Some t → HoldsNone t
range-none low high t e = go (le_int low high) e
  where
    go : (b : Bool) → (if b then Some (Ints (Some low) (Some high)) else Nothing) ≡ Some t → HoldsNone t
    go true h = at-term _ t h (λ n. holds-Ints n (Some low) (Some high))
    go false h = absurd (cc)

built-in-none : (name : Name) (t : Term) → built_in_type name ≡ Some t → HoldsNone t
built-in-none name t e = go (bytes_eq name (codes "integer")) (bytes_eq name (codes "atom")) e
  where
    go : (b c : Bool) → (if b then Some (Ints Nothing Nothing) else (if c then Some AnyAtom else Nothing)) ≡ Some t → HoldsNone t
    go true c h = at-term _ t h (λ n. holds-Ints n Nothing Nothing)
    go false true h = at-term _ t h (λ n. holds-AnyAtom n)
    go false false h = absurd (cc)

neither-holds : (b c : Bool) → b ≡ false → c ≡ false → some_true (b ∷ c ∷ []) ≡ false
neither-holds true c h k = h
neither-holds false true h k = k
neither-holds false false h k = refl

union-none : (t u : Term) → HoldsNone t → HoldsNone u → HoldsNone (Or (t ∷ u ∷ []))
union-none t u h k n = holds-Or n (t ∷ u ∷ []) ∙ neither-holds (holds_variable n t) (holds_variable n u) (h n) (k n)

abbrev TermHoldsNone : TypeKind → Type 0
TermHoldsNone k = (t : Term) → type_kind_term k ≡ Some t → HoldsNone t

abbrev Part : MapPart → Type 0
Part q = Unit {0}

abbrev Kinds : Type 0
Kinds = (k : TypeKind) × TermHoldsNone k

abbrev Parts : Type 0
Parts = (q : MapPart) × Part q

abbrev plain : O.TypeKind-F Kinds Parts → O.TypeKind-F TypeKind MapPart
plain y = map-TypeKind Kinds Parts TypeKind MapPart (λ k. k.0) (λ q. q.0) y

layer-none : (y : O.TypeKind-F Kinds Parts) (t : Term) → type_term_layer (map-TypeKind TypeKind MapPart (Option Term) (Unit {0}) type_kind_term (λ part. tt) (plain y)) ≡ Some t → HoldsNone t
layer-none (O.Atom a) t e = at-term _ t e (λ n. holds-AtomLit n a)
layer-none (O.Int n) t e = at-term _ t e (integer-none _)
layer-none (O.NegInt n) t e = at-term _ t e (integer-none _)
layer-none (O.Paren p) t e = p.kind.1 t e
layer-none (O.Or p q) t e =
    let a = then-value _ _ _ e in
    let b = then-value _ _ _ a.2 in
    at-term _ t b.2 (union-none a.0 b.0 (p.kind.1 a.0 a.1) (q.kind.1 b.0 b.1))
layer-none (O.Range low high) t e =
    let l = then-value (end_of low.kind) _ _ e in
    let h = then-value (end_of high.kind) _ _ l.2 in
    range-none l.0 h.0 t h.2
layer-none (O.Use Nothing name []) t e = built-in-none name t e
layer-none (O.Use Nothing name (p ∷ ps)) t e = absurd (cc)
layer-none (O.Use (Some prefix) name args) t e = absurd (cc)
layer-none (O.Char c) t e = absurd (cc)
layer-none (O.Var x) t e = absurd (cc)
layer-none (O.Named x p) t e = absurd (cc)
layer-none O.Nil t e = absurd (cc)
layer-none (O.ListOf p) t e = absurd (cc)
layer-none (O.NonEmpty p) t e = absurd (cc)
layer-none (O.Tuple ps) t e = absurd (cc)
layer-none (O.Map parts) t e = absurd (cc)
layer-none O.FunAll t e = absurd (cc)
layer-none (O.Fun ps r) t e = absurd (cc)
layer-none (O.Rec name tag fs) t e = absurd (cc)

kind-none : (y : O.TypeKind-F Kinds Parts) → TermHoldsNone (roll-TypeKind (plain y))
unfolding type_kind_term
kind-none y t e = layer-none y t (sym (fold-roll-TypeKind (Option Term) (Unit {0}) type_term_layer (λ part. tt) (plain y)) ∙ e)

pub flat-holds-none : (k : TypeKind) → TermHoldsNone k
flat-holds-none = ind-TypeKind TermHoldsNone Part (λ x y e. subst (λ z. TermHoldsNone (roll-TypeKind z)) e (kind-none y)) (λ x y e. tt)
