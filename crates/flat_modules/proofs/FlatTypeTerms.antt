-- A type of a flat module has the term that it has there.
use Rattle.std.proofs.Common.{◌≡◌, refl, ap, sym, subst, ◌∙◌, [], ◌∷◌, ◌&&◌}
use Rattle.std.specs.Prelude.{Option, Some, None as Nothing, Bool, true, false, if◌then◌else◌, nat_eq, codes}
use Rattle.std.specs.Str.{bytes_eq}
use Rattle.type_terms.specs.Keys.{Name, same_name}
use Rattle.type_terms.specs.declared.term.Term.{Term, Ints, AnyAtom, Or}
use Rattle.type_terms.proofs.KeyLaws.{name-is}
use Rattle.erl_tree.specs.declared.token.Node.{Node}
use Rattle.erl_tree.specs.declared.pattern.LiteralKind.{LiteralKind}
use Rattle.erl_tree.specs.declared.pattern.LiteralKind.TheVariants as L
use Rattle.erl_tree.specs.declared.type_expr.TypeKind.{TypeKind, roll-TypeKind, map-TypeKind, ind-TypeKind, fold-roll-TypeKind}
use Rattle.erl_tree.specs.declared.type_expr.MapPart.{MapPart}
use Rattle.erl_tree.specs.declared.type_expr.TypeKind.TheOpen as O
use Rattle.erl_runs.specs.Specs.{and_then, range}
use Rattle.flat_modules.specs.FlatSpecs.{end_of, type_term_layer, type_kind_term as flat_kind_term}
use Rattle.typespecs_rules.specs.Declarations.{Declarations}
use Rattle.typespecs_rules.specs.TypeTerms.{MapEntry, RecordTuple, range_end, range_term, used_term, term_layer}
use Rattle.typespecs_rules.proofs.TypeRuleLaws.{of_kind, with_term, with_entry, term-rolls}

same-bytes : (m n : Name) → same_name m n ≡ bytes_eq m n
same-bytes [] [] = refl
same-bytes [] (n ∷ ns) = refl
same-bytes (m ∷ ms) [] = refl
same-bytes (m ∷ ms) (n ∷ ns) = ap (λ b. nat_eq m n && b) (same-bytes ms ns)

-- the value of a step, where the whole has one
pub then-value : {A B : Type 0} (o : Option A) (f : A → Option B) (b : B) → and_then o f ≡ Some b → (a : A) × (o ≡ Some a) × (f a ≡ Some b)
then-value Nothing f b e = absurd (cc)
then-value (Some a) f b e = (a, refl, e)

end-same : (l : LiteralKind) (n : _) → end_of l ≡ Some n → range_end l ≡ Some n
end-same (L.Int n) m e = e
end-same (L.NegInt n) m e = e
end-same (L.Atom a) m e = absurd (cc)
end-same (L.Char c) m e = absurd (cc)

range-same : (low high : Node LiteralKind) (t : Term) → and_then (end_of low.kind) (λ l. and_then (end_of high.kind) (λ h. range l h)) ≡ Some t → range_term low high ≡ Some t
range-same low high t e =
    let l = then-value _ _ _ e in
    let h = then-value _ _ _ l.2 in
    ap (λ o. and_then o (λ l'. and_then (range_end high.kind) (λ h'. range l' h'))) (end-same low.kind l.0 l.1) ∙ (ap (λ o. and_then o (λ h'. range l.0 h')) (end-same high.kind h.0 h.1) ∙ h.2)

name-same : (name other : Name) → bytes_eq name other ≡ true → name ≡ other
name-same name other e = name-is name other (same-bytes name other ∙ e)

module _ (declared : Declarations) where
  used-same : (name : Name) (b c : Bool) → bytes_eq name (codes "integer") ≡ b → bytes_eq name (codes "atom") ≡ c → (t : Term) → (if b then Some (Ints Nothing Nothing) else (if c then Some AnyAtom else Nothing)) ≡ Some t → used_term declared name [] ≡ Some t
  used-same name true c e f t h = ap (λ n. used_term declared n []) (name-same name (codes "integer") e) ∙ h
  used-same name false true e f t h = ap (λ n. used_term declared n []) (name-same name (codes "atom") f) ∙ h
  used-same name false false e f t h = absurd (cc)

module _ (declared : Declarations) (tuples : Name → Option RecordTuple) (variables : Name → Option Term) where
  abbrev Same : TypeKind → Type 0
  Same k = (t : Term) → flat_kind_term k ≡ Some t → of_kind declared tuples variables k ≡ Some t

  abbrev SamePart : MapPart → Type 0
  SamePart q = Unit {0}

  abbrev Kinds : Type 0
  Kinds = (k : TypeKind) × Same k

  abbrev Parts : Type 0
  Parts = (q : MapPart) × SamePart q

  abbrev plain : O.TypeKind-F Kinds Parts → O.TypeKind-F TypeKind MapPart
  plain y = map-TypeKind Kinds Parts TypeKind MapPart (λ k. k.0) (λ q. q.0) y

  layer-same : (y : O.TypeKind-F Kinds Parts) (t : Term) → type_term_layer (map-TypeKind TypeKind MapPart (Option Term) (Unit {0}) flat_kind_term (λ part. tt) (plain y)) ≡ Some t → term_layer declared tuples variables (map-TypeKind TypeKind MapPart (TypeKind × Option Term) (MapPart × Option MapEntry) (with_term declared tuples variables) (with_entry declared tuples variables) (plain y)) ≡ Some t
  layer-same (O.Atom a) t e = e
  layer-same (O.Int n) t e = e
  layer-same (O.NegInt n) t e = e
  layer-same (O.Paren p) t e = p.kind.1 t e
  layer-same (O.Or p q) t e =
      let a = then-value _ _ _ e in
      let b = then-value _ _ _ a.2 in
      ap (λ o. and_then o (λ x. and_then (of_kind declared tuples variables q.kind.0) (λ y. Some (Or (x ∷ y ∷ []))))) (p.kind.1 a.0 a.1) ∙ (ap (λ o. and_then o (λ y. Some (Or (a.0 ∷ y ∷ [])))) (q.kind.1 b.0 b.1) ∙ b.2)
  layer-same (O.Range low high) t e = range-same low high t e
  layer-same (O.Use Nothing name []) t e = used-same declared name _ _ refl refl t e
  layer-same (O.Use Nothing name (p ∷ ps)) t e = absurd (cc)
  layer-same (O.Use (Some prefix) name args) t e = absurd (cc)
  layer-same (O.Char c) t e = absurd (cc)
  layer-same (O.Var x) t e = absurd (cc)
  layer-same (O.Named x p) t e = absurd (cc)
  layer-same O.Nil t e = absurd (cc)
  layer-same (O.ListOf p) t e = absurd (cc)
  layer-same (O.NonEmpty p) t e = absurd (cc)
  layer-same (O.Tuple ps) t e = absurd (cc)
  layer-same (O.Map parts) t e = absurd (cc)
  layer-same O.FunAll t e = absurd (cc)
  layer-same (O.Fun ps r) t e = absurd (cc)
  layer-same (O.Rec name tag fs) t e = absurd (cc)

  kind-same : (y : O.TypeKind-F Kinds Parts) → Same (roll-TypeKind (plain y))
  unfolding flat_kind_term
  kind-same y t e = term-rolls declared tuples variables (plain y) ∙ layer-same y t (sym (fold-roll-TypeKind (Option Term) (Unit {0}) type_term_layer (λ part. tt) (plain y)) ∙ e)

  pub all-same : (k : TypeKind) → Same k
  all-same = ind-TypeKind Same SamePart (λ x y e. subst (λ z. Same (roll-TypeKind z)) e (kind-same y)) (λ x y e. tt)
