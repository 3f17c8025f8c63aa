-- The equations of the terms of types: one for each form of a flat module.
use Rattle.std.proofs.Common.{◌≡◌, ap, sym, ◌∙◌, ℤ, [], ◌∷◌}
use Rattle.std.specs.Prelude.{Option, Some, None, neg_ℤ}
use Rattle.type_terms.specs.Keys.{Name}
use Rattle.type_terms.specs.declared.term.Term.{Term, AtomLit, Or}
use Rattle.erl_tree.specs.declared.token.Node.{Node}
use Rattle.erl_tree.specs.declared.pattern.LiteralKind.{LiteralKind}
use Rattle.erl_tree.specs.declared.type_expr.TypeKind.{TypeKind, fold-roll-TypeKind}
use Rattle.erl_tree.specs.declared.type_expr.TypeKind.TheVariants as Y
use Rattle.erl_tree.specs.declared.type_expr.TypeKind.TheOpen as L
use Rattle.erl_runs.specs.Specs.{one_integer, range, and_then}
use Rattle.flat_modules.specs.FlatSpecs.{end_of, built_in_type, type_term_layer, type_kind_term, type_term}

pub type_kind_term-Atom : (a : Name) → type_kind_term (Y.Atom a) ≡ Some (AtomLit a)
unfolding type_kind_term
type_kind_term-Atom a = ap (λ k. type_kind_term k) (sym (Y.rolls-Atom a)) ∙ fold-roll-TypeKind (Option Term) (Unit {0}) type_term_layer (λ part. tt) (L.Atom a)

pub type_kind_term-Int : (n : ℤ) → type_kind_term (Y.Int n) ≡ Some (one_integer n)
unfolding type_kind_term
type_kind_term-Int n = ap (λ k. type_kind_term k) (sym (Y.rolls-Int n)) ∙ fold-roll-TypeKind (Option Term) (Unit {0}) type_term_layer (λ part. tt) (L.Int n)

pub type_kind_term-NegInt : (n : ℤ) → type_kind_term (Y.NegInt n) ≡ Some (one_integer (neg_ℤ n))
unfolding type_kind_term
type_kind_term-NegInt n = ap (λ k. type_kind_term k) (sym (Y.rolls-NegInt n)) ∙ fold-roll-TypeKind (Option Term) (Unit {0}) type_term_layer (λ part. tt) (L.NegInt n)

pub type_kind_term-Paren : (t : Node TypeKind) → type_kind_term (Y.Paren t) ≡ type_term t
unfolding type_kind_term
type_kind_term-Paren t = ap (λ k. type_kind_term k) (sym (Y.rolls-Paren t)) ∙ fold-roll-TypeKind (Option Term) (Unit {0}) type_term_layer (λ part. tt) (L.Paren t)

pub type_kind_term-Or : (t u : Node TypeKind) → type_kind_term (Y.Or t u) ≡ and_then (type_term t) (λ a. and_then (type_term u) (λ b. Some (Or (a ∷ b ∷ []))))
unfolding type_kind_term
type_kind_term-Or t u = ap (λ k. type_kind_term k) (sym (Y.rolls-Or t u)) ∙ fold-roll-TypeKind (Option Term) (Unit {0}) type_term_layer (λ part. tt) (L.Or t u)

pub type_kind_term-Range : (low high : Node LiteralKind) → type_kind_term (Y.Range low high) ≡ and_then (end_of low.kind) (λ l. and_then (end_of high.kind) (λ h. range l h))
unfolding type_kind_term
type_kind_term-Range low high = ap (λ k. type_kind_term k) (sym (Y.rolls-Range low high)) ∙ fold-roll-TypeKind (Option Term) (Unit {0}) type_term_layer (λ part. tt) (L.Range low high)

pub type_kind_term-Use : (name : Name) → type_kind_term (Y.Use None name []) ≡ built_in_type name
unfolding type_kind_term
type_kind_term-Use name = ap (λ k. type_kind_term k) (sym (Y.rolls-Use None name [])) ∙ fold-roll-TypeKind (Option Term) (Unit {0}) type_term_layer (λ part. tt) (L.Use None name [])

pub ruleset type_term_laws = (type_kind_term-Atom, type_kind_term-Int, type_kind_term-NegInt, type_kind_term-Paren, type_kind_term-Or, type_kind_term-Range, type_kind_term-Use)
