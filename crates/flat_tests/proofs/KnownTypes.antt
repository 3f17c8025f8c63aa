-- What the test of a type answers, by its form.
use Rattle.std.proofs.Common.{◌≡◌, Bool, true, false, List, [], ◌∷◌, ◌↔◌, sym, ap, ◌∙◌, subst, Option}
use Rattle.std.specs.Prelude.{IsSome, IsTrue}
use Rattle.type_terms.specs.Keys.{Name}
use Rattle.type_terms.specs.declared.term.Term.{Term, Or}
use Rattle.erl_tree.specs.declared.token.Node.{Node}
use Rattle.erl_tree.specs.declared.pattern.LiteralKind.{LiteralKind}
use Rattle.erl_tree.specs.declared.type_expr.TypeKind.{TypeKind}
use Rattle.erl_tree.specs.declared.type_expr.TypeKind.TheVariants as Y
use Rattle.flat_modules.specs.FlatSpecs.{type_term, type_kind_term}
use Rattle.flat_modules.proofs.FlatTermLaws.{type_kind_term-Paren, type_kind_term-Or, type_kind_term-Range}
use Rattle.flat_tests.specs.Names.{range_term, use_term}
use Rattle.flat_tests.proofs.OneLevel.{term_of, type_kind_term-out}
use Rattle.flat_tests.proofs.SpecTerms.{both_known, first_unknown}

-- a test of a term is one of the term that it is
by : (b : Bool) (o p : Option Term) → o ≡ p → (IsTrue b ↔ IsSome p) → IsTrue b ↔ IsSome o
by b o p e says = subst (λ (q : Option Term). IsTrue b ↔ IsSome q) (sym e) says

module _ (k j : TypeKind) (here : j ≡ k) where
  pub known_in_parens : (t : Node TypeKind) (b : Bool) → j ≡ Y.Paren t → (IsTrue b ↔ IsSome (type_term t)) → IsTrue b ↔ IsSome (type_kind_term k)
  known_in_parens t b is says = by b _ (type_term t) (ap type_kind_term (sym here ∙ is) ∙ type_kind_term-Paren t) says

  pub known_range : (low high : Node LiteralKind) (b : Bool) → j ≡ Y.Range low high → (IsTrue b ↔ IsSome (range_term low.kind high.kind)) → IsTrue b ↔ IsSome (type_kind_term k)
  known_range low high b is says = by b _ (range_term low.kind high.kind) (ap type_kind_term (sym here ∙ is) ∙ type_kind_term-Range low high) says

  module _ (t u : Node TypeKind) (is : j ≡ Y.Or t u) (a : Bool) (says : IsTrue a ↔ IsSome (type_term t)) where
    pub known_union : (b : Bool) → a ≡ true → (IsTrue b ↔ IsSome (type_term u)) → IsTrue b ↔ IsSome (type_kind_term k)
    known_union b holds tells =
        by b _ _ (ap type_kind_term (sym here ∙ is) ∙ type_kind_term-Or t u) (both_known (type_term t) (type_term u) (λ (x y : Term). Or (x ∷ y ∷ [])) a b says holds tells)

    pub unknown_union : a ≡ false → IsTrue a ↔ IsSome (type_kind_term k)
    unknown_union fails =
        by a _ _ (ap type_kind_term (sym here ∙ is) ∙ type_kind_term-Or t u) (first_unknown (type_term t) (type_term u) (λ (x y : Term). Or (x ∷ y ∷ [])) a says fails)

  pub known_use : (prefix : Option Name) (name : Name) (args : List (Node TypeKind)) (b : Bool) → j ≡ Y.Use prefix name args → (IsTrue b ↔ IsSome (use_term prefix name args)) → IsTrue b ↔ IsSome (type_kind_term k)
  known_use prefix name args b is says = by b _ _ (ap type_kind_term (sym here ∙ is) ∙ (type_kind_term-out (Y.Use prefix name args) ∙ ap term_of (Y.outs-Use prefix name args))) says
