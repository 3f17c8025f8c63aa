-- What is said of the one expression of a function's body.
use Rattle.std.proofs.Common.{◌≡◌, sym, ◌∙◌, ap, subst, ◌+◌, List, [], ◌∷◌}
use Rattle.std.specs.Prelude.{Some, None, slice_get}
use Rattle.type_terms.specs.declared.term.Term.{Term}
use Rattle.erl_tree.specs.declared.token.Node.{Node}
use Rattle.erl_tree.specs.declared.expr.ExprKind.{ExprKind}
use Rattle.erl_tree.specs.declared.expr.ExprKind.TheOpen as E
use Rattle.erl_tree.specs.declared.expr.ItemKind.{ItemKind, out-ItemKind}
use Rattle.erl_tree.specs.declared.expr.ClauseKind.{ClauseKind, out-ClauseKind}
use Rattle.erl_tree.specs.declared.expr.QualifierKind.{QualifierKind}
use Rattle.erl_tree.specs.declared.expr.AssocKind.{AssocKind}
use Rattle.erl_tree.specs.declared.expr.CatchKind.{CatchKind}
use Rattle.erl_tree.specs.Lists.{Every}
use Rattle.cert_checker.specs.declared.refusal.FirstRefusal.{FirstRefusal}
use Rattle.cert_checker.specs.declared.spec_table.FunctionTypes.{FunctionTypes}
use Rattle.cert_checker.specs.declared.scope.Scope.{Scope}
use Rattle.cert_checker.specs.Constraints.{Judged, Holds, judge, variable_type, owed_result}
use Rattle.cert_checker.specs.Failures.{ShowsFailure}
use Rattle.cert_checker.specs.FlatTypes.{IsSetOf, AreSetsOf}
use Rattle.cert_checker.specs.Judging.{Setting, JudgedBy, IsBodyOf, IsJudgedBody, owed_in, FunctionSetting, IsClauseOf, ClauseJudgedBy, AreJudgedClauses}
use Rattle.cert_checker.proofs.Lists.{some-inj, none-some}

-- ---- the expression of a body

value-inj : (e f : Node ExprKind) (l : E.ItemKind-F ExprKind ItemKind QualifierKind AssocKind CatchKind ClauseKind) → l ≡ E.Value e → l ≡ E.Value f → e ≡ f
value-inj e f l p q = go (sym p ∙ q)
  where
    go : ◌≡◌ {A = E.ItemKind-F ExprKind ItemKind QualifierKind AssocKind CatchKind ClauseKind} (E.Value e) (E.Value f) → e ≡ f
    go r = cc

first-inj : (i j : Node ItemKind) → i ∷ [] ≡ j ∷ [] → i ≡ j
first-inj i j e = cc

pub body-item : (body : List (Node ItemKind)) (i : Node ItemKind) (e : Node ExprKind) → Some i ≡ slice_get body 0 → (h : IsBodyOf body e) → h.item ≡ i
body-item body i e q h = some-inj h.item i (sym (ap (λ z. slice_get z 0) h.one) ∙ sym q)

pub body-expression : (body : List (Node ItemKind)) (i : Node ItemKind) (e f : Node ExprKind) → Some i ≡ slice_get body 0 → out-ItemKind i.kind ≡ E.Value f → IsBodyOf body e → e ≡ f
body-expression body i e f q v h = value-inj e f (out-ItemKind i.kind) (subst (λ (z : Node ItemKind). out-ItemKind z.kind ≡ E.Value e) (body-item body i e q h) h.is_value) v

pub no-body : (body : List (Node ItemKind)) (e : Node ExprKind) → None ≡ slice_get body 0 → IsBodyOf body e → ⊥
no-body body e q h = none-some h.item (q ∙ ap (λ z. slice_get z 0) h.one)

pub no-match : (body : List (Node ItemKind)) (i : Node ItemKind) (e : Node ExprKind) (l : E.ItemKind-F ExprKind ItemKind QualifierKind AssocKind CatchKind ClauseKind) → Some i ≡ slice_get body 0 → out-ItemKind i.kind ≡ l → (E.Value e ≡ l → ⊥) → IsBodyOf body e → ⊥
no-match body i e l q v n h = n (sym (subst (λ (z : Node ItemKind). out-ItemKind z.kind ≡ E.Value e) (body-item body i e q h) h.is_value) ∙ v)

-- ---- the clause

pub clause-kind : (clauses : List (Node ClauseKind)) (c d : Node ClauseKind) (kind : ClauseKind) (e : Node ExprKind) → Some c ≡ slice_get clauses 0 → kind ≡ c.kind → IsClauseOf clauses d e → d.kind ≡ kind
clause-kind clauses c d kind e q k h = ap (λ (z : Node ClauseKind). z.kind) (some-inj d c (sym (ap (λ z. slice_get z 0) h.one) ∙ sym q)) ∙ sym k

pub no-clause : (clauses : List (Node ClauseKind)) (d : Node ClauseKind) (e : Node ExprKind) → None ≡ slice_get clauses 0 → IsClauseOf clauses d e → ⊥
no-clause clauses d e q h = none-some d (q ∙ ap (λ z. slice_get z 0) h.one)

-- the setting of a function's body
abbrev pub setting_in : (scope : Scope) (types : FunctionTypes) → scope.params.now ≡ types.params → FunctionSetting scope.table.now types → Setting scope
setting_in scope types p s = record { fits = s.fits; finds = s.finds; specs = s.specs; holds = s.holds; types = s.arrow.params; described = subst (λ z. AreSetsOf z s.arrow.params) (sym p) s.typed.params }

module _ (scope : Scope) (types : FunctionTypes) (params : scope.params.now ≡ types.params) (kind : ClauseKind) (patterns : scope.patterns.now ≡ (out-ClauseKind kind).patterns) where
  pub judged-in : (s : FunctionSetting scope.table.now types) (d : Node ClauseKind) (e : Node ExprKind) (j : Judged) → d.kind ≡ kind → ClauseJudgedBy scope.number s d e j → JudgedBy scope (setting_in scope types params s) e j
  judged-in s d e j q h = subst (λ z. judge s.fits scope.number s.specs e (variable_type z s.arrow.params) ≡ Some j) (ap (λ z. (out-ClauseKind z).patterns) q ∙ sym patterns) h

  pub body-in : (d : Node ClauseKind) (e : Node ExprKind) → d.kind ≡ kind → IsBodyOf (out-ClauseKind d.kind).body e → IsBodyOf (out-ClauseKind kind).body e
  body-in d e q h = subst (λ z. IsBodyOf (out-ClauseKind z).body e) q h

  pub body-judged : (clauses : List (Node ClauseKind)) (c : Node ClauseKind) → Some c ≡ slice_get clauses 0 → kind ≡ c.kind → AreJudgedClauses scope.table.now types scope.number clauses → IsJudgedBody scope (out-ClauseKind kind).body
  body-judged clauses c q k h =
      let d : h.clause.kind ≡ kind = clause-kind clauses c h.clause kind h.expression q k h.is_clause in
      record {
        expression = h.expression;
        is_body = body-in h.clause h.expression d h.is_clause.is_body;
        flat = h.flat;
        judged = record { setting = setting_in scope types params h.setting; judged = h.judged; is = judged-in h.setting h.clause h.expression h.judged d h.is };
      }

  pub clause-holds : (clauses : List (Node ClauseKind)) (c : Node ClauseKind) → Some c ≡ slice_get clauses 0 → kind ≡ c.kind →
      ((s : Setting scope) (e : Node ExprKind) (j : Judged) (t : Term) → IsBodyOf (out-ClauseKind kind).body e → JudgedBy scope s e j → IsSetOf types.result t → Every Holds (owed_in scope s e j t)) →
      (s : FunctionSetting scope.table.now types) (d : Node ClauseKind) (e : Node ExprKind) (j : Judged) → IsClauseOf clauses d e → ClauseJudgedBy scope.number s d e j → Every Holds (owed_result s.fits scope.number s.specs e.place (Some j) s.arrow.result)
  clause-holds clauses c q k h s d e j w x =
      let z : d.kind ≡ kind = clause-kind clauses c d kind e q k w in
      h (setting_in scope types params s) e j s.arrow.result (body-in d e z w.is_body) (judged-in s d e j z x) s.typed.result

  pub clause-fails : (clauses : List (Node ClauseKind)) (c : Node ClauseKind) (refusal : FirstRefusal) → Some c ≡ slice_get clauses 0 → kind ≡ c.kind →
      ((s : Setting scope) (e : Node ExprKind) (j : Judged) (t : Term) → IsBodyOf (out-ClauseKind kind).body e → JudgedBy scope s e j → IsSetOf types.result t → ShowsFailure (owed_in scope s e j t) (scope.number + 1) refusal) →
      (s : FunctionSetting scope.table.now types) (d : Node ClauseKind) (e : Node ExprKind) (j : Judged) → IsClauseOf clauses d e → ClauseJudgedBy scope.number s d e j → ShowsFailure (owed_result s.fits scope.number s.specs e.place (Some j) s.arrow.result) (scope.number + 1) refusal
  clause-fails clauses c refusal q k h s d e j w x =
      let z : d.kind ≡ kind = clause-kind clauses c d kind e q k w in
      h (setting_in scope types params s) e j s.arrow.result (body-in d e z w.is_body) (judged-in s d e j z x) s.typed.result
