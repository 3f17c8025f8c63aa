-- Elements of bodies, qualifiers, associations and clauses are run alike in both runs, where their parts are.
use Rattle.std.proofs.Common.{◌≡◌, refl, ap, sym, ◌∙◌, subst, ℕ, List, [], ◌∷◌, ◌++◌, Bool, true, false}
use Rattle.std.specs.Prelude.{Option, Some, None, is_none}
use Rattle.erl_tree.specs.declared.token.Node.{Node}
use Rattle.erl_tree.specs.declared.pattern.PatternKind.{PatternKind}
use Rattle.erl_tree.specs.declared.expr.ExprKind.{ExprKind}
use Rattle.erl_tree.specs.declared.expr.ItemKind.TheVariants as I
use Rattle.erl_tree.specs.declared.expr.QualifierKind.TheVariants as Q
use Rattle.erl_tree.specs.declared.expr.AssocKind.{AssocKind, out-AssocKind}
use Rattle.erl_tree.specs.declared.expr.ClauseKind.{ClauseKind, out-ClauseKind}
use Rattle.erl_tree.specs.Lists.{Every}
use Rattle.erl_grammar.specs.Guards.{misfit}
use Rattle.erl_runs.specs.Value.{Value, Environment, no_bindings, wrong}
use Rattle.erl_runs.specs.Matching.{shadowed_by, match_pattern}
use Rattle.erl_runs.specs.Operations.{truth_of, elements_of, Association}
use Rattle.erl_runs.specs.Running.{gives, behind, anew, passing, passing_truth, matched, front, environments_of, generated}
use Rattle.erl_runs.proofs.RunLaws as R
use Rattle.erl_scope_rules.specs.declared.role.Role.{Role}
use Rattle.erl_scope_rules.specs.declared.role.Role.TheVariants.{Met, Renewed}
use Rattle.erl_scope_rules.specs.Occurrences as O
use Rattle.erl_scope_rules.specs.ScopeFaults.{faults_of_each, faults_of_optional, expr_faults, pattern_faults, clause_kind_faults}
use Rattle.erl_scope_rules.proofs.OccurrenceLaws as L
use Rattle.erl_scope_rules.proofs.FaultLaws as F
use Rattle.runs_with_right_names.proofs.Held.{has, AssociationHeld}
use Rattle.runs_with_right_names.proofs.HeldValues.{elements-held}
use Rattle.runs_with_right_names.proofs.RightParts.{append-none, Optional}
use Rattle.runs_with_right_names.proofs.Seen.{covered-in_turn, marks-named}
use Rattle.runs_with_right_names.proofs.RunSetting.{Setting, Held, AllHeld, RowHeld, Same, other_part, RunsSame, SamePart, Behind, ItemBehind, AllBehind}
use Rattle.runs_with_right_names.proofs.SameParts.{le-trans, gives-same, wrong-same, then-same}
use Rattle.runs_with_right_names.proofs.SameNodes.{SameExpr, SameItem, SameQualifier, SameAssoc, SameClause, TestsSame, part-same, body-same}
use Rattle.runs_with_right_names.proofs.SameClauses.{RowBehind, match-behind, shadowed-behind, guard-same}
use Rattle.runs_with_right_names.proofs.SameExpressions.{items-funs}

module _ (σ : Setting) where
  -- ---- environments behind patterns

  here-behind : (environment : Environment) → RowHeld σ environment → Behind σ [] environment environment
  here-behind environment held = record { held = held; grows = λ x there. there; binds = tt }

  marked-behind : (role : Role) (ps : List (Node PatternKind)) (environment out : Environment) → RowBehind σ ps environment out → Behind σ (O.row_marks role ps) environment out
  marked-behind role ps environment out w = record { held = w.held; grows = w.grows; binds = marks-named (has out) role ps w.binds }

  -- ---- elements of bodies

  pub value_item-same : (e : Node ExprKind) → SameExpr σ e.kind → SameItem σ (I.Value e)
  value_item-same e h =
      subst (λ X. X) (λ j. SamePart σ (Value × Environment) (ItemBehind σ (sym (L.step-Value e) j).binds) (sym (F.item_faults-Value σ.functions σ.records e) j) (sym (L.step-Value e) j).expression.occurrences
      (sym (R.item_kind-Value σ.unbound σ.records σ.arity σ.apply e) j) (sym (R.item_kind-Value wrong σ.records σ.arity σ.also e) j))
      (record {
        funs = (part-same σ e h).funs;
        runs = λ right environment held covered b c p k l at. then-same σ (Held σ) (ItemBehind σ [] environment) k _ _ _ _ ((part-same σ e h).runs right environment held covered b c p k l at)
            (λ v m u value. gives-same σ (ItemBehind σ [] environment) (v, environment) (value, here-behind environment held) m);
      })

  matched-same : (binds : List O.Mark) (environment : Environment) (o : Option Environment) (v : Value) → Held σ v → ((out : Environment) → o ≡ Some out → Behind σ binds environment out) → (k : ℕ) →
      Same σ (ItemBehind σ binds environment) k (matched σ.unbound σ.records σ.arity σ.apply o v k) (matched wrong σ.records σ.arity σ.also o v k)
  matched-same binds environment None v held h k = wrong-same σ (ItemBehind σ binds environment) k
  matched-same binds environment (Some out) v held h k = gives-same σ (ItemBehind σ binds environment) (v, out) (held, h out refl) k

  pub match_item-same : (pattern : Node PatternKind) (e : Node ExprKind) → SameExpr σ e.kind → SameItem σ (I.Match pattern e)
  match_item-same pattern e h =
      subst (λ X. X) (λ j. SamePart σ (Value × Environment) (ItemBehind σ (sym (L.step-Match pattern e) j).binds) (sym (F.item_faults-Match σ.functions σ.records pattern e) j) (sym (L.step-Match pattern e) j).expression.occurrences
      (sym (R.item_kind-Match σ.unbound σ.records σ.arity σ.apply pattern e) j) (sym (R.item_kind-Match wrong σ.records σ.arity σ.also pattern e) j))
      (record {
        funs = (part-same σ e h).funs;
        runs = λ right environment held covered b c p k l at.
            then-same σ (Held σ) (ItemBehind σ (O.row_marks Met (pattern ∷ [])) environment) k _ _ _ _
            ((part-same σ e h).runs (append-none (pattern_faults σ.functions σ.records pattern) (expr_faults σ.functions σ.records e) right).1 environment held covered b c p k l at)
            (λ v m u value. matched-same (O.row_marks Met (pattern ∷ [])) environment (match_pattern σ.records pattern v environment) v value
            (λ out i. marked-behind Met (pattern ∷ []) environment out (match-behind σ pattern v environment out value held i)) m);
      })

  -- ---- qualifiers

  front-same : (o : Option Environment) (es : List Environment) → front σ.unbound σ.records σ.arity σ.apply o es ≡ front wrong σ.records σ.arity σ.also o es
  front-same None es = refl
  front-same (Some e) es = refl

  environments-same : (pattern : Node PatternKind) (vs : List Value) (environment : Environment) → environments_of σ.unbound σ.records σ.arity σ.apply pattern vs environment ≡ environments_of wrong σ.records σ.arity σ.also pattern vs environment
  environments-same pattern [] environment = refl
  environments-same pattern (v ∷ vs) environment = ap (λ es. front σ.unbound σ.records σ.arity σ.apply (anew (match_pattern σ.records pattern v no_bindings) environment) es) (environments-same pattern vs environment)
      ∙ front-same (anew (match_pattern σ.records pattern v no_bindings) environment) (environments_of wrong σ.records σ.arity σ.also pattern vs environment)

  front-behind : (marks : List O.Mark) (environment : Environment) (o : Option Environment) → ((own : Environment) → o ≡ Some own → Behind σ marks environment (shadowed_by own environment)) → (es : List Environment) →
      AllBehind σ marks environment es →
      AllBehind σ marks environment (front wrong σ.records σ.arity σ.also (anew o environment) es)
  front-behind marks environment None h es all = all
  front-behind marks environment (Some own) h es all = (h own refl, all)

  environments-behind : (pattern : Node PatternKind) (vs : List Value) (environment : Environment) → AllHeld σ vs → RowHeld σ environment →
      AllBehind σ (O.row_marks Renewed (pattern ∷ [])) environment (environments_of wrong σ.records σ.arity σ.also pattern vs environment)
  environments-behind pattern [] environment all held = tt
  environments-behind pattern (v ∷ vs) environment all held =
      front-behind (O.row_marks Renewed (pattern ∷ [])) environment (match_pattern σ.records pattern v no_bindings)
      (λ own i. marked-behind Renewed (pattern ∷ []) environment (shadowed_by own environment) (shadowed-behind σ (pattern ∷ []) own environment (match-behind σ pattern v no_bindings own all.0 tt i) held))
      (environments_of wrong σ.records σ.arity σ.also pattern vs environment) (environments-behind pattern vs environment all.1 held)

  generated-same : (pattern : Node PatternKind) (o : Option (List Value)) (environment : Environment) → ((vs : List Value) → o ≡ Some vs → AllHeld σ vs) → RowHeld σ environment → (k : ℕ) →
      Same σ (AllBehind σ (O.row_marks Renewed (pattern ∷ [])) environment) k (generated σ.unbound σ.records σ.arity σ.apply pattern o environment k) (generated wrong σ.records σ.arity σ.also pattern o environment k)
  generated-same pattern None environment all held k = wrong-same σ (AllBehind σ (O.row_marks Renewed (pattern ∷ [])) environment) k
  generated-same pattern (Some vs) environment all held k =
      subst (λ es. Same σ (AllBehind σ (O.row_marks Renewed (pattern ∷ [])) environment) k (gives es k) (gives (environments_of wrong σ.records σ.arity σ.also pattern vs environment) k)) (sym (environments-same pattern vs environment))
      (gives-same σ (AllBehind σ (O.row_marks Renewed (pattern ∷ [])) environment) (environments_of wrong σ.records σ.arity σ.also pattern vs environment) (environments-behind pattern vs environment (all vs refl) held) k)

  pub generator-same : (pattern : Node PatternKind) (e : Node ExprKind) → SameExpr σ e.kind → SameQualifier σ (Q.Generator pattern e)
  generator-same pattern e h =
      subst (λ X. X) (λ j. SamePart σ (List Environment) (AllBehind σ (sym (L.step-Generator pattern e) j).binds) (sym (F.qualifier_faults-Generator σ.functions σ.records pattern e) j)
      (sym (L.step-Generator pattern e) j).expression.occurrences (sym (R.qualifier_kind-Generator σ.unbound σ.records σ.arity σ.apply pattern e) j) (sym (R.qualifier_kind-Generator wrong σ.records σ.arity σ.also pattern e) j))
      (record {
        funs = (part-same σ e h).funs;
        runs = λ right environment held covered b c p k l at.
            then-same σ (Held σ) (AllBehind σ (O.row_marks Renewed (pattern ∷ [])) environment) k _ _ _ _
            ((part-same σ e h).runs (append-none (pattern_faults σ.functions σ.records pattern) (expr_faults σ.functions σ.records e) right).1 environment held covered b c p k l at)
            (λ v m u value. generated-same pattern (elements_of v) environment (λ vs i. elements-held σ.named σ.closed v vs value i) held m);
      })

  passing-behind : (passes : Bool) (environment : Environment) → RowHeld σ environment → AllBehind σ [] environment (passing passes environment)
  passing-behind true environment held = (here-behind environment held, tt)
  passing-behind false environment held = tt

  truth-same : (o : Option Bool) (environment : Environment) → RowHeld σ environment → (k : ℕ) → Same σ (AllBehind σ [] environment) k (passing_truth o environment k) (passing_truth o environment k)
  truth-same None environment held k = wrong-same σ (AllBehind σ [] environment) k
  truth-same (Some b) environment held k = gives-same σ (AllBehind σ [] environment) (passing b environment) (passing-behind b environment held) k

  filtered-same : TestsSame σ → (b : Bool) (e : Node ExprKind) → SameExpr σ e.kind → expr_faults σ.functions σ.records e ≡ [] →
      RunsSame σ (AllBehind σ []) (O.expr_part e).occurrences (other_part σ e).funs (R.filtered σ.unbound σ.records σ.arity σ.apply b e) (R.filtered wrong σ.records σ.arity σ.also b e)
  filtered-same tests true e h right environment held covered b c p k l at =
      subst (λ t. Same σ (AllBehind σ [] environment) k (gives (passing t environment) k) (gives (passing (R.is_test_true wrong σ.records σ.arity σ.also environment e) environment) k)) (sym (tests e h right environment held covered))
      (gives-same σ (AllBehind σ [] environment) (passing (R.is_test_true wrong σ.records σ.arity σ.also environment e) environment) (passing-behind (R.is_test_true wrong σ.records σ.arity σ.also environment e) environment held) k)
  filtered-same tests false e h right environment held covered b c p k l at =
      then-same σ (Held σ) (AllBehind σ [] environment) k _ _ _ _ ((part-same σ e h).runs right environment held covered b c p k l at) (λ v m u value. truth-same (truth_of v) environment held m)

  pub filter-same : TestsSame σ → (e : Node ExprKind) → SameExpr σ e.kind → SameQualifier σ (Q.Filter e)
  filter-same tests e h =
      subst (λ X. X) (λ j. SamePart σ (List Environment) (AllBehind σ (sym (L.step-Filter e) j).binds) (sym (F.qualifier_faults-Filter σ.functions σ.records e) j) (sym (L.step-Filter e) j).expression.occurrences
      (sym (R.qualifier_kind-Filter σ.unbound σ.records σ.arity σ.apply e) j) (sym (R.qualifier_kind-Filter wrong σ.records σ.arity σ.also e) j))
      (record { funs = (part-same σ e h).funs; runs = λ right. filtered-same tests (is_none (misfit e)) e h right })

  -- ---- associations

  pub assoc-same : (a : AssocKind) → SameExpr σ (out-AssocKind a).key.kind → SameExpr σ (out-AssocKind a).value.kind → SameAssoc σ a
  assoc-same a h g =
      subst (λ X. X) (λ j. SamePart σ Association (λ environment. AssociationHeld σ.named σ.closed) (sym (F.assoc_faults-out σ.functions σ.records a) j) (sym (L.assoc-out a) j).occurrences
      (sym (R.assoc_kind-is σ.unbound σ.records σ.arity σ.apply a) j) (sym (R.assoc_kind-is wrong σ.records σ.arity σ.also a) j))
      (record {
        funs = λ j. (part-same σ (out-AssocKind a).key h).funs j ++ (part-same σ (out-AssocKind a).value g).funs j;
        runs = λ right environment held covered b c p k l at.
            let r : (expr_faults σ.functions σ.records (out-AssocKind a).key ≡ []) × (expr_faults σ.functions σ.records (out-AssocKind a).value ≡ []) =
            append-none (expr_faults σ.functions σ.records (out-AssocKind a).key) (expr_faults σ.functions σ.records (out-AssocKind a).value) right in
            let s : σ.at c (other_part σ (out-AssocKind a).key).funs × σ.at (behind c (other_part σ (out-AssocKind a).key).funs) (other_part σ (out-AssocKind a).value).funs =
            σ.at_append c (other_part σ (out-AssocKind a).key).funs (other_part σ (out-AssocKind a).value).funs at in
            then-same σ (Held σ) (AssociationHeld σ.named σ.closed) k _ _ _ _
            ((part-same σ (out-AssocKind a).key h).runs r.0 environment held (covered-in_turn (has environment) (O.expr_part (out-AssocKind a).key ∷ O.expr_part (out-AssocKind a).value ∷ []) covered).0 b c p k l s.0)
            (λ v m u key. then-same σ (Held σ) (AssociationHeld σ.named σ.closed) m _ _ _ _
            ((part-same σ (out-AssocKind a).value g).runs r.1 environment held (covered-in_turn (has environment) (O.expr_part (out-AssocKind a).key ∷ O.expr_part (out-AssocKind a).value ∷ []) covered).1.0 _ _
            (λ j. behind (p j) ((part-same σ (out-AssocKind a).key h).funs j)) m (le-trans u l) s.1)
            (λ w i n value. gives-same σ (AssociationHeld σ.named σ.closed) (record { exact = (out-AssocKind a).exact; key = v; value = w }) (key, value) i));
      })

  -- ---- clauses

  pub clause_kind-same : TestsSame σ → (c : ClauseKind) → Optional (λ (g : Node (List (List (Node ExprKind)))). Every (λ es. Every (λ (e : Node ExprKind). SameExpr σ e.kind) es) g.kind) (out-ClauseKind c).guard →
      Every (λ i. SameItem σ i.kind) (out-ClauseKind c).body → SameClause σ c
  clause_kind-same tests c g h = record {
    funs = items-funs σ (out-ClauseKind c).body h;
    allows = λ right environment held covered. guard-same σ tests (out-ClauseKind c).guard g (parts right).0 environment held covered;
    runs = λ right. body-same σ (out-ClauseKind c).body h (parts right).1;
  }
    where
      parts : (clause_kind_faults σ.functions σ.records c).faults ≡ [] → (faults_of_optional (F.guard_faults σ.functions σ.records) (out-ClauseKind c).guard ≡ []) × (F.body_faults σ.functions σ.records (out-ClauseKind c).body ≡ [])
      parts right = append-none (faults_of_optional (F.guard_faults σ.functions σ.records) (out-ClauseKind c).guard) (F.body_faults σ.functions σ.records (out-ClauseKind c).body)
          (append-none (faults_of_each (pattern_faults σ.functions σ.records) (out-ClauseKind c).patterns)
          (faults_of_optional (F.guard_faults σ.functions σ.records) (out-ClauseKind c).guard ++ F.body_faults σ.functions σ.records (out-ClauseKind c).body) (sym (F.clause_faults-in σ.functions σ.records c) ∙ right)).1
