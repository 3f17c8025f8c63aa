-- Both runs are the same where the variables have values and nothing is wrong with names, whatever an unbound name gives, and what comes holds nothing but known funs: by induction over expressions, elements of bodies, qualifiers,
-- associations and clauses.
use Rattle.std.proofs.Common.{◌≡◌, refl, ap, sym, ◌∙◌, subst, ℕ, zero, suc, ◌≤◌, List, [], ◌∷◌, map, arith}
use Rattle.std.specs.Prelude.{Option, Some, None}
use Rattle.type_terms.specs.Keys.{Name}
use Rattle.erl_tree.specs.declared.token.Node.{Node}
use Rattle.erl_tree.specs.declared.expr.ExprKind.{ExprKind, roll-ExprKind, map-ExprKind, ind-ExprKind}
use Rattle.erl_tree.specs.declared.expr.ExprKind.TheVariants as X
use Rattle.erl_tree.specs.declared.expr.ExprKind.TheOpen as E
use Rattle.erl_tree.specs.declared.expr.ExprKind.TheShapes as S
use Rattle.erl_tree.specs.declared.expr.ItemKind.{ItemKind, roll-ItemKind, map-ItemKind}
use Rattle.erl_tree.specs.declared.expr.ItemKind.TheVariants as I
use Rattle.erl_tree.specs.declared.expr.QualifierKind.{QualifierKind, roll-QualifierKind, map-QualifierKind}
use Rattle.erl_tree.specs.declared.expr.QualifierKind.TheVariants as Q
use Rattle.erl_tree.specs.declared.expr.AssocKind.{AssocKind, roll-AssocKind, out-roll-AssocKind, map-AssocKind}
use Rattle.erl_tree.specs.declared.expr.CatchKind.{CatchKind, roll-CatchKind, out-roll-CatchKind, map-CatchKind}
use Rattle.erl_tree.specs.declared.expr.ClauseKind.{ClauseKind, roll-ClauseKind, out-roll-ClauseKind, map-ClauseKind, ind-ClauseKind}
use Rattle.erl_tree.specs.Lists.{Every}
use Rattle.erl_runs.specs.Value.{Value, Environment, no_bindings, Run}
use Rattle.erl_runs.specs.Running.{still_going, is_true, taken_anew, run_clauses, funs_in_choices}
use Rattle.erl_runs.proofs.RunLaws.{Trees}
use Rattle.erl_scope_rules.specs.declared.role.Role.TheVariants.{Met}
use Rattle.erl_scope_rules.specs.Occurrences as O
use Rattle.erl_scope_rules.specs.ScopeFaults.{expr_faults, clause_kind_faults}
use Rattle.runs_with_right_names.specs.KnownValues.{HasFuns, HasVariables}
use Rattle.runs_with_right_names.proofs.Held.{EndsHeld, SameRun, row-weaker}
use Rattle.runs_with_right_names.proofs.RightParts.{Optional}
use Rattle.runs_with_right_names.proofs.RunSetting.{Setting, Held, AllHeld, RowHeld, Same, one_does, other_does, other_part, one_choice, other_choice}
use Rattle.runs_with_right_names.proofs.SameParts.{le-here, run_clauses-same}
use Rattle.runs_with_right_names.proofs.SameNodes.{SameExpr, SameItem, SameQualifier, SameAssoc, SameCatch, SameClause, TestsSame}
use Rattle.runs_with_right_names.proofs.SameExpressions.{atom-same, int-same, char-same, text-same, fun_name-same, variable-same, paren-same, tuple-same, cells-same, comprehension-same, unary-same, binary-same, call-same, application-same}
use Rattle.runs_with_right_names.proofs.SameConstructs.{map-same, map_change-same, record-same, record_change-same, field-same, block-same, case-same, if-same, fun-same, try-same, fun_clauses-go}
use Rattle.runs_with_right_names.proofs.SameSteps.{value_item-same, match_item-same, generator-same, filter-same, assoc-same, clause_kind-same}

-- ---- where tests of guards are true alike

module _ (σ : Setting) (tests : TestsSame σ) where
  abbrev Expr : Type 0
  Expr = (t : ExprKind) × SameExpr σ t

  abbrev Item : Type 0
  Item = (t : ItemKind) × SameItem σ t

  abbrev Qualifier : Type 0
  Qualifier = (t : QualifierKind) × SameQualifier σ t

  abbrev Assoc : Type 0
  Assoc = (t : AssocKind) × SameAssoc σ t

  abbrev Catch : Type 0
  Catch = (t : CatchKind) × SameCatch σ t

  abbrev Clause : Type 0
  Clause = (t : ClauseKind) × SameClause σ t

  -- one layer of a tree, of whose parts both runs are the same
  abbrev Layer : ((A B C D F G : Type 0) → Type 0) → Type 0
  Layer layer = layer Expr Item Qualifier Assoc Catch Clause

  abbrev bare_expr : Layer E.ExprKind-F → Trees E.ExprKind-F
  bare_expr y = map-ExprKind Expr Item Qualifier Assoc Catch Clause ExprKind ItemKind QualifierKind AssocKind CatchKind ClauseKind (λ t. t.0) (λ t. t.0) (λ t. t.0) (λ t. t.0) (λ t. t.0) (λ t. t.0) y

  abbrev bare_item : Layer E.ItemKind-F → Trees E.ItemKind-F
  bare_item y = map-ItemKind Expr Item Qualifier Assoc Catch Clause ExprKind ItemKind QualifierKind AssocKind CatchKind ClauseKind (λ t. t.0) (λ t. t.0) (λ t. t.0) (λ t. t.0) (λ t. t.0) (λ t. t.0) y

  abbrev bare_qualifier : Layer E.QualifierKind-F → Trees E.QualifierKind-F
  bare_qualifier y = map-QualifierKind Expr Item Qualifier Assoc Catch Clause ExprKind ItemKind QualifierKind AssocKind CatchKind ClauseKind (λ t. t.0) (λ t. t.0) (λ t. t.0) (λ t. t.0) (λ t. t.0) (λ t. t.0) y

  abbrev bare_assoc : Layer E.AssocKind-F → Trees E.AssocKind-F
  bare_assoc y = map-AssocKind Expr Item Qualifier Assoc Catch Clause ExprKind ItemKind QualifierKind AssocKind CatchKind ClauseKind (λ t. t.0) (λ t. t.0) (λ t. t.0) (λ t. t.0) (λ t. t.0) (λ t. t.0) y

  abbrev bare_catch : Layer E.CatchKind-F → Trees E.CatchKind-F
  bare_catch y = map-CatchKind Expr Item Qualifier Assoc Catch Clause ExprKind ItemKind QualifierKind AssocKind CatchKind ClauseKind (λ t. t.0) (λ t. t.0) (λ t. t.0) (λ t. t.0) (λ t. t.0) (λ t. t.0) y

  abbrev bare_clause : Layer E.ClauseKind-F → Trees E.ClauseKind-F
  bare_clause y = map-ClauseKind Expr Item Qualifier Assoc Catch Clause ExprKind ItemKind QualifierKind AssocKind CatchKind ClauseKind (λ t. t.0) (λ t. t.0) (λ t. t.0) (λ t. t.0) (λ t. t.0) (λ t. t.0) y

  -- the tree of a node
  abbrev tree : {A : Type 0} {B : A → Type 0} → Node ((t : A) × B t) → Node A
  tree t = record { place = t.place; marks = t.marks; kind = t.kind.0 }

  -- ---- rows of nodes

  exprs-all : (ts : List (Node Expr)) → Every (λ e. SameExpr σ e.kind) (S.former-ExprKind-Tuple-0.map Expr ExprKind (λ t. t.0) ts)
  exprs-all [] = tt
  exprs-all (t ∷ ts) = (t.kind.1, exprs-all ts)

  items-all : (ts : List (Node Item)) → Every (λ i. SameItem σ i.kind) (S.former-ExprKind-Begin-0.map Item ItemKind (λ t. t.0) ts)
  items-all [] = tt
  items-all (t ∷ ts) = (t.kind.1, items-all ts)

  qualifiers-all : (ts : List (Node Qualifier)) → Every (λ q. SameQualifier σ q.kind) (S.former-ExprKind-Comp-1.map Qualifier QualifierKind (λ t. t.0) ts)
  qualifiers-all [] = tt
  qualifiers-all (t ∷ ts) = (t.kind.1, qualifiers-all ts)

  assocs-all : (ts : List (Node Assoc)) → Every (λ a. SameAssoc σ a.kind) (S.former-ExprKind-MapNew-0.map Assoc AssocKind (λ t. t.0) ts)
  assocs-all [] = tt
  assocs-all (t ∷ ts) = (t.kind.1, assocs-all ts)

  clauses-all : (ts : List (Node Clause)) → Every (λ c. SameClause σ c.kind) (S.former-ExprKind-Case-1.map Clause ClauseKind (λ t. t.0) ts)
  clauses-all [] = tt
  clauses-all (t ∷ ts) = (t.kind.1, clauses-all ts)

  catches-all : (ts : List (Node Catch)) → Every (λ c. SameCatch σ c.kind) (S.former-ExprKind-Try-2.map Catch CatchKind (λ t. t.0) ts)
  catches-all [] = tt
  catches-all (t ∷ ts) = (t.kind.1, catches-all ts)

  fields-all : (ts : List (Node (Name × Node Expr))) → Every (λ f. SameExpr σ f.kind.1.kind) (S.former-ExprKind-RecNew-2.map Expr ExprKind (λ t. t.0) ts)
  fields-all [] = tt
  fields-all (t ∷ ts) = (t.kind.1.kind.1, fields-all ts)

  tail-all : (o : Option (Node Expr)) → Optional (λ (e : Node ExprKind). SameExpr σ e.kind) (S.former-ExprKind-Cells-1.map Expr ExprKind (λ t. t.0) o)
  tail-all None = tt
  tail-all (Some t) = t.kind.1

  after-all : (o : Option (List (Node Item))) → Optional (λ is. Every (λ (i : Node ItemKind). SameItem σ i.kind) is) (S.former-ExprKind-Try-3.map Item ItemKind (λ t. t.0) o)
  after-all None = tt
  after-all (Some ts) = items-all ts

  alternatives-all : (gs : List (List (Node Expr))) → Every (λ es. Every (λ (e : Node ExprKind). SameExpr σ e.kind) es) (S.former-ClauseKind-guard-at-8.map Expr ExprKind (λ t. t.0) gs)
  alternatives-all [] = tt
  alternatives-all (ts ∷ gs) = (exprs-all ts, alternatives-all gs)

  guard-all : (g : Option (Node (List (List (Node Expr))))) → Optional (λ (g : Node (List (List (Node ExprKind)))). Every (λ es. Every (λ (e : Node ExprKind). SameExpr σ e.kind) es) g.kind) (S.former-ClauseKind-guard.map Expr ExprKind (λ t. t.0) g)
  guard-all None = tt
  guard-all (Some g) = alternatives-all g.kind

  -- ---- one layer of each kind of node

  expr_layer-same : (y : Layer E.ExprKind-F) → SameExpr σ (roll-ExprKind (bare_expr y))
  expr_layer-same (E.Atom a) = subst (SameExpr σ) (sym (X.rolls-Atom a)) (atom-same σ a)
  expr_layer-same (E.Int n) = subst (SameExpr σ) (sym (X.rolls-Int n)) (int-same σ n)
  expr_layer-same (E.Char c) = subst (SameExpr σ) (sym (X.rolls-Char c)) (char-same σ c)
  expr_layer-same (E.Str s) = subst (SameExpr σ) (sym (X.rolls-Str s)) (text-same σ s)
  expr_layer-same (E.Var x) = subst (SameExpr σ) (sym (X.rolls-Var x)) (variable-same σ x)
  expr_layer-same (E.FunName name n) = subst (SameExpr σ) (sym (X.rolls-FunName name n)) (fun_name-same σ name n)
  expr_layer-same (E.Paren e) = subst (SameExpr σ) (sym (X.rolls-Paren (tree e))) (paren-same σ (tree e) e.kind.1)
  expr_layer-same (E.Tuple es) = subst (SameExpr σ) (sym (X.rolls-Tuple _)) (tuple-same σ _ (exprs-all es))
  expr_layer-same (E.Cells es t) = subst (SameExpr σ) (sym (X.rolls-Cells _ _)) (cells-same σ _ _ (exprs-all es) (tail-all t))
  expr_layer-same (E.Comp e qs) = subst (SameExpr σ) (sym (X.rolls-Comp (tree e) _)) (comprehension-same σ (tree e) _ e.kind.1 (qualifiers-all qs))
  expr_layer-same (E.Unary op e) = subst (SameExpr σ) (sym (X.rolls-Unary op (tree e))) (unary-same σ op (tree e) e.kind.1)
  expr_layer-same (E.Binary op a b) = subst (SameExpr σ) (sym (X.rolls-Binary op (tree a) (tree b))) (binary-same σ op (tree a) (tree b) a.kind.1 b.kind.1)
  expr_layer-same (E.Call prefix name es) = subst (SameExpr σ) (sym (X.rolls-Call prefix name _)) (call-same σ prefix name _ (exprs-all es))
  expr_layer-same (E.Apply f es) = subst (SameExpr σ) (sym (X.rolls-Apply (tree f) _)) (application-same σ (tree f) _ f.kind.1 (exprs-all es))
  expr_layer-same (E.MapNew as') = subst (SameExpr σ) (sym (X.rolls-MapNew _)) (map-same σ _ (assocs-all as'))
  expr_layer-same (E.MapChange e as') = subst (SameExpr σ) (sym (X.rolls-MapChange (tree e) _)) (map_change-same σ (tree e) _ e.kind.1 (assocs-all as'))
  expr_layer-same (E.RecNew name tag fs) = subst (SameExpr σ) (sym (X.rolls-RecNew name tag _)) (record-same σ name tag _ (fields-all fs))
  expr_layer-same (E.RecChange e name tag fs) = subst (SameExpr σ) (sym (X.rolls-RecChange (tree e) name tag _)) (record_change-same σ (tree e) name tag _ e.kind.1 (fields-all fs))
  expr_layer-same (E.RecGet e name tag field) = subst (SameExpr σ) (sym (X.rolls-RecGet (tree e) name tag field)) (field-same σ (tree e) name tag field e.kind.1)
  expr_layer-same (E.Begin is) = subst (SameExpr σ) (sym (X.rolls-Begin _)) (block-same σ _ (items-all is))
  expr_layer-same (E.Case e cs) = subst (SameExpr σ) (sym (X.rolls-Case (tree e) _)) (case-same σ (tree e) _ e.kind.1 (clauses-all cs))
  expr_layer-same (E.If cs) = subst (SameExpr σ) (sym (X.rolls-If _)) (if-same σ _ (clauses-all cs))
  expr_layer-same (E.Fun cs) = subst (SameExpr σ) (sym (X.rolls-Fun _)) (fun-same σ _ (clauses-all cs))
  expr_layer-same (E.Try is cs catches after) = subst (SameExpr σ) (sym (X.rolls-Try _ _ _ _)) (try-same σ _ _ _ _ (items-all is) (clauses-all cs) (catches-all catches) (after-all after))

  item_layer-same : (y : Layer E.ItemKind-F) → SameItem σ (roll-ItemKind (bare_item y))
  item_layer-same (E.Value e) = subst (SameItem σ) (sym (I.rolls-Value (tree e))) (value_item-same σ (tree e) e.kind.1)
  item_layer-same (E.Match p e) = subst (SameItem σ) (sym (I.rolls-Match p (tree e))) (match_item-same σ p (tree e) e.kind.1)

  qualifier_layer-same : (y : Layer E.QualifierKind-F) → SameQualifier σ (roll-QualifierKind (bare_qualifier y))
  qualifier_layer-same (E.Generator p e) = subst (SameQualifier σ) (sym (Q.rolls-Generator p (tree e))) (generator-same σ p (tree e) e.kind.1)
  qualifier_layer-same (E.Filter e) = subst (SameQualifier σ) (sym (Q.rolls-Filter (tree e))) (filter-same σ tests (tree e) e.kind.1)

  assoc_layer-same : (y : Layer E.AssocKind-F) → SameAssoc σ (roll-AssocKind (bare_assoc y))
  assoc_layer-same y = assoc-same σ (roll-AssocKind (bare_assoc y))
      (subst (λ (a : Trees E.AssocKind-F). SameExpr σ a.key.kind) (sym (out-roll-AssocKind (bare_assoc y))) y.key.kind.1)
      (subst (λ (a : Trees E.AssocKind-F). SameExpr σ a.value.kind) (sym (out-roll-AssocKind (bare_assoc y))) y.value.kind.1)

  catch_layer-same : (y : Layer E.CatchKind-F) → SameCatch σ (roll-CatchKind (bare_catch y))
  catch_layer-same y = subst (λ (c : Trees E.CatchKind-F). SameClause σ c.clause.kind) (sym (out-roll-CatchKind (bare_catch y))) y.clause.kind.1

  clause_layer-same : (y : Layer E.ClauseKind-F) → SameClause σ (roll-ClauseKind (bare_clause y))
  clause_layer-same y = clause_kind-same σ tests (roll-ClauseKind (bare_clause y))
      (subst (λ (c : Trees E.ClauseKind-F). Optional (λ (g : Node (List (List (Node ExprKind)))). Every (λ es. Every (λ (e : Node ExprKind). SameExpr σ e.kind) es) g.kind) c.guard) (sym (out-roll-ClauseKind (bare_clause y))) (guard-all y.guard))
      (subst (λ (c : Trees E.ClauseKind-F). Every (λ i. SameItem σ i.kind) c.body) (sym (out-roll-ClauseKind (bare_clause y))) (items-all y.body))

  -- ---- trees

  roll_expr-same : (x : Trees E.ExprKind-F) (y : Layer E.ExprKind-F) → bare_expr y ≡ x → SameExpr σ (roll-ExprKind x)
  roll_expr-same x y e = subst (λ z. SameExpr σ (roll-ExprKind z)) e (expr_layer-same y)

  roll_item-same : (x : Trees E.ItemKind-F) (y : Layer E.ItemKind-F) → bare_item y ≡ x → SameItem σ (roll-ItemKind x)
  roll_item-same x y e = subst (λ z. SameItem σ (roll-ItemKind z)) e (item_layer-same y)

  roll_qualifier-same : (x : Trees E.QualifierKind-F) (y : Layer E.QualifierKind-F) → bare_qualifier y ≡ x → SameQualifier σ (roll-QualifierKind x)
  roll_qualifier-same x y e = subst (λ z. SameQualifier σ (roll-QualifierKind z)) e (qualifier_layer-same y)

  roll_assoc-same : (x : Trees E.AssocKind-F) (y : Layer E.AssocKind-F) → bare_assoc y ≡ x → SameAssoc σ (roll-AssocKind x)
  roll_assoc-same x y e = subst (λ z. SameAssoc σ (roll-AssocKind z)) e (assoc_layer-same y)

  roll_catch-same : (x : Trees E.CatchKind-F) (y : Layer E.CatchKind-F) → bare_catch y ≡ x → SameCatch σ (roll-CatchKind x)
  roll_catch-same x y e = subst (λ z. SameCatch σ (roll-CatchKind z)) e (catch_layer-same y)

  roll_clause-same : (x : Trees E.ClauseKind-F) (y : Layer E.ClauseKind-F) → bare_clause y ≡ x → SameClause σ (roll-ClauseKind x)
  roll_clause-same x y e = subst (λ z. SameClause σ (roll-ClauseKind z)) e (clause_layer-same y)

  pub kind-same : (t : ExprKind) → SameExpr σ t
  kind-same = ind-ExprKind (SameExpr σ) (SameItem σ) (SameQualifier σ) (SameAssoc σ) (SameCatch σ) (SameClause σ) roll_expr-same roll_item-same roll_qualifier-same roll_assoc-same roll_catch-same roll_clause-same

  pub clause-same : (t : ClauseKind) → SameClause σ t
  clause-same = ind-ClauseKind (SameExpr σ) (SameItem σ) (SameQualifier σ) (SameAssoc σ) (SameCatch σ) (SameClause σ) roll_expr-same roll_item-same roll_qualifier-same roll_assoc-same roll_catch-same roll_clause-same

-- ---- tests of guards

-- where nothing is asked of funs
abbrev any_name : Name → ℕ → Type 0
any_name name arity = Unit {0}

abbrev any_closure : ℕ → Environment → Type 0
any_closure number environment = Unit {0}

module _ (σ : Setting)
    (one_none : (f : Value) (args : List Value) → σ.apply f args zero ≡ still_going zero)
    (other_none : (f : Value) (args : List Value) → σ.also f args zero ≡ still_going zero) where
  -- without a step nothing is applied, neither in the one run nor in the other
  none-agrees : (f : Value) (args : List Value) (k : ℕ) → k ≤ 0 → SameRun any_name any_closure (HasFuns any_name any_closure) k (σ.apply f args k) (σ.also f args k)
  none-agrees f args zero l = record {
    same = one_none f args ∙ sym (other_none f args);
    held = subst (λ (r : Run Value). EndsHeld any_name any_closure (HasFuns any_name any_closure) r.outcome) (sym (other_none f args)) tt;
    spends = subst (λ (r : Run Value). r.left ≤ 0) (sym (other_none f args)) (le-here 0);
  }
  none-agrees f args (suc k) l = absurd (omega arith)

  -- both runs without a step, of whose funs nothing is asked
  abbrev bare : Setting
  bare = record {
    functions = σ.functions;
    records = σ.records;
    named = any_name;
    closed = any_closure;
    at = λ number es. Unit {0};
    at_append = λ number es ds at. (tt, tt);
    closes = λ number environment e inner at right covered. tt;
    knows = λ name arity there. tt;
    unbound = σ.unbound;
    arity = σ.arity;
    apply = σ.apply;
    also = σ.also;
    steps = 0;
    agree = λ f args k l held all. none-agrees f args k l;
  }

  bare-tests : TestsSame bare
  bare-tests e h right environment held covered = ap (λ (r : Run Value). is_true r.outcome) (h.runs e.place e.marks right environment held covered 0 0 refl 0 (le-here 0) tt).same

  tests-same : TestsSame σ
  tests-same e h right environment held covered = bare-tests e (kind-same bare bare-tests e.kind) right environment (row-weaker σ.named any_name σ.closed any_closure (λ name arity h. tt) (λ number closed h. tt) environment held) covered

  -- ---- both runs

  -- an expression, the first fun expression of which has this number
  pub run-same : (e : Node ExprKind) → expr_faults σ.functions σ.records e ≡ [] → (environment : Environment) → RowHeld σ environment → HasVariables environment (O.expr_part e).occurrences → (number : ℕ) →
      σ.at number (other_part σ e).funs → (k : ℕ) → k ≤ σ.steps →
      Same σ (Held σ) k ((one_does σ e.kind).run number environment k) ((other_does σ e.kind).run number environment k)
  run-same e right environment held covered number at k l = (kind-same σ tests-same e.kind).runs e.place e.marks right environment held covered number number refl k l at

  -- a closure of an expression, the first fun expression inside which has this number
  pub enter-same : (e : Node ExprKind) → expr_faults σ.functions σ.records e ≡ [] → (environment : Environment) → RowHeld σ environment → HasVariables environment (O.expr_part e).occurrences → (number : ℕ) →
      σ.at number (other_does σ e.kind).inner → (args : List Value) → AllHeld σ args → (k : ℕ) → k ≤ σ.steps →
      Same σ (Held σ) k ((one_does σ e.kind).enter number environment args k) ((other_does σ e.kind).enter number environment args k)
  enter-same e right environment held covered number at args all k l = (kind-same σ tests-same e.kind).enters e.place right args all environment held covered number number refl k l at

  each-clause : (cs : List (Node ClauseKind)) → Every (λ c. SameClause σ c.kind) cs
  each-clause [] = tt
  each-clause (c ∷ cs) = (clause-same σ tests-same c.kind, each-clause cs)

  -- the clauses of a function
  pub clauses-same : (cs : List (Node ClauseKind)) → Every (λ c. (clause_kind_faults σ.functions σ.records c.kind).faults ≡ []) cs → Every (λ c. HasVariables no_bindings (O.clause_part Met c).occurrences) cs → (number : ℕ) →
      σ.at number (funs_in_choices (map (other_choice σ) cs)) → (args : List Value) → AllHeld σ args → (k : ℕ) → k ≤ σ.steps →
      Same σ (Held σ) k (run_clauses taken_anew (map (one_choice σ) cs) number no_bindings args k) (run_clauses taken_anew (map (other_choice σ) cs) number no_bindings args k)
  clauses-same cs right covered number at args all k l = run_clauses-same σ taken_anew args no_bindings (one_choice σ) (other_choice σ) cs (fun_clauses-go σ Met cs (each-clause cs) right args no_bindings all tt covered) number number refl k l at
