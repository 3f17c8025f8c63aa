-- What is the same of each kind of node in both runs, and rows of nodes: expressions in turn, elements of a body and qualifiers, each in the environment behind those before it.
use Rattle.std.proofs.Common.{◌≡◌, refl, ℕ, ◌≤◌, List, [], ◌∷◌, ◌++◌, map, length, true}
use Rattle.std.specs.Prelude.{Option, Some, None}
use Rattle.type_terms.specs.Keys.{Name}
use Rattle.erl_tree.specs.declared.token.Place.{Place}
use Rattle.erl_tree.specs.declared.token.Node.{Node}
use Rattle.erl_tree.specs.declared.expr.ExprKind.{ExprKind, out-ExprKind}
use Rattle.erl_tree.specs.declared.expr.ItemKind.{ItemKind}
use Rattle.erl_tree.specs.declared.expr.QualifierKind.{QualifierKind}
use Rattle.erl_tree.specs.declared.expr.AssocKind.{AssocKind}
use Rattle.erl_tree.specs.declared.expr.CatchKind.{CatchKind, out-CatchKind}
use Rattle.erl_tree.specs.declared.expr.ClauseKind.{ClauseKind, out-ClauseKind}
use Rattle.erl_tree.specs.Lists.{Every}
use Rattle.erl_runs.specs.Value.{Value, nil, Environment, wrong, Run}
use Rattle.erl_runs.specs.Operations.{Association}
use Rattle.erl_runs.specs.Running.{Part, with_itself, is_fun_layer, funs_in, behind, run_all, run_body, run_qualifiers, is_true}
use Rattle.erl_runs.proofs.RunLaws as R
use Rattle.erl_scope_rules.specs.declared.fault.PlacedFault.{PlacedFault}
use Rattle.erl_scope_rules.specs.Occurrences.{Mark}
use Rattle.erl_scope_rules.specs.Occurrences as O
use Rattle.erl_scope_rules.specs.ScopeFaults.{faults_of_each, faults_of_optional, expr_kind_faults, item_kind_faults, qualifier_kind_faults, assoc_kind_faults, clause_kind_faults, expr_faults, qualifier_faults, assoc_faults}
use Rattle.erl_scope_rules.proofs.OccurrenceLaws.{guard_at, body_in}
use Rattle.erl_scope_rules.proofs.FaultLaws.{body_faults}
use Rattle.runs_with_right_names.specs.KnownValues.{HasVariables}
use Rattle.runs_with_right_names.proofs.Held.{has, AssociationHeld}
use Rattle.runs_with_right_names.proofs.RightParts.{append-none, Optional}
use Rattle.runs_with_right_names.proofs.Seen.{Covered, covered-body, covered-qualifiers}
use Rattle.runs_with_right_names.proofs.RunSetting.{Setting, Held, AllHeld, RowHeld, Same, one_does, other_does, one_part, other_part, one_item, other_item, one_qualifier, other_qualifier, one_assoc, other_assoc, one_field, other_field, RunsSame, SamePart, SameIn, Behind, ItemBehind, AllBehind}
use Rattle.runs_with_right_names.proofs.SameParts.{le-here, le-trans, gives-same, wrong-same, then-same, run_all-same, run_each-same}

-- ---- lists

pub every-join : {A : Type 0} (P : A → Type 0) (xs ys : List A) → Every P xs → Every P ys → Every P (xs ++ ys)
every-join P [] ys h k = k
every-join P (x ∷ xs) ys h k = (h.0, every-join P xs ys h.1 k)

pub every-more : {A : Type 0} (P Q : A → Type 0) → ((x : A) → P x → Q x) → (xs : List A) → Every P xs → Every Q xs
every-more P Q f [] h = tt
every-more P Q f (x ∷ xs) h = (f x h.0, every-more P Q f xs h.1)

pub every-three : {A : Type 0} (P Q S T : A → Type 0) → ((x : A) → P x → Q x → S x → T x) → (xs : List A) → Every P xs → Every Q xs → Every S xs → Every T xs
every-three P Q S T f [] h k l = tt
every-three P Q S T f (x ∷ xs) h k l = (f x h.0 k.0 l.0, every-three P Q S T f xs h.1 k.1 l.1)

module _ (σ : Setting) where
  -- ---- nodes

  -- an expression is run alike, and applied alike where it is a fun expression
  pub record SameExpr (t : ExprKind) : Type 0 where
    pub inner : (one_does σ t).inner ≡ (other_does σ t).inner
    pub runs : (place : Place) (marks : List Place) → expr_kind_faults σ.functions σ.records t place ≡ [] →
        RunsSame σ (λ environment. Held σ) (O.expr_kind_part t place).occurrences (other_part σ (record { place = place; marks = marks; kind = t })).funs (one_does σ t).run (other_does σ t).run
    pub enters : (place : Place) → expr_kind_faults σ.functions σ.records t place ≡ [] → (vs : List Value) → AllHeld σ vs →
        RunsSame σ (λ environment. Held σ) (O.expr_kind_part t place).occurrences (other_does σ t).inner (λ b environment k. (one_does σ t).enter b environment vs k) (λ c environment k. (other_does σ t).enter c environment vs k)

  abbrev pub SameItem : ItemKind → Type 0
  SameItem t = SamePart σ (Value × Environment) (ItemBehind σ (O.item_kind_step t).binds) (item_kind_faults σ.functions σ.records t) (O.item_kind_step t).expression.occurrences (R.item_kind σ.unbound σ.records σ.arity σ.apply t)
      (R.item_kind wrong σ.records σ.arity σ.also t)

  abbrev pub SameQualifier : QualifierKind → Type 0
  SameQualifier t = SamePart σ (List Environment) (AllBehind σ (O.qualifier_kind_step t).binds) (qualifier_kind_faults σ.functions σ.records t) (O.qualifier_kind_step t).expression.occurrences
      (R.qualifier_kind σ.unbound σ.records σ.arity σ.apply t) (R.qualifier_kind wrong σ.records σ.arity σ.also t)

  abbrev pub SameAssoc : AssocKind → Type 0
  SameAssoc t = SamePart σ Association (λ environment. AssociationHeld σ.named σ.closed) (assoc_kind_faults σ.functions σ.records t) (O.assoc_kind_part t).occurrences (R.assoc_kind σ.unbound σ.records σ.arity σ.apply t)
      (R.assoc_kind wrong σ.records σ.arity σ.also t)

  -- a clause, whose patterns match alike in any case
  pub record SameClause (t : ClauseKind) : Type 0 where
    pub funs : (R.clause_choice σ.unbound σ.records σ.arity σ.apply (out-ClauseKind t)).funs ≡ (R.clause_choice wrong σ.records σ.arity σ.also (out-ClauseKind t)).funs
    pub allows : (clause_kind_faults σ.functions σ.records t).faults ≡ [] → (environment : Environment) → RowHeld σ environment → HasVariables environment (O.optional guard_at (out-ClauseKind t).guard).occurrences →
        R.is_guard_true σ.unbound σ.records σ.arity σ.apply (out-ClauseKind t).guard environment ≡ R.is_guard_true wrong σ.records σ.arity σ.also (out-ClauseKind t).guard environment
    pub runs : (clause_kind_faults σ.functions σ.records t).faults ≡ [] → RunsSame σ (λ environment. Held σ) (body_in (out-ClauseKind t).body).occurrences (R.clause_choice wrong σ.records σ.arity σ.also (out-ClauseKind t)).funs
        (R.clause_choice σ.unbound σ.records σ.arity σ.apply (out-ClauseKind t)).run (R.clause_choice wrong σ.records σ.arity σ.also (out-ClauseKind t)).run

  abbrev pub SameCatch : CatchKind → Type 0
  SameCatch t = SameClause (out-CatchKind t).clause.kind

  -- a test of a guard is true alike
  abbrev pub TestsSame : Type 0
  TestsSame = (e : Node ExprKind) → SameExpr e.kind → expr_faults σ.functions σ.records e ≡ [] → (environment : Environment) → RowHeld σ environment → HasVariables environment (O.expr_part e).occurrences →
      is_true ((one_does σ e.kind).run 0 environment 0).outcome ≡ is_true ((other_does σ e.kind).run 0 environment 0).outcome

  -- ---- parts in one environment

  pub part-same : (e : Node ExprKind) → SameExpr e.kind → SamePart σ Value (λ environment. Held σ) (expr_faults σ.functions σ.records e) (O.expr_part e).occurrences (one_part σ e) (other_part σ e)
  part-same e h = record { funs = λ j. with_itself (is_fun_layer (out-ExprKind e.kind)) e (h.inner j); runs = h.runs e.place e.marks }

  each-in : {A X : Type 0} (holds : A → Type 0) (faults : X → List PlacedFault) (occurs : X → O.Part) (f g : X → Part A) (xs : List X) → Every (λ x. SamePart σ A (λ environment. holds) (faults x) (occurs x).occurrences (f x) (g x)) xs →
      faults_of_each faults xs ≡ [] →
      (environment : Environment) → RowHeld σ environment → Every (λ (o : O.Part). Covered (has environment) o.occurrences) (map occurs xs) → Every (λ x. SameIn σ A holds environment (f x) (g x)) xs
  each-in holds faults occurs f g [] h right environment held covered = tt
  each-in holds faults occurs f g (x ∷ xs) h right environment held covered =
      let r : (faults x ≡ []) × (faults_of_each faults xs ≡ []) = append-none (faults x) (faults_of_each faults xs) right in
      (record { funs = h.0.funs; runs = h.0.runs r.0 environment held covered.0 }, each-in holds faults occurs f g xs h.1 r.1 environment held covered.1)

  -- parts in turn
  pub row-same : {A X : Type 0} (holds : A → Type 0) (faults : X → List PlacedFault) (occurs : X → O.Part) (f g : X → Part A) (xs : List X) →
      Every (λ x. SamePart σ A (λ environment. holds) (faults x) (occurs x).occurrences (f x) (g x)) xs → faults_of_each faults xs ≡ [] →
      (environment : Environment) → RowHeld σ environment → Every (λ (o : O.Part). Covered (has environment) o.occurrences) (map occurs xs) → (b c : ℕ) → b ≡ c → (k : ℕ) → k ≤ σ.steps → σ.at c (funs_in (map g xs)) →
      Same σ (λ found. Every holds found × (length found ≡ length xs)) k (run_all (map f xs) b environment k) (run_all (map g xs) c environment k)
  row-same holds faults occurs f g xs h right environment held covered b c p k l at = run_all-same σ holds environment f g xs (each-in holds faults occurs f g xs h right environment held covered) b c p k l at

  -- expressions in turn
  pub exprs-same : (es : List (Node ExprKind)) → Every (λ e. SameExpr e.kind) es → faults_of_each (expr_faults σ.functions σ.records) es ≡ [] →
      (environment : Environment) → RowHeld σ environment → Every (λ (o : O.Part). Covered (has environment) o.occurrences) (map O.expr_part es) → (b c : ℕ) → b ≡ c → (k : ℕ) → k ≤ σ.steps → σ.at c (funs_in (map (other_part σ) es)) →
      Same σ (λ vs. AllHeld σ vs × (length vs ≡ length es)) k (run_all (map (one_part σ) es) b environment k) (run_all (map (other_part σ) es) c environment k)
  exprs-same es h = row-same (Held σ) (expr_faults σ.functions σ.records) O.expr_part (one_part σ) (other_part σ) es
      (every-more (λ e. SameExpr e.kind) (λ e. SamePart σ Value (λ environment. Held σ) (expr_faults σ.functions σ.records e) (O.expr_part e).occurrences (one_part σ e) (other_part σ e)) part-same es h)

  pub assocs-same : (as' : List (Node AssocKind)) → Every (λ a. SameAssoc a.kind) as' → faults_of_each (assoc_faults σ.functions σ.records) as' ≡ [] →
      (environment : Environment) → RowHeld σ environment → Every (λ (o : O.Part). Covered (has environment) o.occurrences) (map O.assoc_part as') → (b c : ℕ) → b ≡ c → (k : ℕ) → k ≤ σ.steps → σ.at c (funs_in (map (other_assoc σ) as')) →
      Same σ (λ changes. Every (AssociationHeld σ.named σ.closed) changes × (length changes ≡ length as')) k (run_all (map (one_assoc σ) as') b environment k) (run_all (map (other_assoc σ) as') c environment k)
  assocs-same as' h = row-same (AssociationHeld σ.named σ.closed) (assoc_faults σ.functions σ.records) O.assoc_part (one_assoc σ) (other_assoc σ) as' h

  pub fields-same : (fs : List (Node (Name × Node ExprKind))) → Every (λ f. SameExpr f.kind.1.kind) fs → faults_of_each (λ (f : Node (Name × Node ExprKind)). expr_faults σ.functions σ.records f.kind.1) fs ≡ [] →
      (environment : Environment) → RowHeld σ environment → Every (λ (o : O.Part). Covered (has environment) o.occurrences) (map O.field_part fs) → (b c : ℕ) → b ≡ c → (k : ℕ) → k ≤ σ.steps → σ.at c (funs_in (map (other_field σ) fs)) →
      Same σ (λ vs. AllHeld σ vs × (length vs ≡ length fs)) k (run_all (map (one_field σ) fs) b environment k) (run_all (map (other_field σ) fs) c environment k)
  fields-same fs h = row-same (Held σ) (λ (f : Node (Name × Node ExprKind)). expr_faults σ.functions σ.records f.kind.1) O.field_part (one_field σ) (other_field σ) fs
      (every-more (λ (f : Node (Name × Node ExprKind)). SameExpr f.kind.1.kind)
      (λ (f : Node (Name × Node ExprKind)). SamePart σ Value (λ environment. Held σ) (expr_faults σ.functions σ.records f.kind.1) (O.field_part f).occurrences (one_field σ f) (other_field σ f)) (λ f s. part-same f.kind.1 s) fs h)

  -- the tail of a list, in an environment
  pub tail-in : (t : Option (Node ExprKind)) → Optional (λ (e : Node ExprKind). SameExpr e.kind) t → faults_of_optional (expr_faults σ.functions σ.records) t ≡ [] → (environment : Environment) → RowHeld σ environment →
      Covered (has environment) (O.optional O.expr_part t).occurrences →
      SameIn σ Value (Held σ) environment (R.tail_of σ.unbound σ.records σ.arity σ.apply t) (R.tail_of wrong σ.records σ.arity σ.also t)
  tail-in None h right environment held covered = record { funs = refl; runs = λ b c p k l at. gives-same σ (Held σ) nil tt k }
  tail-in (Some e) h right environment held covered = record { funs = (part-same e h).funs; runs = (part-same e h).runs right environment held covered }

  -- ---- elements of a body

  pub body-same : (is : List (Node ItemKind)) → Every (λ i. SameItem i.kind) is → body_faults σ.functions σ.records is ≡ [] →
      RunsSame σ (λ environment. Held σ) (body_in is).occurrences (funs_in (map (other_item σ) is)) (run_body (map (one_item σ) is)) (run_body (map (other_item σ) is))
  body-same [] h right environment held covered b c p k l at = wrong-same σ (Held σ) k
  body-same (i ∷ []) h right environment held covered b c p k l at =
      let r : (item_kind_faults σ.functions σ.records i.kind ≡ []) × ([] ≡ []) = append-none (item_kind_faults σ.functions σ.records i.kind) [] right in
      then-same σ (ItemBehind σ (O.item_step i).binds environment) (Held σ) k _ _ _ _
      (h.0.runs r.0 environment held (covered-body (has environment) (O.item_step i) [] covered).0 b c p k l (σ.at_append c (other_item σ i).funs [] at).0)
      (λ v m u next. gives-same σ (Held σ) v.0 next.0 m)
  body-same (i ∷ i' ∷ is) h right environment held covered b c p k l at =
      let r : (item_kind_faults σ.functions σ.records i.kind ≡ []) × (body_faults σ.functions σ.records (i' ∷ is) ≡ []) = append-none (item_kind_faults σ.functions σ.records i.kind) (body_faults σ.functions σ.records (i' ∷ is)) right in
      let s : σ.at c (other_item σ i).funs × σ.at (behind c (other_item σ i).funs) (funs_in (map (other_item σ) (i' ∷ is))) = σ.at_append c (other_item σ i).funs (funs_in (map (other_item σ) (i' ∷ is))) at in
      then-same σ (ItemBehind σ (O.item_step i).binds environment) (Held σ) k _ _ _ _
      (h.0.runs r.0 environment held (covered-body (has environment) (O.item_step i) (map O.item_step (i' ∷ is)) covered).0 b c p k l s.0)
      (λ v m u next. body-same (i' ∷ is) h.1 r.1 v.1 next.1.held ((covered-body (has environment) (O.item_step i) (map O.item_step (i' ∷ is)) covered).1 (has v.1) next.1.grows next.1.binds) _ _ (λ j. behind (p j) (h.0.funs j)) m (le-trans u l) s.1)

  -- ---- qualifiers

  -- what is run behind qualifiers, in an environment behind them
  abbrev pub HeadsSame : List Mark → Environment → (Environment → ℕ → Run Value) → (Environment → ℕ → Run Value) → Type 0
  HeadsSame marks environment f g = (out : Environment) → Behind σ marks environment out → (k : ℕ) → k ≤ σ.steps → Same σ (Held σ) k (f out k) (g out k)

  behind-next : (marks binds : List Mark) (environment mid out : Environment) → Behind σ binds environment mid → Behind σ marks mid out → Behind σ (marks ++ binds) environment out
  behind-next marks binds environment mid out h k = record {
    held = k.held;
    grows = λ x there. k.grows x (h.grows x there);
    binds = every-join (λ m. has out m.name ≡ true) marks binds k.binds (every-more (λ m. has mid m.name ≡ true) (λ m. has out m.name ≡ true) (λ m there. k.grows m.name there) binds h.binds);
  }

  pub qualifiers-same : (qs : List (Node QualifierKind)) → Every (λ q. SameQualifier q.kind) qs → faults_of_each (qualifier_faults σ.functions σ.records) qs ≡ [] → (f g : Environment → ℕ → Run Value) → (environment : Environment) →
      RowHeld σ environment → Covered (has environment) (O.qualifiers (map O.qualifier_step qs)) →
      HeadsSame (O.generated (map O.qualifier_step qs)) environment f g → (b c : ℕ) → b ≡ c → (k : ℕ) → k ≤ σ.steps → σ.at c (funs_in (map (other_qualifier σ) qs)) →
      Same σ (AllHeld σ) k (run_qualifiers (map (one_qualifier σ) qs) f b environment k) (run_qualifiers (map (other_qualifier σ) qs) g c environment k)
  qualifiers-same [] h right f g environment held covered heads b c p k l at =
      then-same σ (Held σ) (AllHeld σ) k _ _ _ _ (heads environment (record { held = held; grows = λ x there. there; binds = tt }) k l) (λ v m u found. gives-same σ (AllHeld σ) (v ∷ []) (found, tt) m)
  qualifiers-same (q ∷ qs) h right f g environment held covered heads b c p k l at =
      let r : (qualifier_kind_faults σ.functions σ.records q.kind ≡ []) × (faults_of_each (qualifier_faults σ.functions σ.records) qs ≡ []) =
      append-none (qualifier_kind_faults σ.functions σ.records q.kind) (faults_of_each (qualifier_faults σ.functions σ.records) qs) right in
      let s : σ.at c (other_qualifier σ q).funs × σ.at (behind c (other_qualifier σ q).funs) (funs_in (map (other_qualifier σ) qs)) = σ.at_append c (other_qualifier σ q).funs (funs_in (map (other_qualifier σ) qs)) at in
      then-same σ (AllBehind σ (O.qualifier_step q).binds environment) (AllHeld σ) k _ _ _ _
      (h.0.runs r.0 environment held (covered-qualifiers (has environment) (O.qualifier_step q) (map O.qualifier_step qs) covered).0 b c p k l s.0)
      (λ outs m u all. run_each-same σ (Behind σ (O.qualifier_step q).binds environment) _ _ m
      (λ mid next i w. qualifiers-same qs h.1 r.1 f g mid next.held ((covered-qualifiers (has environment) (O.qualifier_step q) (map O.qualifier_step qs) covered).1 (has mid) next.grows next.binds)
      (λ out there. heads out (behind-next (O.generated (map O.qualifier_step qs)) (O.qualifier_step q).binds environment mid out next there))
      _ _ (λ j. behind (p j) (h.0.funs j)) i (le-trans w (le-trans u l)) s.1)
      outs all m (le-here m))
