-- Maps, records, blocks, `case`, `if`, `fun` and `try` are run alike in both runs, where their parts are.
use Rattle.std.proofs.Common.{◌≡◌, refl, ap, sym, ◌∙◌, subst, ℕ, ◌≤◌, List, [], ◌∷◌, ◌++◌, map, length}
use Rattle.std.specs.Prelude.{Option, Some, None}
use Rattle.type_terms.specs.Keys.{Name}
use Rattle.erl_tree.specs.declared.token.Node.{Node}
use Rattle.erl_tree.specs.declared.expr.ExprKind.{ExprKind}
use Rattle.erl_tree.specs.declared.expr.ExprKind.TheVariants as X
use Rattle.erl_tree.specs.declared.expr.ItemKind.{ItemKind}
use Rattle.erl_tree.specs.declared.expr.AssocKind.{AssocKind}
use Rattle.erl_tree.specs.declared.expr.CatchKind.{CatchKind, out-CatchKind}
use Rattle.erl_tree.specs.declared.expr.ClauseKind.{ClauseKind}
use Rattle.erl_tree.specs.Lists.{Every}
use Rattle.erl_runs.specs.Value.{Value, map_of, no_entries, closure, Environment, Class, Outcome, came, raised, wrong, going}
use Rattle.erl_runs.specs.Records.{find_record}
use Rattle.erl_runs.specs.Operations.{change_map}
use Rattle.erl_runs.specs.Running.{gives, behind, is_fun_layer, with_itself, funs_in, funs_in_choices, funs_in_optional, taken, taken_anew, class_name, run_rest, run_after, names_of, new_record, changed_record, field_of}
use Rattle.erl_runs.proofs.RunLaws as R
use Rattle.erl_scope_rules.specs.declared.fault.PlacedFault.{PlacedFault}
use Rattle.erl_scope_rules.specs.declared.role.Role.{Role}
use Rattle.erl_scope_rules.specs.declared.role.Role.TheVariants.{Met, Renewed}
use Rattle.erl_scope_rules.specs.Occurrences as O
use Rattle.erl_scope_rules.specs.ScopeFaults.{faults_of_each, faults_of_optional, declared_faults, fields_faults, get_faults, clause_kind_faults, expr_faults, assoc_faults, catch_faults}
use Rattle.erl_scope_rules.proofs.OccurrenceLaws as L
use Rattle.erl_scope_rules.proofs.FaultLaws as F
use Rattle.runs_with_right_names.proofs.Held.{has, AssociationHeld}
use Rattle.runs_with_right_names.proofs.HeldValues.{no_entries-held, change_map-held, new_record-held, changed_record-held, field_of-held}
use Rattle.runs_with_right_names.proofs.RightParts.{append-none, each-none, clause-right, Optional}
use Rattle.runs_with_right_names.proofs.Seen.{Covered, covered-in_turn, covered-side_by_side, covered-each_side_by_side}
use Rattle.runs_with_right_names.proofs.RunSetting.{Setting, Held, AllHeld, RowHeld, Same, other_does, other_part, other_item, other_assoc, other_field, one_caught, other_caught, one_choice, other_choice}
use Rattle.runs_with_right_names.proofs.SameParts.{Ends, le-trans, ends-same, gives-same, wrong-same, found-same, then-same, finally-same, choice_funs-same, Goes, run_clauses-same, run_of-same, run_catches-same, class-held}
use Rattle.runs_with_right_names.proofs.SameNodes.{every-more, every-three, SameExpr, SameItem, SameAssoc, SameClause, part-same, assocs-same, fields-same, body-same}
use Rattle.runs_with_right_names.proofs.SameClauses.{clause-goes, fun_clause-goes, catch-goes}
use Rattle.runs_with_right_names.proofs.SameExpressions.{plain-same, items-funs, assocs-funs, fields-funs, choice-funs, choices-funs}

module _ (σ : Setting) where
  -- ---- maps and records

  pub map-same : (as' : List (Node AssocKind)) → Every (λ a. SameAssoc σ a.kind) as' → SameExpr σ (X.MapNew as')
  map-same as' h = plain-same σ (X.MapNew as') _ _ _ _ (λ place. faults_of_each (assoc_faults σ.functions σ.records) as') (λ place. O.in_turn (map O.assoc_part as'))
      (R.run_kind-MapNew σ.unbound σ.records σ.arity σ.apply as') (R.run_kind-MapNew wrong σ.records σ.arity σ.also as') (ap is_fun_layer (X.outs-MapNew as')) (λ place. F.expr_faults-MapNew σ.functions σ.records as' place)
      (λ place. L.part-MapNew as' place) (assocs-funs σ as' h)
      (λ place right environment row covered b c p k l at. then-same σ (λ changes. Every (AssociationHeld σ.named σ.closed) changes × (length changes ≡ length as')) (Held σ) k _ _ _ _
      (assocs-same σ as' h right environment row (covered-in_turn (has environment) (map O.assoc_part as') covered) b c p k l at)
      (λ changes m u all. ends-same σ (Held σ) (change_map (map_of no_entries) changes) (change_map-held σ.named σ.closed (map_of no_entries) changes (no_entries-held σ.named σ.closed) all.0) m))

  pub map_change-same : (e : Node ExprKind) (as' : List (Node AssocKind)) → SameExpr σ e.kind → Every (λ a. SameAssoc σ a.kind) as' → SameExpr σ (X.MapChange e as')
  map_change-same e as' h g = plain-same σ (X.MapChange e as') _ _ _ _ (λ place. expr_faults σ.functions σ.records e ++ faults_of_each (assoc_faults σ.functions σ.records) as') (λ place. O.in_turn (O.expr_part e ∷ map O.assoc_part as'))
      (R.run_kind-MapChange σ.unbound σ.records σ.arity σ.apply e as') (R.run_kind-MapChange wrong σ.records σ.arity σ.also e as') (ap is_fun_layer (X.outs-MapChange e as'))
      (λ place. F.expr_faults-MapChange σ.functions σ.records e as' place) (λ place. L.part-MapChange e as' place) (λ j. (part-same σ e h).funs j ++ assocs-funs σ as' g j)
      (λ place right environment row covered b c p k l at.
      let r : (expr_faults σ.functions σ.records e ≡ []) × (faults_of_each (assoc_faults σ.functions σ.records) as' ≡ []) = append-none (expr_faults σ.functions σ.records e) (faults_of_each (assoc_faults σ.functions σ.records) as') right in
      let s : σ.at c (other_part σ e).funs × σ.at (behind c (other_part σ e).funs) (funs_in (map (other_assoc σ) as')) = σ.at_append c (other_part σ e).funs (funs_in (map (other_assoc σ) as')) at in
      then-same σ (Held σ) (Held σ) k _ _ _ _ ((part-same σ e h).runs r.0 environment row (covered-in_turn (has environment) (O.expr_part e ∷ map O.assoc_part as') covered).0 b c p k l s.0)
      (λ v m u held. then-same σ (λ changes. Every (AssociationHeld σ.named σ.closed) changes × (length changes ≡ length as')) (Held σ) m _ _ _ _
      (assocs-same σ as' g r.1 environment row (covered-in_turn (has environment) (O.expr_part e ∷ map O.assoc_part as') covered).1 _ _ (λ j. behind (p j) ((part-same σ e h).funs j)) m (le-trans u l) s.1)
      (λ changes i w all. ends-same σ (Held σ) (change_map v changes) (change_map-held σ.named σ.closed v changes held all.0) i)))

  pub record-same : (name tag : Name) (fs : List (Node (Name × Node ExprKind))) → Every (λ f. SameExpr σ f.kind.1.kind) fs → SameExpr σ (X.RecNew name tag fs)
  record-same name tag fs h = plain-same σ (X.RecNew name tag fs) _ _ _ _ (λ place. declared_faults (find_record σ.records name) place ++ F.record_faults σ.functions σ.records (expr_faults σ.functions σ.records) name fs)
      (λ place. O.in_turn (map O.field_part fs))
      (R.run_kind-RecNew σ.unbound σ.records σ.arity σ.apply name tag fs) (R.run_kind-RecNew wrong σ.records σ.arity σ.also name tag fs) (ap is_fun_layer (X.outs-RecNew name tag fs))
      (λ place. F.expr_faults-RecNew σ.functions σ.records name tag fs place) (λ place. L.part-RecNew name tag fs place) (fields-funs σ fs h)
      (λ place right environment row covered b c p k l at. then-same σ (λ vs. AllHeld σ vs × (length vs ≡ length fs)) (Held σ) k _ _ _ _
      (fields-same σ fs h (fields-right name fs (declared_faults (find_record σ.records name) place) right) environment row (covered-in_turn (has environment) (map O.field_part fs) covered) b c p k l at)
      (λ vs m u all. found-same σ (Held σ) (new_record (find_record σ.records name) tag (names_of fs) vs) (new_record-held σ.named σ.closed (find_record σ.records name) tag (names_of fs) vs all.0) m))
    where
      fields-right : (name : Name) (fs : List (Node (Name × Node ExprKind))) (front : List PlacedFault) → front ++ F.record_faults σ.functions σ.records (expr_faults σ.functions σ.records) name fs ≡ [] →
          faults_of_each (λ (f : Node (Name × Node ExprKind)). expr_faults σ.functions σ.records f.kind.1) fs ≡ []
      fields-right name fs front right = (append-none (fields_faults (find_record σ.records name) [] fs) (faults_of_each (λ (f : Node (Name × Node ExprKind)). expr_faults σ.functions σ.records f.kind.1) fs)
          (append-none front (F.record_faults σ.functions σ.records (expr_faults σ.functions σ.records) name fs) right).1).1

  pub record_change-same : (e : Node ExprKind) (name tag : Name) (fs : List (Node (Name × Node ExprKind))) → SameExpr σ e.kind → Every (λ f. SameExpr σ f.kind.1.kind) fs → SameExpr σ (X.RecChange e name tag fs)
  record_change-same e name tag fs h g = plain-same σ (X.RecChange e name tag fs) _ _ _ _
      (λ place. expr_faults σ.functions σ.records e ++ (declared_faults (find_record σ.records name) place ++ F.record_faults σ.functions σ.records (expr_faults σ.functions σ.records) name fs))
      (λ place. O.in_turn (O.expr_part e ∷ map O.field_part fs))
      (R.run_kind-RecChange σ.unbound σ.records σ.arity σ.apply e name tag fs) (R.run_kind-RecChange wrong σ.records σ.arity σ.also e name tag fs) (ap is_fun_layer (X.outs-RecChange e name tag fs))
      (λ place. F.expr_faults-RecChange σ.functions σ.records e name tag fs place) (λ place. L.part-RecChange e name tag fs place) (λ j. (part-same σ e h).funs j ++ fields-funs σ fs g j)
      (λ place right environment row covered b c p k l at.
      let r : (expr_faults σ.functions σ.records e ≡ []) × (declared_faults (find_record σ.records name) place ++ F.record_faults σ.functions σ.records (expr_faults σ.functions σ.records) name fs ≡ []) =
      append-none (expr_faults σ.functions σ.records e) (declared_faults (find_record σ.records name) place ++ F.record_faults σ.functions σ.records (expr_faults σ.functions σ.records) name fs) right in
      let r' : (declared_faults (find_record σ.records name) place ≡ []) × (F.record_faults σ.functions σ.records (expr_faults σ.functions σ.records) name fs ≡ []) =
      append-none (declared_faults (find_record σ.records name) place) (F.record_faults σ.functions σ.records (expr_faults σ.functions σ.records) name fs) r.1 in
      let r'' : (fields_faults (find_record σ.records name) [] fs ≡ []) × (faults_of_each (λ (f : Node (Name × Node ExprKind)). expr_faults σ.functions σ.records f.kind.1) fs ≡ []) =
      append-none (fields_faults (find_record σ.records name) [] fs) (faults_of_each (λ (f : Node (Name × Node ExprKind)). expr_faults σ.functions σ.records f.kind.1) fs) r'.1 in
      let s : σ.at c (other_part σ e).funs × σ.at (behind c (other_part σ e).funs) (funs_in (map (other_field σ) fs)) = σ.at_append c (other_part σ e).funs (funs_in (map (other_field σ) fs)) at in
      then-same σ (Held σ) (Held σ) k _ _ _ _ ((part-same σ e h).runs r.0 environment row (covered-in_turn (has environment) (O.expr_part e ∷ map O.field_part fs) covered).0 b c p k l s.0)
      (λ v m u held. then-same σ (λ vs. AllHeld σ vs × (length vs ≡ length fs)) (Held σ) m _ _ _ _
      (fields-same σ fs g r''.1 environment row (covered-in_turn (has environment) (O.expr_part e ∷ map O.field_part fs) covered).1 _ _ (λ j. behind (p j) ((part-same σ e h).funs j)) m (le-trans u l) s.1)
      (λ vs i w all. found-same σ (Held σ) (changed_record (find_record σ.records name) tag v (names_of fs) vs) (changed_record-held σ.named σ.closed (find_record σ.records name) tag v (names_of fs) vs held all.0) i)))

  pub field-same : (e : Node ExprKind) (name tag field : Name) → SameExpr σ e.kind → SameExpr σ (X.RecGet e name tag field)
  field-same e name tag field h = plain-same σ (X.RecGet e name tag field) _ _ _ _ (λ place. expr_faults σ.functions σ.records e ++ get_faults (find_record σ.records name) field place) (λ place. O.expr_part e)
      (R.run_kind-RecGet σ.unbound σ.records σ.arity σ.apply e name tag field) (R.run_kind-RecGet wrong σ.records σ.arity σ.also e name tag field) (ap is_fun_layer (X.outs-RecGet e name tag field))
      (λ place. F.expr_faults-RecGet σ.functions σ.records e name tag field place) (λ place. L.part-RecGet e name tag field place) (part-same σ e h).funs
      (λ place right environment row covered b c p k l at.
      let r : (expr_faults σ.functions σ.records e ≡ []) × (get_faults (find_record σ.records name) field place ≡ []) = append-none (expr_faults σ.functions σ.records e) (get_faults (find_record σ.records name) field place) right in
      then-same σ (Held σ) (Held σ) k _ _ _ _ ((part-same σ e h).runs r.0 environment row covered b c p k l at)
      (λ v m u held. found-same σ (Held σ) (field_of (find_record σ.records name) tag v field) (field_of-held σ.named σ.closed (find_record σ.records name) tag v field held) m))

  -- ---- constructs with clauses

  pub block-same : (is : List (Node ItemKind)) → Every (λ i. SameItem σ i.kind) is → SameExpr σ (X.Begin is)
  block-same is h = plain-same σ (X.Begin is) _ _ _ _ (λ place. F.body_faults σ.functions σ.records is) (λ place. L.body_part is)
      (R.run_kind-Begin σ.unbound σ.records σ.arity σ.apply is) (R.run_kind-Begin wrong σ.records σ.arity σ.also is) (ap is_fun_layer (X.outs-Begin is)) (λ place. F.expr_faults-Begin σ.functions σ.records is place)
      (λ place. L.part-Begin is place) (items-funs σ is h)
      (λ place right. body-same σ is h right)

  clauses-go : (cs : List (Node ClauseKind)) → Every (λ c. SameClause σ c.kind) cs → faults_of_each (F.faults_in_clause σ.functions σ.records) cs ≡ [] → (vs : List Value) (environment : Environment) → AllHeld σ vs → RowHeld σ environment →
      Covered (has environment) (L.clauses_part Met cs).occurrences →
      Every (λ c. Goes σ taken vs environment (one_choice σ c) (other_choice σ c)) cs
  clauses-go cs h right vs environment all row covered =
      every-three (λ c. SameClause σ c.kind) (λ c. F.faults_in_clause σ.functions σ.records c ≡ []) (λ c. Covered (has environment) (O.clause_part Met c).occurrences) (λ c. Goes σ taken vs environment (one_choice σ c) (other_choice σ c))
      (λ c s r v. clause-goes σ c s r vs environment all row v) cs h (each-none (F.faults_in_clause σ.functions σ.records) cs right) (covered-each_side_by_side (has environment) (O.clause_part Met) cs covered)

  -- the clauses of a function or a fun
  pub fun_clauses-go : (role : Role) (cs : List (Node ClauseKind)) → Every (λ c. SameClause σ c.kind) cs → Every (λ c. (clause_kind_faults σ.functions σ.records c.kind).faults ≡ []) cs → (vs : List Value) (environment : Environment) →
      AllHeld σ vs → RowHeld σ environment → Every (λ c. Covered (has environment) (O.clause_part role c).occurrences) cs →
      Every (λ c. Goes σ taken_anew vs environment (one_choice σ c) (other_choice σ c)) cs
  fun_clauses-go role cs h right vs environment all row covered =
      every-three (λ c. SameClause σ c.kind) (λ c. (clause_kind_faults σ.functions σ.records c.kind).faults ≡ []) (λ c. Covered (has environment) (O.clause_part role c).occurrences)
      (λ c. Goes σ taken_anew vs environment (one_choice σ c) (other_choice σ c))
      (λ c s r v. fun_clause-goes σ role c s r vs environment all row v) cs h right covered

  catches-go : (cs : List (Node CatchKind)) → Every (λ c. SameClause σ (out-CatchKind c.kind).clause.kind) cs → faults_of_each (catch_faults σ.functions σ.records) cs ≡ [] → (vs : List Value) (environment : Environment) → AllHeld σ vs →
      RowHeld σ environment → Covered (has environment) (L.catches_part cs).occurrences →
      Every (λ c. Goes σ taken vs environment (one_caught σ c) (other_caught σ c)) cs
  catches-go cs h right vs environment all row covered =
      every-three (λ c. SameClause σ (out-CatchKind c.kind).clause.kind) (λ c. catch_faults σ.functions σ.records c ≡ []) (λ c. Covered (has environment) (O.catch_part Met c).occurrences)
      (λ c. Goes σ taken vs environment (one_caught σ c) (other_caught σ c))
      (λ c s r v. catch-goes σ c s r vs environment all row v) cs h (each-none (catch_faults σ.functions σ.records) cs right) (covered-each_side_by_side (has environment) (O.catch_part Met) cs covered)

  pub case-same : (e : Node ExprKind) (cs : List (Node ClauseKind)) → SameExpr σ e.kind → Every (λ c. SameClause σ c.kind) cs → SameExpr σ (X.Case e cs)
  case-same e cs h g = plain-same σ (X.Case e cs) _ _ _ _ (λ place. expr_faults σ.functions σ.records e ++ faults_of_each (F.faults_in_clause σ.functions σ.records) cs) (λ place. O.in_turn (O.expr_part e ∷ L.clauses_part Met cs ∷ []))
      (R.run_kind-Case σ.unbound σ.records σ.arity σ.apply e cs) (R.run_kind-Case wrong σ.records σ.arity σ.also e cs) (ap is_fun_layer (X.outs-Case e cs)) (λ place. F.expr_faults-Case σ.functions σ.records e cs place)
      (λ place. L.part-Case e cs place) (λ j. (part-same σ e h).funs j ++ choices-funs σ cs g j)
      (λ place right environment row covered b c p k l at.
      let r : (expr_faults σ.functions σ.records e ≡ []) × (faults_of_each (F.faults_in_clause σ.functions σ.records) cs ≡ []) =
      append-none (expr_faults σ.functions σ.records e) (faults_of_each (F.faults_in_clause σ.functions σ.records) cs) right in
      let s : σ.at c (other_part σ e).funs × σ.at (behind c (other_part σ e).funs) (funs_in_choices (map (other_choice σ) cs)) = σ.at_append c (other_part σ e).funs (funs_in_choices (map (other_choice σ) cs)) at in
      then-same σ (Held σ) (Held σ) k _ _ _ _ ((part-same σ e h).runs r.0 environment row (covered-in_turn (has environment) (O.expr_part e ∷ L.clauses_part Met cs ∷ []) covered).0 b c p k l s.0)
      (λ v m u held. run_clauses-same σ taken (v ∷ []) environment (one_choice σ) (other_choice σ) cs
      (clauses-go cs g r.1 (v ∷ []) environment (held, tt) row (covered-in_turn (has environment) (O.expr_part e ∷ L.clauses_part Met cs ∷ []) covered).1.0)
      _ _ (λ j. behind (p j) ((part-same σ e h).funs j)) m (le-trans u l) s.1))

  pub if-same : (cs : List (Node ClauseKind)) → Every (λ c. SameClause σ c.kind) cs → SameExpr σ (X.If cs)
  if-same cs g = plain-same σ (X.If cs) _ _ _ _ (λ place. faults_of_each (F.faults_in_clause σ.functions σ.records) cs) (λ place. L.clauses_part Met cs)
      (R.run_kind-If σ.unbound σ.records σ.arity σ.apply cs) (R.run_kind-If wrong σ.records σ.arity σ.also cs) (ap is_fun_layer (X.outs-If cs)) (λ place. F.expr_faults-If σ.functions σ.records cs place) (λ place. L.part-If cs place)
      (choices-funs σ cs g)
      (λ place right environment row covered b c p k l at. run_clauses-same σ taken [] environment (one_choice σ) (other_choice σ) cs (clauses-go cs g right [] environment tt row covered) b c p k l at)

  -- a fun expression: its closure is made with the environment that has what its clauses use
  pub fun-same : (cs : List (Node ClauseKind)) → Every (λ c. SameClause σ c.kind) cs → SameExpr σ (X.Fun cs)
  fun-same cs g = record {
    inner = ap (λ x. x.inner) (R.run_kind-Fun σ.unbound σ.records σ.arity σ.apply cs) ∙ (choices-funs σ cs g ∙ sym (ap (λ x. x.inner) (R.run_kind-Fun wrong σ.records σ.arity σ.also cs)));
    runs = λ place marks right environment row covered b c p k l at.
        subst (λ X. X) (λ j. Same σ (Held σ) k ((sym (R.run_kind-Fun σ.unbound σ.records σ.arity σ.apply cs) j).run b environment k) ((sym (R.run_kind-Fun wrong σ.records σ.arity σ.also cs) j).run c environment k))
        (closed-same environment row b c p k
        (σ.closes c environment (record { place = place; marks = marks; kind = X.Fun cs }) (other_does σ (X.Fun cs)).inner
        (subst (λ t. σ.at c (with_itself t (record { place = place; marks = marks; kind = X.Fun cs }) (other_does σ (X.Fun cs)).inner)) (ap is_fun_layer (X.outs-Fun cs)) at) right covered));
    enters = λ place right vs all environment row covered b c p k l at.
        subst (λ X. X) (λ j. Same σ (Held σ) k ((sym (R.run_kind-Fun σ.unbound σ.records σ.arity σ.apply cs) j).enter b environment vs k) ((sym (R.run_kind-Fun wrong σ.records σ.arity σ.also cs) j).enter c environment vs k))
        (run_clauses-same σ taken_anew vs environment (one_choice σ) (other_choice σ) cs
        (fun_clauses-go Renewed cs g (clause-right σ.functions σ.records cs (sym (F.expr_faults-Fun σ.functions σ.records cs place) ∙ right)) vs environment all row
        (covered-each_side_by_side (has environment) (O.clause_part Renewed) cs (subst (λ (part : O.Part). Covered (has environment) part.occurrences) (L.part-Fun cs place) covered)))
        b c p k l (subst (λ x. σ.at c x.inner) (R.run_kind-Fun wrong σ.records σ.arity σ.also cs) at));
  }
    where
      closed-same : (environment : Environment) → RowHeld σ environment → (b c : ℕ) → b ≡ c → (k : ℕ) → σ.closed c environment → Same σ (Held σ) k (gives (closure b environment) k) (gives (closure c environment) k)
      closed-same environment row b c p k h = subst (λ d. Same σ (Held σ) k (gives (closure d environment) k) (gives (closure c environment) k)) (sym p) (gives-same σ (Held σ) (closure c environment) (h, row) k)

  -- ---- try

  rest-same : (cs : List (Node ClauseKind)) (catches : List (Node CatchKind)) (environment : Environment) → Every (λ c. SameClause σ c.kind) cs →
      ((v : Value) → Held σ v → Every (λ c. Goes σ taken (v ∷ []) environment (one_choice σ c) (other_choice σ c)) cs) →
      ((class : Class) (v : Value) → Held σ v → Every (λ c. Goes σ taken (class_name class ∷ v ∷ []) environment (one_caught σ c) (other_caught σ c)) catches) →
      (a b : ℕ) → a ≡ b → (k : ℕ) → k ≤ σ.steps → σ.at b (funs_in_choices (map (other_choice σ) cs)) → σ.at (behind b (funs_in_choices (map (other_choice σ) cs))) (funs_in_choices (map (other_caught σ) catches)) → (o : Outcome Value) →
      Ends σ (Held σ) o →
      Same σ (Held σ) k (run_rest (map (one_choice σ) cs) (map (one_caught σ) catches) a environment o k) (run_rest (map (other_choice σ) cs) (map (other_caught σ) catches) b environment o k)
  rest-same cs catches environment g goes caught a b p k l at next (came v) held = run_of-same σ v environment (one_choice σ) (other_choice σ) cs held (goes v held) a b p k l at
  rest-same cs catches environment g goes caught a b p k l at next (raised class v) held =
      run_catches-same σ class v environment (one_caught σ) (other_caught σ) catches held (caught class v held) _ _ (λ j. behind (p j) (choices-funs σ cs g j)) k l next
  rest-same cs catches environment g goes caught a b p k l at next wrong held = wrong-same σ (Held σ) k
  rest-same cs catches environment g goes caught a b p k l at next going held = ends-same σ (Held σ) going tt k

  after-same : (after : Option (List (Node ItemKind))) → Optional (λ is. Every (λ (i : Node ItemKind). SameItem σ i.kind) is) after → faults_of_optional (F.body_faults σ.functions σ.records) after ≡ [] → (environment : Environment) →
      RowHeld σ environment → Covered (has environment) (O.optional L.body_part after).occurrences →
      (a b : ℕ) → a ≡ b → (k : ℕ) → k ≤ σ.steps → σ.at b (funs_in_optional (R.items_of wrong σ.records σ.arity σ.also after)) → (o : Outcome Value) → Ends σ (Held σ) o →
      Same σ (Held σ) k (run_after (R.items_of σ.unbound σ.records σ.arity σ.apply after) a environment o k) (run_after (R.items_of wrong σ.records σ.arity σ.also after) b environment o k)
  after-same None h right environment row covered a b p k l at o held = ends-same σ (Held σ) o held k
  after-same (Some is) h right environment row covered a b p k l at (came v) held = then-same σ (Held σ) (Held σ) k _ _ _ _ (body-same σ is h right environment row covered a b p k l at) (λ w m u dropped. gives-same σ (Held σ) v held m)
  after-same (Some is) h right environment row covered a b p k l at (raised class v) held =
      then-same σ (Held σ) (Held σ) k _ _ _ _ (body-same σ is h right environment row covered a b p k l at) (λ w m u dropped. ends-same σ (Held σ) (raised class v) held m)
  after-same (Some is) h right environment row covered a b p k l at wrong held = wrong-same σ (Held σ) k
  after-same (Some is) h right environment row covered a b p k l at going held = ends-same σ (Held σ) going tt k

  catches-funs : (cs : List (Node CatchKind)) → Every (λ c. SameClause σ (out-CatchKind c.kind).clause.kind) cs → funs_in_choices (map (one_caught σ) cs) ≡ funs_in_choices (map (other_caught σ) cs)
  catches-funs cs h = choice_funs-same σ (one_caught σ) (other_caught σ) cs (every-more (λ c. SameClause σ (out-CatchKind c.kind).clause.kind) (λ c. (one_caught σ c).funs ≡ (other_caught σ c).funs)
      (λ c s. ap (λ d. d.funs) (R.caught_kind-is σ.unbound σ.records σ.arity σ.apply c.kind) ∙ (choice-funs σ (out-CatchKind c.kind).clause s ∙ sym (ap (λ d. d.funs) (R.caught_kind-is wrong σ.records σ.arity σ.also c.kind)))) cs h)

  after-funs : (after : Option (List (Node ItemKind))) → Optional (λ is. Every (λ (i : Node ItemKind). SameItem σ i.kind) is) after →
      funs_in_optional (R.items_of σ.unbound σ.records σ.arity σ.apply after) ≡ funs_in_optional (R.items_of wrong σ.records σ.arity σ.also after)
  after-funs None h = refl
  after-funs (Some is) h = items-funs σ is h

  pub try-same : (is : List (Node ItemKind)) (cs : List (Node ClauseKind)) (catches : List (Node CatchKind)) (after : Option (List (Node ItemKind))) → Every (λ i. SameItem σ i.kind) is → Every (λ c. SameClause σ c.kind) cs →
      Every (λ c. SameClause σ (out-CatchKind c.kind).clause.kind) catches →
      Optional (λ is. Every (λ (i : Node ItemKind). SameItem σ i.kind) is) after → SameExpr σ (X.Try is cs catches after)
  try-same is cs catches after h g f e = plain-same σ (X.Try is cs catches after) _ _ _ _
      (λ place. F.body_faults σ.functions σ.records is ++ (faults_of_each (F.faults_in_clause σ.functions σ.records) cs ++
      (faults_of_each (catch_faults σ.functions σ.records) catches ++ faults_of_optional (F.body_faults σ.functions σ.records) after)))
      (λ place. O.in_turn (L.body_part is ∷ O.side_by_side (L.clauses_part Met cs ∷ L.catches_part catches ∷ O.optional L.body_part after ∷ []) ∷ []))
      (R.run_kind-Try σ.unbound σ.records σ.arity σ.apply is cs catches after) (R.run_kind-Try wrong σ.records σ.arity σ.also is cs catches after) (ap is_fun_layer (X.outs-Try is cs catches after))
      (λ place. F.expr_faults-Try σ.functions σ.records is cs catches after place) (λ place. L.part-Try is cs catches after place)
      (λ j. items-funs σ is h j ++ (choices-funs σ cs g j ++ (catches-funs catches f j ++ after-funs after e j)))
      (λ place right environment row covered b c p k l at.
      let r : (F.body_faults σ.functions σ.records is ≡ []) × (faults_of_each (F.faults_in_clause σ.functions σ.records) cs ++
      (faults_of_each (catch_faults σ.functions σ.records) catches ++ faults_of_optional (F.body_faults σ.functions σ.records) after) ≡ []) =
      append-none (F.body_faults σ.functions σ.records is) (faults_of_each (F.faults_in_clause σ.functions σ.records) cs ++
      (faults_of_each (catch_faults σ.functions σ.records) catches ++ faults_of_optional (F.body_faults σ.functions σ.records) after)) right in
      let r' : (faults_of_each (F.faults_in_clause σ.functions σ.records) cs ≡ []) × (faults_of_each (catch_faults σ.functions σ.records) catches ++ faults_of_optional (F.body_faults σ.functions σ.records) after ≡ []) =
      append-none (faults_of_each (F.faults_in_clause σ.functions σ.records) cs) (faults_of_each (catch_faults σ.functions σ.records) catches ++ faults_of_optional (F.body_faults σ.functions σ.records) after) r.1 in
      let r'' : (faults_of_each (catch_faults σ.functions σ.records) catches ≡ []) × (faults_of_optional (F.body_faults σ.functions σ.records) after ≡ []) =
      append-none (faults_of_each (catch_faults σ.functions σ.records) catches) (faults_of_optional (F.body_faults σ.functions σ.records) after) r'.1 in
      let first : List (Node ExprKind) = funs_in (map (other_item σ) is) in
      let second : List (Node ExprKind) = funs_in_choices (map (other_choice σ) cs) in
      let third : List (Node ExprKind) = funs_in_choices (map (other_caught σ) catches) in
      let fourth : List (Node ExprKind) = funs_in_optional (R.items_of wrong σ.records σ.arity σ.also after) in
      let s : σ.at c first × σ.at (behind c first) (second ++ (third ++ fourth)) = σ.at_append c first (second ++ (third ++ fourth)) at in
      let s' : σ.at (behind c first) second × σ.at (behind (behind c first) second) (third ++ fourth) = σ.at_append (behind c first) second (third ++ fourth) s.1 in
      let s'' : σ.at (behind (behind c first) second) third × σ.at (behind (behind (behind c first) second) third) fourth = σ.at_append (behind (behind c first) second) third fourth s'.1 in
      let v : Every (λ (o : O.Part). Covered (has environment) o.occurrences) (L.body_part is ∷ O.side_by_side (L.clauses_part Met cs ∷ L.catches_part catches ∷ O.optional L.body_part after ∷ []) ∷ []) =
      covered-in_turn (has environment) (L.body_part is ∷ O.side_by_side (L.clauses_part Met cs ∷ L.catches_part catches ∷ O.optional L.body_part after ∷ []) ∷ []) covered in
      let v' : Every (λ (o : O.Part). Covered (has environment) o.occurrences) (L.clauses_part Met cs ∷ L.catches_part catches ∷ O.optional L.body_part after ∷ []) =
      covered-side_by_side (has environment) (L.clauses_part Met cs ∷ L.catches_part catches ∷ O.optional L.body_part after ∷ []) v.1.0 in
      finally-same σ k _ _ _ _
      (finally-same σ k _ _ _ _ (body-same σ is h r.0 environment row v.0 b c p k l s.0)
      (λ o m u ends. rest-same cs catches environment g (λ w held. clauses-go cs g r'.0 (w ∷ []) environment (held, tt) row v'.0)
      (λ class w held. catches-go catches f r''.0 (class_name class ∷ w ∷ []) environment (class-held σ class, (held, tt)) row v'.1.0)
      _ _ (λ j. behind (p j) (items-funs σ is h j)) m (le-trans u l) s'.0 s''.0 o ends))
      (λ o m u ends. after-same after e r''.1 environment row v'.1.1.0 _ _ (λ j. behind (behind (behind (p j) (items-funs σ is h j)) (choices-funs σ cs g j)) (catches-funs catches f j)) m (le-trans u l) s''.1 o ends))
