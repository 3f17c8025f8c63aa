-- Clauses take values alike in both runs: their patterns match alike, their guards are true alike, and what they take has the variables that their guards and bodies use.
use Rattle.std.proofs.Common.{◌≡◌, refl, ap, sym, ◌∙◌, subst, List, [], ◌∷◌, ◌++◌, map, Bool, true, false, ◌&&◌, ◌||◌}
use Rattle.std.specs.Prelude.{Option, Some, None, cond, if◌then◌else◌}
use Rattle.std.specs.List.{list_all, list_any}
use Rattle.type_terms.specs.Keys.{Name}
use Rattle.erl_tree.specs.declared.token.Node.{Node}
use Rattle.erl_tree.specs.declared.pattern.PatternKind.{PatternKind}
use Rattle.erl_tree.specs.declared.expr.ExprKind.{ExprKind}
use Rattle.erl_tree.specs.declared.expr.CatchKind.{CatchKind, out-CatchKind}
use Rattle.erl_tree.specs.declared.expr.ClauseKind.{ClauseKind, out-ClauseKind}
use Rattle.erl_tree.specs.Lists.{Every}
use Rattle.erl_runs.specs.Value.{Value, Environment, no_bindings, throw, wrong, Outcome}
use Rattle.erl_runs.specs.Order.{same_value}
use Rattle.erl_runs.specs.Matching.{shadowed_by, match_next, match_pattern, match_patterns}
use Rattle.erl_runs.specs.Running.{Choice, Applies, allowed, taken, anew, taken_anew, class_name, match_class, match_caught}
use Rattle.erl_runs.proofs.RunLaws as R
use Rattle.erl_scope_rules.specs.declared.role.Role.{Role}
use Rattle.erl_scope_rules.specs.declared.role.Role.TheVariants.{Met}
use Rattle.erl_scope_rules.specs.Occurrences as O
use Rattle.erl_scope_rules.specs.ScopeFaults.{faults_of_each, faults_of_optional, clause_kind_faults, catch_kind_faults, expr_faults, pattern_faults}
use Rattle.erl_scope_rules.proofs.OccurrenceLaws.{tests_part, guard_at, body_in, clause-out, catch-out}
use Rattle.erl_scope_rules.proofs.FaultLaws.{guard_faults, catch_faults-out}
use Rattle.runs_with_right_names.specs.KnownValues.{HasVariables}
use Rattle.runs_with_right_names.proofs.Held.{has}
use Rattle.runs_with_right_names.proofs.HeldValues.{shadowed-held, shadowed-own, shadowed-outer}
use Rattle.runs_with_right_names.proofs.HeldMatches.{match-held, match-grows, match-binds, row-held, row-grows, row-binds}
use Rattle.runs_with_right_names.proofs.RightParts.{append-none, Optional}
use Rattle.runs_with_right_names.proofs.Seen.{Covered, covered-in_turn, covered-clause, marks-named}
use Rattle.runs_with_right_names.proofs.RunSetting.{Setting, Held, AllHeld, RowHeld, one_choice, other_choice, one_caught, other_caught, RunsSame}
use Rattle.runs_with_right_names.proofs.SameParts.{Goes}
use Rattle.runs_with_right_names.proofs.SameNodes.{every-join, every-more, SameExpr, SameClause, TestsSame}

-- ---- options

some-is : {A : Type 0} (P : A → Type 0) (a b : A) → Some a ≡ Some b → P a → P b
some-is {A} P a b e h = subst P (injected e) h
  where
    injected : Some a ≡ Some b → a ≡ b
    injected e = cc

-- what comes before, and then what comes next
next-some : (P : Type 0) (o : Option Environment) (next : Environment → Option Environment) (out : Environment) → match_next o next ≡ Some out → ((mid : Environment) → o ≡ Some mid → next mid ≡ Some out → P) → P
next-some P None next out e h = absurd (cc)
next-some P (Some mid) next out e h = h mid refl e

cond-some : (b : Bool) (environment out : Environment) → cond b (Some environment) None ≡ Some out → Some environment ≡ Some out
cond-some true environment out e = e
cond-some false environment out e = absurd (cc)

allowed-some : (c : Choice) (o : Option Environment) (out : Environment) → allowed c o ≡ Some out → o ≡ Some out
allowed-some c None out e = absurd (cc)
allowed-some c (Some environment) out e = cond-some (c.allows environment) environment out e

allowed-same : (c d : Choice) (o u : Option Environment) → o ≡ u → ((out : Environment) → u ≡ Some out → c.allows out ≡ d.allows out) → allowed c o ≡ allowed d u
allowed-same c d o None e h = ap (λ w. allowed c w) e
allowed-same c d o (Some out) e h = ap (λ w. allowed c w) e ∙ ap (λ b. cond b (Some out) None) (h out refl)

anew-some : (P : Environment → Type 0) (o : Option Environment) (environment out : Environment) → anew o environment ≡ Some out → ((own : Environment) → o ≡ Some own → P (shadowed_by own environment)) → P out
anew-some P None environment out e h = absurd (cc)
anew-some P (Some own) environment out e h = some-is P (shadowed_by own environment) out e (h own refl)

if-some : (b : Bool) (environment out : Environment) → (if b then Some environment else None) ≡ Some out → Some environment ≡ Some out
if-some true environment out e = e
if-some false environment out e = absurd (cc)

module _ (σ : Setting) where
  -- an environment in which patterns matched
  pub record RowBehind (ps : List (Node PatternKind)) (environment out : Environment) : Type 0 where
    pub held : RowHeld σ out
    pub grows : (x : Name) → has environment x ≡ true → has out x ≡ true
    pub binds : Every (λ y. has out y.0 ≡ true) (O.row_variables ps)

  pub matches-behind : (ps : List (Node PatternKind)) (vs : List Value) (environment out : Environment) → AllHeld σ vs → RowHeld σ environment → match_patterns σ.records ps vs environment ≡ Some out → RowBehind ps environment out
  matches-behind ps vs environment out all held e = record {
    held = row-held σ.named σ.closed σ.records ps vs environment out all held e;
    grows = row-grows σ.named σ.closed σ.records ps vs environment out e;
    binds = row-binds σ.named σ.closed σ.records ps vs environment out e;
  }

  pub match-behind : (p : Node PatternKind) (v : Value) (environment out : Environment) → Held σ v → RowHeld σ environment → match_pattern σ.records p v environment ≡ Some out → RowBehind (p ∷ []) environment out
  match-behind p v environment out value held e = record {
    held = match-held σ.named σ.closed σ.records p v environment out value held e;
    grows = match-grows σ.named σ.closed σ.records p v environment out e;
    binds = every-join (λ y. has out y.0 ≡ true) (O.variables_of p) [] (match-binds σ.named σ.closed σ.records p v environment out e) tt;
  }

  -- what patterns bind by themselves, in place of what was there
  pub shadowed-behind : (ps : List (Node PatternKind)) (own environment : Environment) → RowBehind ps no_bindings own → RowHeld σ environment → RowBehind ps environment (shadowed_by own environment)
  shadowed-behind ps own environment w held = record {
    held = shadowed-held σ.named σ.closed own environment w.held held;
    grows = λ x there. shadowed-outer σ.named σ.closed own environment x there;
    binds = every-more (λ y. has own y.0 ≡ true) (λ y. has (shadowed_by own environment) y.0 ≡ true) (λ y there. shadowed-own σ.named σ.closed own environment y.0 there) (O.row_variables ps) w.binds;
  }

  -- ---- clauses

  -- clauses with these patterns, this guard and this body
  pub record SameChoice (ps : List (Node PatternKind)) (guard : O.Part) (rest : O.Body) (c d : Choice) : Type 0 where
    pub funs : c.funs ≡ d.funs
    pub matches : (vs : List Value) (environment : Environment) → c.matches vs environment ≡ d.matches vs environment
    pub matched : (vs : List Value) (environment out : Environment) → AllHeld σ vs → RowHeld σ environment → d.matches vs environment ≡ Some out → RowBehind ps environment out
    pub allows : (environment : Environment) → RowHeld σ environment → HasVariables environment guard.occurrences → c.allows environment ≡ d.allows environment
    pub runs : RunsSame σ (λ environment. Held σ) rest.occurrences d.funs c.run d.run

  -- where the environment has what the clause uses, it has all that its guard and its body use once its patterns matched
  clause-covers : (role : Role) (ps : List (Node PatternKind)) (guard : O.Part) (rest : O.Body) (environment out : Environment) → Covered (has environment) (O.clause_from (O.row role ps) (O.row_marks role ps) guard rest).occurrences →
      RowBehind ps environment out → Covered (has out) guard.occurrences × Covered (has out) rest.occurrences
  clause-covers role ps guard rest environment out covered w = covered-clause (has environment) (O.row role ps) (O.row_marks role ps) guard rest covered (has out) w.grows (marks-named (has out) role ps w.binds)

  pub taken-goes : (role : Role) (ps : List (Node PatternKind)) (guard : O.Part) (rest : O.Body) (c d : Choice) → SameChoice ps guard rest c d → (vs : List Value) (environment : Environment) → AllHeld σ vs → RowHeld σ environment →
      Covered (has environment) (O.clause_from (O.row role ps) (O.row_marks role ps) guard rest).occurrences → Goes σ taken vs environment c d
  taken-goes role ps guard rest c d s vs environment all held covered = record {
    funs = s.funs;
    taken = allowed-same c d _ _ (s.matches vs environment) (λ out e. s.allows out (s.matched vs environment out all held e).held (clause-covers role ps guard rest environment out covered (s.matched vs environment out all held e)).0);
    runs = λ out e. let w : RowBehind ps environment out = s.matched vs environment out all held (allowed-some d (d.matches vs environment) out e) in s.runs out w.held (clause-covers role ps guard rest environment out covered w).1;
  }

  pub anew-goes : (role : Role) (ps : List (Node PatternKind)) (guard : O.Part) (rest : O.Body) (c d : Choice) → SameChoice ps guard rest c d → (vs : List Value) (environment : Environment) → AllHeld σ vs → RowHeld σ environment →
      Covered (has environment) (O.clause_from (O.row role ps) (O.row_marks role ps) guard rest).occurrences → Goes σ taken_anew vs environment c d
  anew-goes role ps guard rest c d s vs environment all held covered = record {
    funs = s.funs;
    taken = allowed-same c d _ _ (ap (λ o. anew o environment) (s.matches vs no_bindings)) (λ out e. let w : RowBehind ps environment out = behind out e in s.allows out w.held (clause-covers role ps guard rest environment out covered w).0);
    runs = λ out e. let w : RowBehind ps environment out = behind out (allowed-some d (anew (d.matches vs no_bindings) environment) out e) in s.runs out w.held (clause-covers role ps guard rest environment out covered w).1;
  }
    where
      behind : (out : Environment) → anew (d.matches vs no_bindings) environment ≡ Some out → RowBehind ps environment out
      behind out e = anew-some (RowBehind ps environment) (d.matches vs no_bindings) environment out e (λ own i. shadowed-behind ps own environment (s.matched vs no_bindings own all tt i) held)

  -- ---- clauses of trees

  pub choice-same : (c : ClauseKind) → SameClause σ c → (clause_kind_faults σ.functions σ.records c).faults ≡ [] →
      SameChoice (out-ClauseKind c).patterns (O.optional guard_at (out-ClauseKind c).guard) (body_in (out-ClauseKind c).body) (R.clause_choice σ.unbound σ.records σ.arity σ.apply (out-ClauseKind c))
      (R.clause_choice wrong σ.records σ.arity σ.also (out-ClauseKind c))
  choice-same c h right = record {
    funs = h.funs;
    matches = λ vs environment. refl;
    matched = λ vs environment out all held e. matches-behind (out-ClauseKind c).patterns vs environment out all held e;
    allows = h.allows right;
    runs = h.runs right;
  }

  -- with the class of an exception in front
  abbrev with_class : Outcome Value → Applies → Option (Node PatternKind) → Choice → Choice
  with_class unbound apply class c = record { funs = c.funs; matches = match_caught unbound σ.records σ.arity apply class c; allows = c.allows; run = c.run }

  class-same : (class : Option (Node PatternKind)) (v : Value) (environment : Environment) → match_class σ.unbound σ.records σ.arity σ.apply class v environment ≡ match_class wrong σ.records σ.arity σ.also class v environment
  class-same None v environment = refl
  class-same (Some p) v environment = refl

  caught-matches : (class : Option (Node PatternKind)) (c d : Choice) → ((vs : List Value) (environment : Environment) → c.matches vs environment ≡ d.matches vs environment) → (vs : List Value) (environment : Environment) →
      match_caught σ.unbound σ.records σ.arity σ.apply class c vs environment ≡ match_caught wrong σ.records σ.arity σ.also class d vs environment
  caught-matches class c d h [] environment = refl
  caught-matches class c d h (v ∷ vs) environment = λ j. match_next (class-same class v environment j) (λ own. h vs own j)

  caught-matched : (class : Option (Node PatternKind)) (ps : List (Node PatternKind)) (d : Choice) →
      ((vs : List Value) (environment out : Environment) → AllHeld σ vs → RowHeld σ environment → d.matches vs environment ≡ Some out → RowBehind ps environment out) →
      (vs : List Value) (environment out : Environment) → AllHeld σ vs → RowHeld σ environment → match_caught wrong σ.records σ.arity σ.also class d vs environment ≡ Some out → RowBehind (O.class_patterns class ++ ps) environment out
  caught-matched class ps d h [] environment out all held e = absurd (cc)
  caught-matched None ps d h (v ∷ vs) environment out all held e =
      next-some (RowBehind ps environment out) (match_class wrong σ.records σ.arity σ.also None v environment) (d.matches vs) out e
      (λ mid i k. some-is (λ (here : Environment). d.matches vs here ≡ Some out → RowBehind ps environment out) environment mid (if-some (same_value (class_name throw) v) environment mid i) (λ m. h vs environment out all.1 held m) k)
  caught-matched (Some p) ps d h (v ∷ vs) environment out all held e =
      next-some (RowBehind (p ∷ ps) environment out) (match_class wrong σ.records σ.arity σ.also (Some p) v environment) (d.matches vs) out e
      (λ mid i k. let first : RowBehind (p ∷ []) environment mid = match-behind p v environment mid all.0 held i in let next : RowBehind ps mid out = h vs mid out all.1 first.held k in record {
        held = next.held;
        grows = λ x there. next.grows x (first.grows x there);
        binds = every-join (λ y. has out y.0 ≡ true) (O.variables_of p) (O.row_variables ps)
            (every-more (λ y. has mid y.0 ≡ true) (λ y. has out y.0 ≡ true) (λ y there. next.grows y.0 there) (O.variables_of p) (match-binds σ.named σ.closed σ.records p v environment mid i)) next.binds;
      })

  pub caught-same : (class : Option (Node PatternKind)) (ps : List (Node PatternKind)) (guard : O.Part) (rest : O.Body) (c d : Choice) → SameChoice ps guard rest c d →
      SameChoice (O.class_patterns class ++ ps) guard rest (with_class σ.unbound σ.apply class c) (with_class wrong σ.also class d)
  caught-same class ps guard rest c d s = record { funs = s.funs; matches = caught-matches class c d s.matches; matched = caught-matched class ps d s.matched; allows = s.allows; runs = s.runs }

  -- the same of the clauses that are run
  pub clause-same : (c : Node ClauseKind) → SameClause σ c.kind → (clause_kind_faults σ.functions σ.records c.kind).faults ≡ [] →
      SameChoice (out-ClauseKind c.kind).patterns (O.optional guard_at (out-ClauseKind c.kind).guard) (body_in (out-ClauseKind c.kind).body) (one_choice σ c) (other_choice σ c)
  clause-same c h right = subst (λ X. X) (λ j. SameChoice (out-ClauseKind c.kind).patterns (O.optional guard_at (out-ClauseKind c.kind).guard) (body_in (out-ClauseKind c.kind).body)
      (sym (R.choice_kind-is σ.unbound σ.records σ.arity σ.apply c.kind) j) (sym (R.choice_kind-is wrong σ.records σ.arity σ.also c.kind) j)) (choice-same c.kind h right)

  pub catch-same : (c : Node CatchKind) → SameClause σ (out-CatchKind c.kind).clause.kind → catch_kind_faults σ.functions σ.records c.kind ≡ [] →
      SameChoice (O.class_patterns (out-CatchKind c.kind).class ++ (out-ClauseKind (out-CatchKind c.kind).clause.kind).patterns) (O.optional guard_at (out-ClauseKind (out-CatchKind c.kind).clause.kind).guard)
      (body_in (out-ClauseKind (out-CatchKind c.kind).clause.kind).body) (one_caught σ c) (other_caught σ c)
  catch-same c h right =
      let r : (faults_of_optional (pattern_faults σ.functions σ.records) (out-CatchKind c.kind).class ≡ []) × ((clause_kind_faults σ.functions σ.records (out-CatchKind c.kind).clause.kind).faults ≡ []) =
      append-none (faults_of_optional (pattern_faults σ.functions σ.records) (out-CatchKind c.kind).class) ((clause_kind_faults σ.functions σ.records (out-CatchKind c.kind).clause.kind).faults)
      (sym (catch_faults-out σ.functions σ.records c.kind) ∙ right) in
      subst (λ X. X) (λ j. SameChoice (O.class_patterns (out-CatchKind c.kind).class ++ (out-ClauseKind (out-CatchKind c.kind).clause.kind).patterns) (O.optional guard_at (out-ClauseKind (out-CatchKind c.kind).clause.kind).guard)
      (body_in (out-ClauseKind (out-CatchKind c.kind).clause.kind).body) (sym (R.caught_kind-is σ.unbound σ.records σ.arity σ.apply c.kind) j) (sym (R.caught_kind-is wrong σ.records σ.arity σ.also c.kind) j))
      (caught-same (out-CatchKind c.kind).class (out-ClauseKind (out-CatchKind c.kind).clause.kind).patterns (O.optional guard_at (out-ClauseKind (out-CatchKind c.kind).clause.kind).guard)
      (body_in (out-ClauseKind (out-CatchKind c.kind).clause.kind).body) (one_choice σ (out-CatchKind c.kind).clause) (other_choice σ (out-CatchKind c.kind).clause)
      (clause-same (out-CatchKind c.kind).clause h r.1))

  -- a clause of a `case`, an `if` or an `of` part, one of a function or a fun, and one of a `catch` part
  pub clause-goes : (c : Node ClauseKind) → SameClause σ c.kind → (clause_kind_faults σ.functions σ.records c.kind).faults ≡ [] → (vs : List Value) (environment : Environment) → AllHeld σ vs → RowHeld σ environment →
      Covered (has environment) (O.clause_part Met c).occurrences → Goes σ taken vs environment (one_choice σ c) (other_choice σ c)
  clause-goes c h right vs environment all held covered = taken-goes Met (out-ClauseKind c.kind).patterns (O.optional guard_at (out-ClauseKind c.kind).guard) (body_in (out-ClauseKind c.kind).body) _ _
      (clause-same c h right) vs environment all held (subst (λ (part : O.Part). Covered (has environment) part.occurrences) (clause-out c.kind Met []) covered)

  pub fun_clause-goes : (role : Role) (c : Node ClauseKind) → SameClause σ c.kind → (clause_kind_faults σ.functions σ.records c.kind).faults ≡ [] → (vs : List Value) (environment : Environment) → AllHeld σ vs → RowHeld σ environment →
      Covered (has environment) (O.clause_part role c).occurrences → Goes σ taken_anew vs environment (one_choice σ c) (other_choice σ c)
  fun_clause-goes role c h right vs environment all held covered =
      anew-goes role (out-ClauseKind c.kind).patterns (O.optional guard_at (out-ClauseKind c.kind).guard) (body_in (out-ClauseKind c.kind).body) _ _ (clause-same c h right) vs environment all held
      (subst (λ (part : O.Part). Covered (has environment) part.occurrences) (clause-out c.kind role []) covered)

  pub catch-goes : (c : Node CatchKind) → SameClause σ (out-CatchKind c.kind).clause.kind → catch_kind_faults σ.functions σ.records c.kind ≡ [] → (vs : List Value) (environment : Environment) → AllHeld σ vs → RowHeld σ environment →
      Covered (has environment) (O.catch_part Met c).occurrences → Goes σ taken vs environment (one_caught σ c) (other_caught σ c)
  catch-goes c h right vs environment all held covered =
      taken-goes Met (O.class_patterns (out-CatchKind c.kind).class ++ (out-ClauseKind (out-CatchKind c.kind).clause.kind).patterns) (O.optional guard_at (out-ClauseKind (out-CatchKind c.kind).clause.kind).guard)
      (body_in (out-ClauseKind (out-CatchKind c.kind).clause.kind).body) _ _ (catch-same c h right) vs environment all held
      (subst (λ (part : O.Part). Covered (has environment) part.occurrences) (catch-out c.kind Met [] ∙ clause-out (out-CatchKind c.kind).clause.kind Met (O.class_patterns (out-CatchKind c.kind).class)) covered)

  -- ---- guards

  tests-same : TestsSame σ → (es : List (Node ExprKind)) → Every (λ e. SameExpr σ e.kind) es → faults_of_each (expr_faults σ.functions σ.records) es ≡ [] → (environment : Environment) → RowHeld σ environment →
      Every (λ (o : O.Part). Covered (has environment) o.occurrences) (map O.expr_part es) →
      list_all (R.is_test_true σ.unbound σ.records σ.arity σ.apply environment) es ≡ list_all (R.is_test_true wrong σ.records σ.arity σ.also environment) es
  tests-same tests [] h right environment held covered = refl
  tests-same tests (e ∷ es) h right environment held covered =
      let r : (expr_faults σ.functions σ.records e ≡ []) × (faults_of_each (expr_faults σ.functions σ.records) es ≡ []) = append-none (expr_faults σ.functions σ.records e) (faults_of_each (expr_faults σ.functions σ.records) es) right in
      λ j. tests e h.0 r.0 environment held covered.0 j && tests-same tests es h.1 r.1 environment held covered.1 j

  alternatives-same : TestsSame σ → (gs : List (List (Node ExprKind))) → Every (λ es. Every (λ (e : Node ExprKind). SameExpr σ e.kind) es) gs → faults_of_each (faults_of_each (expr_faults σ.functions σ.records)) gs ≡ [] →
      (environment : Environment) → RowHeld σ environment → Every (λ (o : O.Part). Covered (has environment) o.occurrences) (map tests_part gs) →
      list_any (λ es. list_all (R.is_test_true σ.unbound σ.records σ.arity σ.apply environment) es) gs ≡ list_any (λ es. list_all (R.is_test_true wrong σ.records σ.arity σ.also environment) es) gs
  alternatives-same tests [] h right environment held covered = refl
  alternatives-same tests (es ∷ gs) h right environment held covered =
      let r : (faults_of_each (expr_faults σ.functions σ.records) es ≡ []) × (faults_of_each (faults_of_each (expr_faults σ.functions σ.records)) gs ≡ []) =
      append-none (faults_of_each (expr_faults σ.functions σ.records) es) (faults_of_each (faults_of_each (expr_faults σ.functions σ.records)) gs) right in
      λ j. tests-same tests es h.0 r.0 environment held (covered-in_turn (has environment) (map O.expr_part es) covered.0) j || alternatives-same tests gs h.1 r.1 environment held covered.1 j

  pub guard-same : TestsSame σ → (g : Option (Node (List (List (Node ExprKind))))) → Optional (λ (g : Node (List (List (Node ExprKind)))). Every (λ es. Every (λ (e : Node ExprKind). SameExpr σ e.kind) es) g.kind) g →
      faults_of_optional (guard_faults σ.functions σ.records) g ≡ [] →
      (environment : Environment) → RowHeld σ environment → Covered (has environment) (O.optional guard_at g).occurrences →
      R.is_guard_true σ.unbound σ.records σ.arity σ.apply g environment ≡ R.is_guard_true wrong σ.records σ.arity σ.also g environment
  guard-same tests None h right environment held covered = refl
  guard-same tests (Some g) h right environment held covered = alternatives-same tests g.kind h right environment held (covered-in_turn (has environment) (map tests_part g.kind) covered)
