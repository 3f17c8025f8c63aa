-- Each form of expression but `fun` and `try` is run alike in both runs, where its parts are.
use Rattle.std.proofs.Common.{◌≡◌, refl, ap, sym, ◌∙◌, subst, ℕ, ℤ, pos, negsuc, ◌≤◌, List, [], ◌∷◌, ◌++◌, map, length, Bool, true, false, ◌||◌}
use Rattle.std.specs.Prelude.{Option, Some, None, is_some}
use Rattle.type_terms.specs.Keys.{Name}
use Rattle.erl_tree.specs.declared.token.Place.{Place}
use Rattle.erl_tree.specs.declared.token.Node.{Node}
use Rattle.erl_tree.specs.declared.expr.UnaryOp.{UnaryOp}
use Rattle.erl_tree.specs.declared.expr.BinaryOp.{BinaryOp}
use Rattle.erl_tree.specs.declared.expr.BinaryOp.TheVariants.{Andalso, Orelse}
use Rattle.erl_tree.specs.declared.expr.ExprKind.{ExprKind, out-ExprKind}
use Rattle.erl_tree.specs.declared.expr.ExprKind.TheVariants as X
use Rattle.erl_tree.specs.declared.expr.ItemKind.{ItemKind}
use Rattle.erl_tree.specs.declared.expr.QualifierKind.{QualifierKind}
use Rattle.erl_tree.specs.declared.expr.AssocKind.{AssocKind}
use Rattle.erl_tree.specs.declared.expr.ClauseKind.{ClauseKind}
use Rattle.erl_tree.specs.Functions.{of_function}
use Rattle.erl_tree.specs.Lists.{Every}
use Rattle.erl_runs.specs.Names.{is_built_in}
use Rattle.erl_runs.specs.Value.{Value, integer, nil, tuple, map_of, no_entries, named_fun, Environment, Outcome, came, wrong, Run}
use Rattle.erl_runs.specs.Value as V
use Rattle.erl_runs.specs.Records.{values_of, list_with, string_value}
use Rattle.erl_runs.specs.Matching.{variable_value}
use Rattle.erl_runs.specs.Operations.{truth_of, boolean, operate, operate_one, built_in}
use Rattle.erl_runs.specs.Running.{ends, meaning, behind, is_fun_layer, with_itself, funs_in, funs_in_choices, decided, run_operator, as_number, run_call, plain, literal}
use Rattle.erl_runs.proofs.RunLaws as R
use Rattle.erl_scope_rules.specs.declared.fault.PlacedFault.{PlacedFault}
use Rattle.erl_scope_rules.specs.declared.fault.NameFault.TheVariants.{NoSuchFunction}
use Rattle.erl_scope_rules.specs.Occurrences as O
use Rattle.erl_scope_rules.specs.ScopeFaults.{unless, faults_of_each, faults_of_optional, is_defined, is_defined_at, call_faults, expr_kind_faults, expr_faults, qualifier_faults}
use Rattle.erl_scope_rules.proofs.OccurrenceLaws as L
use Rattle.erl_scope_rules.proofs.FaultLaws as F
use Rattle.runs_with_right_names.proofs.Held.{has}
use Rattle.runs_with_right_names.proofs.HeldValues.{variable-held, list_with-held, tuple-held, string-held, boolean-held, operate-held, operate_one-held, built_in-held, built_in-there}
use Rattle.runs_with_right_names.proofs.RightParts.{append-none, every-split, unless-holds, Optional}
use Rattle.runs_with_right_names.proofs.Seen.{Covered, covered-in_turn, covered-comprehension}
use Rattle.runs_with_right_names.proofs.RunSetting.{Setting, Held, AllHeld, Same, one_does, other_does, one_part, other_part, one_item, other_item, one_qualifier, other_qualifier, one_assoc, other_assoc, one_field, other_field, one_choice, other_choice, RunsSame}
use Rattle.runs_with_right_names.proofs.SameParts.{le-trans, ends-same, gives-same, wrong-same, then-same, funs-same, choice_funs-same}
use Rattle.runs_with_right_names.proofs.SameNodes.{every-more, SameExpr, SameItem, SameQualifier, SameAssoc, SameClause, part-same, exprs-same, tail-in, qualifiers-same}

or-other : (b c : Bool) → (b || c) ≡ true → (b ≡ true → ⊥) → c ≡ true
or-other true c e absent = absurd (absent refl)
or-other false c e absent = e

module _ (σ : Setting) where
  -- ---- fun expressions in rows

  pub exprs-funs : (es : List (Node ExprKind)) → Every (λ e. SameExpr σ e.kind) es → funs_in (map (one_part σ) es) ≡ funs_in (map (other_part σ) es)
  exprs-funs es h = funs-same σ (one_part σ) (other_part σ) es (every-more (λ e. SameExpr σ e.kind) (λ e. (one_part σ e).funs ≡ (other_part σ e).funs) (λ e s. (part-same σ e s).funs) es h)

  pub items-funs : (is : List (Node ItemKind)) → Every (λ i. SameItem σ i.kind) is → funs_in (map (one_item σ) is) ≡ funs_in (map (other_item σ) is)
  items-funs is h = funs-same σ (one_item σ) (other_item σ) is (every-more (λ i. SameItem σ i.kind) (λ i. (one_item σ i).funs ≡ (other_item σ i).funs) (λ i s. s.funs) is h)

  qualifiers-funs : (qs : List (Node QualifierKind)) → Every (λ q. SameQualifier σ q.kind) qs → funs_in (map (one_qualifier σ) qs) ≡ funs_in (map (other_qualifier σ) qs)
  qualifiers-funs qs h = funs-same σ (one_qualifier σ) (other_qualifier σ) qs (every-more (λ q. SameQualifier σ q.kind) (λ q. (one_qualifier σ q).funs ≡ (other_qualifier σ q).funs) (λ q s. s.funs) qs h)

  pub assocs-funs : (as' : List (Node AssocKind)) → Every (λ a. SameAssoc σ a.kind) as' → funs_in (map (one_assoc σ) as') ≡ funs_in (map (other_assoc σ) as')
  assocs-funs as' h = funs-same σ (one_assoc σ) (other_assoc σ) as' (every-more (λ a. SameAssoc σ a.kind) (λ a. (one_assoc σ a).funs ≡ (other_assoc σ a).funs) (λ a s. s.funs) as' h)

  pub fields-funs : (fs : List (Node (Name × Node ExprKind))) → Every (λ f. SameExpr σ f.kind.1.kind) fs → funs_in (map (one_field σ) fs) ≡ funs_in (map (other_field σ) fs)
  fields-funs fs h = funs-same σ (one_field σ) (other_field σ) fs
      (every-more (λ (f : Node (Name × Node ExprKind)). SameExpr σ f.kind.1.kind) (λ (f : Node (Name × Node ExprKind)). (one_field σ f).funs ≡ (other_field σ f).funs) (λ f s. (part-same σ f.kind.1 s).funs) fs h)

  tail-funs : (t : Option (Node ExprKind)) → Optional (λ (e : Node ExprKind). SameExpr σ e.kind) t → (R.tail_of σ.unbound σ.records σ.arity σ.apply t).funs ≡ (R.tail_of wrong σ.records σ.arity σ.also t).funs
  tail-funs None h = refl
  tail-funs (Some e) h = (part-same σ e h).funs

  pub choice-funs : (c : Node ClauseKind) → SameClause σ c.kind → (one_choice σ c).funs ≡ (other_choice σ c).funs
  choice-funs c h = ap (λ d. d.funs) (R.choice_kind-is σ.unbound σ.records σ.arity σ.apply c.kind) ∙ (h.funs ∙ sym (ap (λ d. d.funs) (R.choice_kind-is wrong σ.records σ.arity σ.also c.kind)))

  pub choices-funs : (cs : List (Node ClauseKind)) → Every (λ c. SameClause σ c.kind) cs → funs_in_choices (map (one_choice σ) cs) ≡ funs_in_choices (map (other_choice σ) cs)
  choices-funs cs h = choice_funs-same σ (one_choice σ) (other_choice σ) cs (every-more (λ c. SameClause σ c.kind) (λ c. (one_choice σ c).funs ≡ (other_choice σ c).funs) choice-funs cs h)

  -- ---- forms that are no fun expressions

  -- by what the form does in both runs, by its faults and its occurrences
  pub plain-same : (t : ExprKind) (inner others : List (Node ExprKind)) (run runs : ℕ → Environment → ℕ → Run Value) (faults : Place → List PlacedFault) (occurs : Place → O.Part) → one_does σ t ≡ plain inner run →
      other_does σ t ≡ plain others runs → is_fun_layer (out-ExprKind t) ≡ false →
      ((place : Place) → expr_kind_faults σ.functions σ.records t place ≡ faults place) → ((place : Place) → O.expr_kind_part t place ≡ occurs place) → inner ≡ others →
      ((place : Place) → faults place ≡ [] → RunsSame σ (λ environment. Held σ) (occurs place).occurrences others run runs) → SameExpr σ t
  plain-same t inner others run runs faults occurs d e other f o i h = record {
    inner = ap (λ x. x.inner) d ∙ (i ∙ sym (ap (λ x. x.inner) e));
    runs = λ place marks right environment held covered b c p k l at.
        subst (λ X. X) (λ j. Same σ (Held σ) k ((sym d j).run b environment k) ((sym e j).run c environment k))
        (h place (sym (f place) ∙ right) environment held (subst (λ (part : O.Part). Covered (has environment) part.occurrences) (o place) covered) b c p k l
        (subst (λ X. X) (λ j. σ.at c (with_itself (other j) (record { place = place; marks = marks; kind = t }) ((e j).inner))) at));
    enters = λ place right vs all environment held covered b c p k l at.
        subst (λ X. X) (λ j. Same σ (Held σ) k ((sym d j).enter b environment vs k) ((sym e j).enter c environment vs k)) (wrong-same σ (Held σ) k);
  }

  literal-same : (t : ExprKind) (v : Value) → one_does σ t ≡ literal v → other_does σ t ≡ literal v → is_fun_layer (out-ExprKind t) ≡ false → Held σ v → SameExpr σ t
  literal-same t v d e other held = plain-same t _ _ _ _ (λ place. expr_kind_faults σ.functions σ.records t place) (λ place. O.expr_kind_part t place) d e other (λ place. refl) (λ place. refl) refl
      (λ place right environment row covered b c p k l at. gives-same σ (Held σ) v held k)

  pub atom-same : (a : Name) → SameExpr σ (X.Atom a)
  atom-same a = literal-same (X.Atom a) (V.atom a) (R.run_kind-Atom σ.unbound σ.records σ.arity σ.apply a) (R.run_kind-Atom wrong σ.records σ.arity σ.also a) (ap is_fun_layer (X.outs-Atom a)) tt

  pub int-same : (n : ℤ) → SameExpr σ (X.Int n)
  int-same n = literal-same (X.Int n) (integer n) (R.run_kind-Int σ.unbound σ.records σ.arity σ.apply n) (R.run_kind-Int wrong σ.records σ.arity σ.also n) (ap is_fun_layer (X.outs-Int n)) tt

  pub char-same : (c : ℕ) → SameExpr σ (X.Char c)
  char-same c = literal-same (X.Char c) (integer (pos c)) (R.run_kind-Char σ.unbound σ.records σ.arity σ.apply c) (R.run_kind-Char wrong σ.records σ.arity σ.also c) (ap is_fun_layer (X.outs-Char c)) tt

  pub text-same : (s : List ℕ) → SameExpr σ (X.Str s)
  text-same s = literal-same (X.Str s) (string_value s) (R.run_kind-Str σ.unbound σ.records σ.arity σ.apply s) (R.run_kind-Str wrong σ.records σ.arity σ.also s) (ap is_fun_layer (X.outs-Str s)) (string-held σ.named σ.closed s)

  function-named : (name : Name) (n : ℤ) (place : Place) → unless (is_defined_at σ.functions σ.records name n) NoSuchFunction place ≡ [] → σ.named name (as_number n)
  function-named name (pos n) place e = σ.knows name n (unless-holds (is_defined σ.functions σ.records (of_function name n)) NoSuchFunction place e)
  function-named name (negsuc n) place e = absurd (cc)

  pub fun_name-same : (name : Name) (n : ℤ) → SameExpr σ (X.FunName name n)
  fun_name-same name n = plain-same (X.FunName name n) _ _ _ _ (λ place. unless (is_defined_at σ.functions σ.records name n) NoSuchFunction place) (λ place. O.expr_kind_part (X.FunName name n) place)
      (R.run_kind-FunName σ.unbound σ.records σ.arity σ.apply name n) (R.run_kind-FunName wrong σ.records σ.arity σ.also name n) (ap is_fun_layer (X.outs-FunName name n)) (λ place. F.expr_faults-FunName σ.functions σ.records name n place)
      (λ place. refl) refl
      (λ place right environment row covered b c p k l at. gives-same σ (Held σ) (named_fun name (as_number n)) (function-named name n place right) k)

  value-same : (o : Option Value) → is_some o ≡ true → ((v : Value) → o ≡ Some v → Held σ v) → (k : ℕ) → Same σ (Held σ) k (ends (meaning σ.unbound o) k) (ends (meaning wrong o) k)
  value-same None there held k = absurd (cc)
  value-same (Some v) there held k = ends-same σ (Held σ) (came v) (held v refl) k

  pub variable-same : (x : Name) → SameExpr σ (X.Var x)
  variable-same x = plain-same (X.Var x) _ _ _ _ (λ place. expr_kind_faults σ.functions σ.records (X.Var x) place) (λ place. O.use_at x place)
      (R.run_kind-Var σ.unbound σ.records σ.arity σ.apply x) (R.run_kind-Var wrong σ.records σ.arity σ.also x) (ap is_fun_layer (X.outs-Var x)) (λ place. refl) (λ place. L.part-Var x place) refl
      (λ place right environment row covered b c p k l at. value-same (variable_value environment x) (covered.0 refl) (λ v e. variable-held σ.named σ.closed environment x v row e) k)

  pub paren-same : (e : Node ExprKind) → SameExpr σ e.kind → SameExpr σ (X.Paren e)
  paren-same e h = plain-same (X.Paren e) _ _ _ _ (λ place. expr_faults σ.functions σ.records e) (λ place. O.expr_part e)
      (R.run_kind-Paren σ.unbound σ.records σ.arity σ.apply e) (R.run_kind-Paren wrong σ.records σ.arity σ.also e) (ap is_fun_layer (X.outs-Paren e)) (λ place. F.expr_faults-Paren σ.functions σ.records e place)
      (λ place. L.part-Paren e place) (part-same σ e h).funs
      (λ place right. (part-same σ e h).runs right)

  pub tuple-same : (es : List (Node ExprKind)) → Every (λ e. SameExpr σ e.kind) es → SameExpr σ (X.Tuple es)
  tuple-same es h = plain-same (X.Tuple es) _ _ _ _ (λ place. faults_of_each (expr_faults σ.functions σ.records) es) (λ place. O.in_turn (map O.expr_part es))
      (R.run_kind-Tuple σ.unbound σ.records σ.arity σ.apply es) (R.run_kind-Tuple wrong σ.records σ.arity σ.also es) (ap is_fun_layer (X.outs-Tuple es)) (λ place. F.expr_faults-Tuple σ.functions σ.records es place)
      (λ place. L.part-Tuple es place) (exprs-funs es h)
      (λ place right environment row covered b c p k l at. then-same σ (λ vs. AllHeld σ vs × (length vs ≡ length es)) (Held σ) k _ _ _ _
      (exprs-same σ es h right environment row (covered-in_turn (has environment) (map O.expr_part es) covered) b c p k l at)
      (λ vs m u all. gives-same σ (Held σ) (tuple (values_of vs)) (tuple-held σ.named σ.closed vs all.0) m))

  pub cells-same : (es : List (Node ExprKind)) (t : Option (Node ExprKind)) → Every (λ e. SameExpr σ e.kind) es → Optional (λ (e : Node ExprKind). SameExpr σ e.kind) t → SameExpr σ (X.Cells es t)
  cells-same es t h g = plain-same (X.Cells es t) _ _ _ _ (λ place. faults_of_each (expr_faults σ.functions σ.records) es ++ faults_of_optional (expr_faults σ.functions σ.records) t)
      (λ place. O.in_turn (map O.expr_part es ++ O.optional O.expr_part t ∷ []))
      (R.run_kind-Cells σ.unbound σ.records σ.arity σ.apply es t) (R.run_kind-Cells wrong σ.records σ.arity σ.also es t) (ap is_fun_layer (X.outs-Cells es t)) (λ place. F.expr_faults-Cells σ.functions σ.records es t place)
      (λ place. L.part-Cells es t place) (λ j. exprs-funs es h j ++ tail-funs t g j)
      (λ place right environment row covered b c p k l at.
      let r : (faults_of_each (expr_faults σ.functions σ.records) es ≡ []) × (faults_of_optional (expr_faults σ.functions σ.records) t ≡ []) =
      append-none (faults_of_each (expr_faults σ.functions σ.records) es) (faults_of_optional (expr_faults σ.functions σ.records) t) right in
      let s : σ.at c (funs_in (map (other_part σ) es)) × σ.at (behind c (funs_in (map (other_part σ) es))) (R.tail_of wrong σ.records σ.arity σ.also t).funs =
      σ.at_append c (funs_in (map (other_part σ) es)) (R.tail_of wrong σ.records σ.arity σ.also t).funs at in
      let v : Every (λ (o : O.Part). Covered (has environment) o.occurrences) (map O.expr_part es) × Every (λ (o : O.Part). Covered (has environment) o.occurrences) (O.optional O.expr_part t ∷ []) =
      every-split (λ (o : O.Part). Covered (has environment) o.occurrences) (map O.expr_part es) (O.optional O.expr_part t ∷ []) (covered-in_turn (has environment) (map O.expr_part es ++ O.optional O.expr_part t ∷ []) covered) in
      then-same σ (λ vs. AllHeld σ vs × (length vs ≡ length es)) (Held σ) k _ _ _ _ (exprs-same σ es h r.0 environment row v.0 b c p k l s.0)
      (λ vs m u all. then-same σ (Held σ) (Held σ) m _ _ _ _ ((tail-in σ t g r.1 environment row v.1.0).runs _ _ (λ j. behind (p j) (exprs-funs es h j)) m (le-trans u l) s.1)
      (λ w i n held. gives-same σ (Held σ) (list_with vs w) (list_with-held σ.named σ.closed vs w all.0 held) i)))

  pub comprehension-same : (e : Node ExprKind) (qs : List (Node QualifierKind)) → SameExpr σ e.kind → Every (λ q. SameQualifier σ q.kind) qs → SameExpr σ (X.Comp e qs)
  comprehension-same e qs h g = plain-same (X.Comp e qs) _ _ _ _ (λ place. expr_faults σ.functions σ.records e ++ faults_of_each (qualifier_faults σ.functions σ.records) qs) (λ place. O.comprehension (O.expr_part e) (map O.qualifier_step qs))
      (R.run_kind-Comp σ.unbound σ.records σ.arity σ.apply e qs) (R.run_kind-Comp wrong σ.records σ.arity σ.also e qs) (ap is_fun_layer (X.outs-Comp e qs)) (λ place. F.expr_faults-Comp σ.functions σ.records e qs place)
      (λ place. L.part-Comp e qs place) (λ j. (part-same σ e h).funs j ++ qualifiers-funs qs g j)
      (λ place right environment row covered b c p k l at.
      let r : (expr_faults σ.functions σ.records e ≡ []) × (faults_of_each (qualifier_faults σ.functions σ.records) qs ≡ []) = append-none (expr_faults σ.functions σ.records e) (faults_of_each (qualifier_faults σ.functions σ.records) qs) right in
      let s : σ.at c (other_part σ e).funs × σ.at (behind c (other_part σ e).funs) (funs_in (map (other_qualifier σ) qs)) = σ.at_append c (other_part σ e).funs (funs_in (map (other_qualifier σ) qs)) at in
      then-same σ (AllHeld σ) (Held σ) k _ _ _ _
      (qualifiers-same σ qs g r.1 _ _ environment row (covered-comprehension (has environment) (O.expr_part e) (map O.qualifier_step qs) covered).0
      (λ out there m u. (part-same σ e h).runs r.0 out there.held ((covered-comprehension (has environment) (O.expr_part e) (map O.qualifier_step qs) covered).1 (has out) there.grows there.binds) b c p m u s.0)
      _ _ (λ j. behind (p j) ((part-same σ e h).funs j)) k l s.1)
      (λ vs m u all. gives-same σ (Held σ) (list_with vs nil) (list_with-held σ.named σ.closed vs nil all tt) m))

  pub unary-same : (op : UnaryOp) (e : Node ExprKind) → SameExpr σ e.kind → SameExpr σ (X.Unary op e)
  unary-same op e h = plain-same (X.Unary op e) _ _ _ _ (λ place. expr_faults σ.functions σ.records e) (λ place. O.expr_part e)
      (R.run_kind-Unary σ.unbound σ.records σ.arity σ.apply op e) (R.run_kind-Unary wrong σ.records σ.arity σ.also op e) (ap is_fun_layer (X.outs-Unary op e)) (λ place. F.expr_faults-Unary σ.functions σ.records op e place)
      (λ place. L.part-Unary op e place) (part-same σ e h).funs
      (λ place right environment row covered b c p k l at. then-same σ (Held σ) (Held σ) k _ _ _ _ ((part-same σ e h).runs right environment row covered b c p k l at)
      (λ v m u held. ends-same σ (Held σ) (operate_one op v) (operate_one-held σ.named σ.closed op v held) m))

  decided-same : (stops : Bool) (o : Option Bool) (f g : ℕ → Run Value) (k : ℕ) → Same σ (Held σ) k (f k) (g k) → Same σ (Held σ) k (decided stops o f k) (decided stops o g k)
  decided-same stops None f g k h = wrong-same σ (Held σ) k
  decided-same true (Some true) f g k h = gives-same σ (Held σ) (boolean true) (boolean-held σ.named σ.closed true) k
  decided-same true (Some false) f g k h = h
  decided-same false (Some true) f g k h = h
  decided-same false (Some false) f g k h = gives-same σ (Held σ) (boolean false) (boolean-held σ.named σ.closed false) k

  operator-same : (op : BinaryOp) (v : Value) → Held σ v → (f g : ℕ → Run Value) (k : ℕ) → Same σ (Held σ) k (f k) (g k) → Same σ (Held σ) k (run_operator op v f k) (run_operator op v g k)
  operator-same Andalso v held f g k h = decided-same false (truth_of v) f g k h
  operator-same Orelse v held f g k h = decided-same true (truth_of v) f g k h
  operator-same op v held f g k h = then-same σ (Held σ) (Held σ) k (f k) (g k) _ _ h (λ w m u other. ends-same σ (Held σ) (operate op v w) (operate-held σ.named σ.closed op v w held other) m)

  pub binary-same : (op : BinaryOp) (x y : Node ExprKind) → SameExpr σ x.kind → SameExpr σ y.kind → SameExpr σ (X.Binary op x y)
  binary-same op x y h g = plain-same (X.Binary op x y) _ _ _ _ (λ place. expr_faults σ.functions σ.records x ++ expr_faults σ.functions σ.records y) (λ place. O.in_turn (O.expr_part x ∷ O.expr_part y ∷ []))
      (R.run_kind-Binary σ.unbound σ.records σ.arity σ.apply op x y) (R.run_kind-Binary wrong σ.records σ.arity σ.also op x y) (ap is_fun_layer (X.outs-Binary op x y)) (λ place. F.expr_faults-Binary σ.functions σ.records op x y place)
      (λ place. L.part-Binary op x y place) (λ j. (part-same σ x h).funs j ++ (part-same σ y g).funs j)
      (λ place right environment row covered b c p k l at.
      let r : (expr_faults σ.functions σ.records x ≡ []) × (expr_faults σ.functions σ.records y ≡ []) = append-none (expr_faults σ.functions σ.records x) (expr_faults σ.functions σ.records y) right in
      let s : σ.at c (other_part σ x).funs × σ.at (behind c (other_part σ x).funs) (other_part σ y).funs = σ.at_append c (other_part σ x).funs (other_part σ y).funs at in
      then-same σ (Held σ) (Held σ) k _ _ _ _ ((part-same σ x h).runs r.0 environment row (covered-in_turn (has environment) (O.expr_part x ∷ O.expr_part y ∷ []) covered).0 b c p k l s.0)
      (λ v m u held. operator-same op v held _ _ m ((part-same σ y g).runs r.1 environment row (covered-in_turn (has environment) (O.expr_part x ∷ O.expr_part y ∷ []) covered).1.0 _ _ (λ j. behind (p j) ((part-same σ x h).funs j)) m
      (le-trans u l) s.1)))

  -- ---- calls

  -- what is built in
  absent-same : (prefix : Option Name) (name : Name) (vs : List Value) (place : Place) → AllHeld σ vs → (is_built_in (of_function name (length vs)) ≡ true → ⊥) →
      call_faults σ.functions σ.records prefix (of_function name (length vs)) place ≡ [] → (k : ℕ) → k ≤ σ.steps →
      Same σ (Held σ) k (run_call σ.unbound prefix None (λ rest. σ.apply (named_fun name (length vs)) vs rest) k) (run_call wrong prefix None (λ rest. σ.also (named_fun name (length vs)) vs rest) k)
  absent-same None name vs place all absent right k l =
      σ.agree (named_fun name (length vs)) vs k l (σ.knows name (length vs)
      (or-other (is_built_in (of_function name (length vs))) (is_defined σ.functions σ.records (of_function name (length vs))) (unless-holds _ NoSuchFunction place right) absent)) all
  absent-same (Some prefix) name vs place all absent right k l = absurd (absent (unless-holds (is_built_in (of_function name (length vs))) NoSuchFunction place right))

  call-same-by : (prefix : Option Name) (name : Name) (vs : List Value) (place : Place) → AllHeld σ vs → call_faults σ.functions σ.records prefix (of_function name (length vs)) place ≡ [] → (k : ℕ) → k ≤ σ.steps →
      (o : Option (Outcome Value)) → built_in σ.arity name vs ≡ o →
      Same σ (Held σ) k (run_call σ.unbound prefix o (λ rest. σ.apply (named_fun name (length vs)) vs rest) k) (run_call wrong prefix o (λ rest. σ.also (named_fun name (length vs)) vs rest) k)
  call-same-by prefix name vs place all right k l None e = absent-same prefix name vs place all (λ there. is_none (subst (λ o. is_some o ≡ true) e (built_in-there σ.named σ.closed σ.arity name vs there))) right k l
    where
      is_none : false ≡ true → ⊥
      is_none e = cc
  call-same-by prefix name vs place all right k l (Some outcome) e = ends-same σ (Held σ) outcome (built_in-held σ.named σ.closed σ.arity name vs outcome all e) k

  pub call-same : (prefix : Option Name) (name : Name) (es : List (Node ExprKind)) → Every (λ e. SameExpr σ e.kind) es → SameExpr σ (X.Call prefix name es)
  call-same prefix name es h = plain-same (X.Call prefix name es) _ _ _ _ (λ place. call_faults σ.functions σ.records prefix (of_function name (length es)) place ++ faults_of_each (expr_faults σ.functions σ.records) es)
      (λ place. O.in_turn (map O.expr_part es))
      (R.run_kind-Call σ.unbound σ.records σ.arity σ.apply prefix name es) (R.run_kind-Call wrong σ.records σ.arity σ.also prefix name es) (ap is_fun_layer (X.outs-Call prefix name es))
      (λ place. F.expr_faults-Call σ.functions σ.records prefix name es place) (λ place. L.part-Call prefix name es place) (exprs-funs es h)
      (λ place right environment row covered b c p k l at.
      let r : (call_faults σ.functions σ.records prefix (of_function name (length es)) place ≡ []) × (faults_of_each (expr_faults σ.functions σ.records) es ≡ []) =
      append-none (call_faults σ.functions σ.records prefix (of_function name (length es)) place) (faults_of_each (expr_faults σ.functions σ.records) es) right in
      then-same σ (λ vs. AllHeld σ vs × (length vs ≡ length es)) (Held σ) k _ _ _ _
      (exprs-same σ es h r.1 environment row (covered-in_turn (has environment) (map O.expr_part es) covered) b c p k l at)
      (λ vs m u all. call-same-by prefix name vs place all.0 (subst (λ n. call_faults σ.functions σ.records prefix (of_function name n) place ≡ []) (sym all.1) r.0) m (le-trans u l) (built_in σ.arity name vs) refl))

  pub application-same : (f : Node ExprKind) (es : List (Node ExprKind)) → SameExpr σ f.kind → Every (λ e. SameExpr σ e.kind) es → SameExpr σ (X.Apply f es)
  application-same f es h g = plain-same (X.Apply f es) _ _ _ _ (λ place. expr_faults σ.functions σ.records f ++ faults_of_each (expr_faults σ.functions σ.records) es) (λ place. O.in_turn (O.expr_part f ∷ map O.expr_part es))
      (R.run_kind-Apply σ.unbound σ.records σ.arity σ.apply f es) (R.run_kind-Apply wrong σ.records σ.arity σ.also f es) (ap is_fun_layer (X.outs-Apply f es)) (λ place. F.expr_faults-Apply σ.functions σ.records f es place)
      (λ place. L.part-Apply f es place) (λ j. (part-same σ f h).funs j ++ exprs-funs es g j)
      (λ place right environment row covered b c p k l at.
      let r : (expr_faults σ.functions σ.records f ≡ []) × (faults_of_each (expr_faults σ.functions σ.records) es ≡ []) = append-none (expr_faults σ.functions σ.records f) (faults_of_each (expr_faults σ.functions σ.records) es) right in
      let s : σ.at c (other_part σ f).funs × σ.at (behind c (other_part σ f).funs) (funs_in (map (other_part σ) es)) = σ.at_append c (other_part σ f).funs (funs_in (map (other_part σ) es)) at in
      then-same σ (Held σ) (Held σ) k _ _ _ _ ((part-same σ f h).runs r.0 environment row (covered-in_turn (has environment) (O.expr_part f ∷ map O.expr_part es) covered).0 b c p k l s.0)
      (λ v m u held. then-same σ (λ vs. AllHeld σ vs × (length vs ≡ length es)) (Held σ) m _ _ _ _
      (exprs-same σ es g r.1 environment row (covered-in_turn (has environment) (O.expr_part f ∷ map O.expr_part es) covered).1 _ _ (λ j. behind (p j) ((part-same σ f h).funs j)) m (le-trans u l) s.1)
      (λ vs i w all. σ.agree v vs i (le-trans w (le-trans u l)) held all.0)))
