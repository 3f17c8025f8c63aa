-- What each node of a tree does, and the equations of it: one for each form of expression, of an element of a body, of a qualifier, of an association and of a clause.
use Rattle.std.proofs.Common.{◌≡◌, refl, ap, sym, ◌∙◌, ℕ, ℤ, pos, List, [], ◌∷◌, ◌++◌, map, length, Bool, true, false, ◌&&◌, ◌||◌}
use Rattle.std.proofs.lemmas.List.{append-nil}
use Rattle.std.specs.Prelude.{Option, Some, None, is_none}
use Rattle.std.specs.List.{list_all, list_any}
use Rattle.type_terms.specs.Keys.{Name}
use Rattle.erl_tree.specs.declared.token.Node.{Node}
use Rattle.erl_tree.specs.declared.pattern.PatternKind.{PatternKind}
use Rattle.erl_tree.specs.declared.expr.UnaryOp.{UnaryOp}
use Rattle.erl_tree.specs.declared.expr.BinaryOp.{BinaryOp}
use Rattle.erl_tree.specs.declared.expr.ExprKind.{ExprKind, out-ExprKind, roll-ExprKind, map-ExprKind, para-roll-ExprKind}
use Rattle.erl_tree.specs.declared.expr.ExprKind.TheVariants as X
use Rattle.erl_tree.specs.declared.expr.ExprKind.TheOpen as E
use Rattle.erl_tree.specs.declared.expr.ExprKind.TheShapes as S
use Rattle.erl_tree.specs.declared.expr.ItemKind.{ItemKind, roll-ItemKind, map-ItemKind, para-ItemKind, para-roll-ItemKind}
use Rattle.erl_tree.specs.declared.expr.ItemKind.TheVariants as I
use Rattle.erl_tree.specs.declared.expr.QualifierKind.{QualifierKind, roll-QualifierKind, map-QualifierKind, para-QualifierKind, para-roll-QualifierKind}
use Rattle.erl_tree.specs.declared.expr.QualifierKind.TheVariants as Q
use Rattle.erl_tree.specs.declared.expr.AssocKind.{AssocKind, out-AssocKind, roll-AssocKind, roll-out-AssocKind, map-AssocKind, para-AssocKind, para-roll-AssocKind}
use Rattle.erl_tree.specs.declared.expr.CatchKind.{CatchKind, out-CatchKind, roll-CatchKind, roll-out-CatchKind, map-CatchKind, para-CatchKind, para-roll-CatchKind}
use Rattle.erl_tree.specs.declared.expr.ClauseKind.{ClauseKind, out-ClauseKind, roll-ClauseKind, roll-out-ClauseKind, map-ClauseKind, para-roll-ClauseKind}
use Rattle.erl_tree.specs.declared.form.RecDefKind.{RecDefKind}
use Rattle.erl_grammar.specs.Guards.{misfit}
use Rattle.erl_runs.specs.Value.{Value, integer, tuple, nil, map_of, no_entries, named_fun, closure, Environment, no_bindings, Outcome, came, raised, wrong, going, Run}
use Rattle.erl_runs.specs.Value as V
use Rattle.erl_runs.specs.Records.{values_of, list_with, string_value, find_record}
use Rattle.erl_runs.specs.Matching.{variable_value, shadowed_by, match_pattern, match_patterns}
use Rattle.erl_runs.specs.Operations.{truth_of, operate_one, elements_of, built_in, Association, change_map}
use Rattle.erl_runs.specs.Running.{gives, ends, goes_wrong, then, meaning, gives_found, Part, Does, Choice, Applies, is_fun_layer, with_itself, parts, all_of, funs_in, funs_in_choices, allowed, anew, or_else, run_taken, behind, run_all, run_body, taken, taken_anew, run_clauses, is_true, test_holds, guard_holds, optional, funs_in_optional, run_try, run_qualifiers, passing, passing_truth, run_filter, names_of, field_parts, new_record, changed_record, field_of, run_operator, as_number, run_call, plain, literal, tail_part, Beside, run_layer, matched, run_item_layer, generated, run_qualifier_layer, run_assoc_layer, run_clause_layer, match_caught, run_catch_layer, run_kind, choice_kind}
use Rattle.erl_runs.proofs.MatchLaws.{shadowed-none}

-- the layers of trees
abbrev pub Trees : ((A B C D F G : Type 0) → Type 0) → Type 0
Trees layer = layer ExprKind ItemKind QualifierKind AssocKind CatchKind ClauseKind

module _ (unbound : Outcome Value) (records : List RecDefKind) (arity : Value → ℕ) (apply : Applies) where
  -- ---- what a node does

  unfoldable pub item_kind : ItemKind → Part (Value × Environment)
  item_kind i = para-ItemKind Does (Part (Value × Environment)) (Part (List Environment)) (Part Association) Choice Choice (run_layer unbound records arity apply) (run_item_layer unbound records arity apply) (run_qualifier_layer unbound records arity apply) (run_assoc_layer unbound records arity apply) (run_catch_layer unbound records arity apply) (run_clause_layer unbound records arity apply) i

  unfoldable pub qualifier_kind : QualifierKind → Part (List Environment)
  qualifier_kind q = para-QualifierKind Does (Part (Value × Environment)) (Part (List Environment)) (Part Association) Choice Choice (run_layer unbound records arity apply) (run_item_layer unbound records arity apply) (run_qualifier_layer unbound records arity apply) (run_assoc_layer unbound records arity apply) (run_catch_layer unbound records arity apply) (run_clause_layer unbound records arity apply) q

  unfoldable pub assoc_kind : AssocKind → Part Association
  assoc_kind a = para-AssocKind Does (Part (Value × Environment)) (Part (List Environment)) (Part Association) Choice Choice (run_layer unbound records arity apply) (run_item_layer unbound records arity apply) (run_qualifier_layer unbound records arity apply) (run_assoc_layer unbound records arity apply) (run_catch_layer unbound records arity apply) (run_clause_layer unbound records arity apply) a

  unfoldable pub caught_kind : CatchKind → Choice
  caught_kind c = para-CatchKind Does (Part (Value × Environment)) (Part (List Environment)) (Part Association) Choice Choice (run_layer unbound records arity apply) (run_item_layer unbound records arity apply) (run_qualifier_layer unbound records arity apply) (run_assoc_layer unbound records arity apply) (run_catch_layer unbound records arity apply) (run_clause_layer unbound records arity apply) c

  -- an expression as a part: it stands before the fun expressions inside it, where it is one
  abbrev pub expr_part : Node ExprKind → Part Value
  expr_part e = record { funs = with_itself (is_fun_layer (out-ExprKind e.kind)) e (run_kind unbound records arity apply e.kind).inner; run = (run_kind unbound records arity apply e.kind).run }

  abbrev pub item_part : Node ItemKind → Part (Value × Environment)
  item_part i = item_kind i.kind

  abbrev pub qualifier_part : Node QualifierKind → Part (List Environment)
  qualifier_part q = qualifier_kind q.kind

  abbrev pub assoc_part : Node AssocKind → Part Association
  assoc_part a = assoc_kind a.kind

  abbrev pub caught_of : Node CatchKind → Choice
  caught_of c = caught_kind c.kind

  abbrev pub choice_of : Node ClauseKind → Choice
  choice_of c = choice_kind unbound records arity apply c.kind

  abbrev pub field_part : Node (Name × Node ExprKind) → Part Value
  field_part f = expr_part f.kind.1

  abbrev pub tail_of : Option (Node ExprKind) → Part Value
  tail_of None = record { funs = []; run = λ number environment steps. gives nil steps }
  tail_of (Some t) = expr_part t

  abbrev pub items_of : Option (List (Node ItemKind)) → Option (List (Part (Value × Environment)))
  items_of None = None
  items_of (Some is) = Some (map item_part is)

  -- a test of a guard, and a guard
  abbrev pub is_test_true : Environment → Node ExprKind → Bool
  is_test_true environment e = is_true ((run_kind unbound records arity apply e.kind).run 0 environment 0).outcome

  abbrev pub is_guard_true : Option (Node (List (List (Node ExprKind)))) → Environment → Bool
  is_guard_true None environment = true
  is_guard_true (Some g) environment = list_any (λ tests. list_all (is_test_true environment) tests) g.kind

  -- ---- layers, each part beside its tree

  abbrev pub with_expr : ExprKind → ExprKind × Does
  with_expr e = (e, run_kind unbound records arity apply e)

  abbrev pub with_item : ItemKind → ItemKind × Part (Value × Environment)
  with_item i = (i, item_kind i)

  abbrev pub with_qualifier : QualifierKind → QualifierKind × Part (List Environment)
  with_qualifier q = (q, qualifier_kind q)

  abbrev pub with_assoc : AssocKind → AssocKind × Part Association
  with_assoc a = (a, assoc_kind a)

  abbrev pub with_caught : CatchKind → CatchKind × Choice
  with_caught c = (c, caught_kind c)

  abbrev pub with_choice : ClauseKind → ClauseKind × Choice
  with_choice c = (c, choice_kind unbound records arity apply c)

  abbrev pub expr_layer : Trees E.ExprKind-F → Beside E.ExprKind-F
  expr_layer x = map-ExprKind ExprKind ItemKind QualifierKind AssocKind CatchKind ClauseKind (ExprKind × Does) (ItemKind × Part (Value × Environment)) (QualifierKind × Part (List Environment)) (AssocKind × Part Association) (CatchKind × Choice) (ClauseKind × Choice) with_expr with_item with_qualifier with_assoc with_caught with_choice x

  abbrev pub item_layer : Trees E.ItemKind-F → Beside E.ItemKind-F
  item_layer x = map-ItemKind ExprKind ItemKind QualifierKind AssocKind CatchKind ClauseKind (ExprKind × Does) (ItemKind × Part (Value × Environment)) (QualifierKind × Part (List Environment)) (AssocKind × Part Association) (CatchKind × Choice) (ClauseKind × Choice) with_expr with_item with_qualifier with_assoc with_caught with_choice x

  abbrev pub qualifier_layer : Trees E.QualifierKind-F → Beside E.QualifierKind-F
  qualifier_layer x = map-QualifierKind ExprKind ItemKind QualifierKind AssocKind CatchKind ClauseKind (ExprKind × Does) (ItemKind × Part (Value × Environment)) (QualifierKind × Part (List Environment)) (AssocKind × Part Association) (CatchKind × Choice) (ClauseKind × Choice) with_expr with_item with_qualifier with_assoc with_caught with_choice x

  abbrev pub assoc_layer : Trees E.AssocKind-F → Beside E.AssocKind-F
  assoc_layer x = map-AssocKind ExprKind ItemKind QualifierKind AssocKind CatchKind ClauseKind (ExprKind × Does) (ItemKind × Part (Value × Environment)) (QualifierKind × Part (List Environment)) (AssocKind × Part Association) (CatchKind × Choice) (ClauseKind × Choice) with_expr with_item with_qualifier with_assoc with_caught with_choice x

  abbrev pub caught_layer : Trees E.CatchKind-F → Beside E.CatchKind-F
  caught_layer x = map-CatchKind ExprKind ItemKind QualifierKind AssocKind CatchKind ClauseKind (ExprKind × Does) (ItemKind × Part (Value × Environment)) (QualifierKind × Part (List Environment)) (AssocKind × Part Association) (CatchKind × Choice) (ClauseKind × Choice) with_expr with_item with_qualifier with_assoc with_caught with_choice x

  abbrev pub choice_layer : Trees E.ClauseKind-F → Beside E.ClauseKind-F
  choice_layer x = map-ClauseKind ExprKind ItemKind QualifierKind AssocKind CatchKind ClauseKind (ExprKind × Does) (ItemKind × Part (Value × Environment)) (QualifierKind × Part (List Environment)) (AssocKind × Part Association) (CatchKind × Choice) (ClauseKind × Choice) with_expr with_item with_qualifier with_assoc with_caught with_choice x

  pub expr-rolls : (x : Trees E.ExprKind-F) → run_kind unbound records arity apply (roll-ExprKind x) ≡ run_layer unbound records arity apply (expr_layer x)
  unfolding run_kind choice_kind item_kind qualifier_kind assoc_kind caught_kind
  expr-rolls x = para-roll-ExprKind Does (Part (Value × Environment)) (Part (List Environment)) (Part Association) Choice Choice (run_layer unbound records arity apply) (run_item_layer unbound records arity apply) (run_qualifier_layer unbound records arity apply) (run_assoc_layer unbound records arity apply) (run_catch_layer unbound records arity apply) (run_clause_layer unbound records arity apply) x

  pub item-rolls : (x : Trees E.ItemKind-F) → item_kind (roll-ItemKind x) ≡ run_item_layer unbound records arity apply (item_layer x)
  unfolding run_kind choice_kind item_kind qualifier_kind assoc_kind caught_kind
  item-rolls x = para-roll-ItemKind Does (Part (Value × Environment)) (Part (List Environment)) (Part Association) Choice Choice (run_layer unbound records arity apply) (run_item_layer unbound records arity apply) (run_qualifier_layer unbound records arity apply) (run_assoc_layer unbound records arity apply) (run_catch_layer unbound records arity apply) (run_clause_layer unbound records arity apply) x

  pub qualifier-rolls : (x : Trees E.QualifierKind-F) → qualifier_kind (roll-QualifierKind x) ≡ run_qualifier_layer unbound records arity apply (qualifier_layer x)
  unfolding run_kind choice_kind item_kind qualifier_kind assoc_kind caught_kind
  qualifier-rolls x = para-roll-QualifierKind Does (Part (Value × Environment)) (Part (List Environment)) (Part Association) Choice Choice (run_layer unbound records arity apply) (run_item_layer unbound records arity apply) (run_qualifier_layer unbound records arity apply) (run_assoc_layer unbound records arity apply) (run_catch_layer unbound records arity apply) (run_clause_layer unbound records arity apply) x

  pub assoc-rolls : (x : Trees E.AssocKind-F) → assoc_kind (roll-AssocKind x) ≡ run_assoc_layer unbound records arity apply (assoc_layer x)
  unfolding run_kind choice_kind item_kind qualifier_kind assoc_kind caught_kind
  assoc-rolls x = para-roll-AssocKind Does (Part (Value × Environment)) (Part (List Environment)) (Part Association) Choice Choice (run_layer unbound records arity apply) (run_item_layer unbound records arity apply) (run_qualifier_layer unbound records arity apply) (run_assoc_layer unbound records arity apply) (run_catch_layer unbound records arity apply) (run_clause_layer unbound records arity apply) x

  pub caught-rolls : (x : Trees E.CatchKind-F) → caught_kind (roll-CatchKind x) ≡ run_catch_layer unbound records arity apply (caught_layer x)
  unfolding run_kind choice_kind item_kind qualifier_kind assoc_kind caught_kind
  caught-rolls x = para-roll-CatchKind Does (Part (Value × Environment)) (Part (List Environment)) (Part Association) Choice Choice (run_layer unbound records arity apply) (run_item_layer unbound records arity apply) (run_qualifier_layer unbound records arity apply) (run_assoc_layer unbound records arity apply) (run_catch_layer unbound records arity apply) (run_clause_layer unbound records arity apply) x

  pub choice-rolls : (x : Trees E.ClauseKind-F) → choice_kind unbound records arity apply (roll-ClauseKind x) ≡ run_clause_layer unbound records arity apply (choice_layer x)
  unfolding run_kind choice_kind item_kind qualifier_kind assoc_kind caught_kind
  choice-rolls x = para-roll-ClauseKind Does (Part (Value × Environment)) (Part (List Environment)) (Part Association) Choice Choice (run_layer unbound records arity apply) (run_item_layer unbound records arity apply) (run_qualifier_layer unbound records arity apply) (run_assoc_layer unbound records arity apply) (run_catch_layer unbound records arity apply) (run_clause_layer unbound records arity apply) x

  -- ---- rows of parts

  parts-are : (es : List (Node ExprKind)) → parts (S.former-ExprKind-Tuple-0.map ExprKind (ExprKind × Does) with_expr es) ≡ map expr_part es
  parts-are [] = refl
  parts-are (e ∷ es) = ap (λ ps. expr_part e ∷ ps) (parts-are es)

  items-are : (is : List (Node ItemKind)) → all_of (S.former-ExprKind-Begin-0.map ItemKind (ItemKind × Part (Value × Environment)) with_item is) ≡ map item_part is
  items-are [] = refl
  items-are (i ∷ is) = ap (λ ps. item_part i ∷ ps) (items-are is)

  qualifiers-are : (qs : List (Node QualifierKind)) → all_of (S.former-ExprKind-Comp-1.map QualifierKind (QualifierKind × Part (List Environment)) with_qualifier qs) ≡ map qualifier_part qs
  qualifiers-are [] = refl
  qualifiers-are (q ∷ qs) = ap (λ ps. qualifier_part q ∷ ps) (qualifiers-are qs)

  assocs-are : (as' : List (Node AssocKind)) → all_of (S.former-ExprKind-MapNew-0.map AssocKind (AssocKind × Part Association) with_assoc as') ≡ map assoc_part as'
  assocs-are [] = refl
  assocs-are (a ∷ as') = ap (λ ps. assoc_part a ∷ ps) (assocs-are as')

  choices-are : (cs : List (Node ClauseKind)) → all_of (S.former-ExprKind-Case-1.map ClauseKind (ClauseKind × Choice) with_choice cs) ≡ map choice_of cs
  choices-are [] = refl
  choices-are (c ∷ cs) = ap (λ ps. choice_of c ∷ ps) (choices-are cs)

  catches-are : (cs : List (Node CatchKind)) → all_of (S.former-ExprKind-Try-2.map CatchKind (CatchKind × Choice) with_caught cs) ≡ map caught_of cs
  catches-are [] = refl
  catches-are (c ∷ cs) = ap (λ ps. caught_of c ∷ ps) (catches-are cs)

  fields-are : (fs : List (Node (Name × Node ExprKind))) → field_parts (S.former-ExprKind-RecNew-2.map ExprKind (ExprKind × Does) with_expr fs) ≡ map field_part fs
  fields-are [] = refl
  fields-are (f ∷ fs) = ap (λ ps. field_part f ∷ ps) (fields-are fs)

  names-are : (fs : List (Node (Name × Node ExprKind))) → names_of (S.former-ExprKind-RecNew-2.map ExprKind (ExprKind × Does) with_expr fs) ≡ names_of fs
  names-are [] = refl
  names-are (f ∷ fs) = ap (λ ns. f.kind.0 ∷ ns) (names-are fs)

  tail-is : (t : Option (Node ExprKind)) → tail_part (S.former-ExprKind-Cells-1.map ExprKind (ExprKind × Does) with_expr t) ≡ tail_of t
  tail-is None = refl
  tail-is (Some t) = refl

  optional-is : (o : Option (List (Node ItemKind))) → optional (S.former-ExprKind-Try-3.map ItemKind (ItemKind × Part (Value × Environment)) with_item o) ≡ items_of o
  optional-is None = refl
  optional-is (Some is) = ap (λ ps. Some ps) (items-are is)

  tests-are : (environment : Environment) (es : List (Node ExprKind)) → list_all (test_holds environment) (S.former-ExprKind-Tuple-0.map ExprKind (ExprKind × Does) with_expr es) ≡ list_all (is_test_true environment) es
  tests-are environment [] = refl
  tests-are environment (e ∷ es) = ap (λ b. is_test_true environment e && b) (tests-are environment es)

  guard-is : (g : Option (Node (List (List (Node ExprKind))))) (environment : Environment) → guard_holds (S.former-ClauseKind-guard.map ExprKind (ExprKind × Does) with_expr g) environment ≡ is_guard_true g environment
  guard-is None environment = refl
  guard-is (Some g) environment = alternatives-are g.kind
    where
      alternatives-are : (gs : List (List (Node ExprKind))) → list_any (λ tests. list_all (test_holds environment) tests) (S.former-ClauseKind-guard-at-8.map ExprKind (ExprKind × Does) with_expr gs) ≡ list_any (λ tests. list_all (is_test_true environment) tests) gs
      alternatives-are [] = refl
      alternatives-are (tests ∷ gs) = λ j. tests-are environment tests j || alternatives-are gs j

  -- ---- expressions

  pub run_kind-Atom : (a : Name) → run_kind unbound records arity apply (X.Atom a) ≡ literal (V.atom a)
  run_kind-Atom a = ap (λ k. run_kind unbound records arity apply k) (sym (X.rolls-Atom a)) ∙ expr-rolls (E.Atom a)

  pub run_kind-Int : (n : ℤ) → run_kind unbound records arity apply (X.Int n) ≡ literal (integer n)
  run_kind-Int n = ap (λ k. run_kind unbound records arity apply k) (sym (X.rolls-Int n)) ∙ expr-rolls (E.Int n)

  pub run_kind-Char : (c : ℕ) → run_kind unbound records arity apply (X.Char c) ≡ literal (integer (pos c))
  run_kind-Char c = ap (λ k. run_kind unbound records arity apply k) (sym (X.rolls-Char c)) ∙ expr-rolls (E.Char c)

  pub run_kind-Str : (s : List ℕ) → run_kind unbound records arity apply (X.Str s) ≡ literal (string_value s)
  run_kind-Str s = ap (λ k. run_kind unbound records arity apply k) (sym (X.rolls-Str s)) ∙ expr-rolls (E.Str s)

  pub run_kind-Var : (x : Name) → run_kind unbound records arity apply (X.Var x) ≡ plain [] (λ number environment steps. ends (meaning unbound (variable_value environment x)) steps)
  run_kind-Var x = ap (λ k. run_kind unbound records arity apply k) (sym (X.rolls-Var x)) ∙ expr-rolls (E.Var x)

  pub run_kind-Paren : (e : Node ExprKind) → run_kind unbound records arity apply (X.Paren e) ≡ plain (expr_part e).funs (expr_part e).run
  run_kind-Paren e = ap (λ k. run_kind unbound records arity apply k) (sym (X.rolls-Paren e)) ∙ expr-rolls (E.Paren e)

  pub run_kind-Tuple : (es : List (Node ExprKind)) → run_kind unbound records arity apply (X.Tuple es) ≡ plain (funs_in (map expr_part es)) (λ number environment steps. then (run_all (map expr_part es) number environment steps) (λ vs left. gives (tuple (values_of vs)) left))
  run_kind-Tuple es = (ap (λ k. run_kind unbound records arity apply k) (sym (X.rolls-Tuple es)) ∙ expr-rolls (E.Tuple es)) ∙ (λ j. plain (funs_in (parts-are es j)) (λ number environment steps. then (run_all (parts-are es j) number environment steps) (λ vs left. gives (tuple (values_of vs)) left)))

  pub run_kind-Cells : (es : List (Node ExprKind)) (t : Option (Node ExprKind)) → run_kind unbound records arity apply (X.Cells es t) ≡ plain (funs_in (map expr_part es) ++ (tail_of t).funs) (λ number environment steps. then (run_all (map expr_part es) number environment steps) (λ vs left. then ((tail_of t).run (behind number (funs_in (map expr_part es))) environment left) (λ v rest. gives (list_with vs v) rest)))
  run_kind-Cells es t = (ap (λ k. run_kind unbound records arity apply k) (sym (X.rolls-Cells es t)) ∙ expr-rolls (E.Cells es t)) ∙ (λ j. plain (funs_in (parts-are es j) ++ ((tail-is t j)).funs) (λ number environment steps. then (run_all (parts-are es j) number environment steps) (λ vs left. then (((tail-is t j)).run (behind number (funs_in (parts-are es j))) environment left) (λ v rest. gives (list_with vs v) rest))))

  pub run_kind-Comp : (e : Node ExprKind) (qs : List (Node QualifierKind)) → run_kind unbound records arity apply (X.Comp e qs) ≡ plain ((expr_part e).funs ++ funs_in (map qualifier_part qs)) (λ number environment steps. then (run_qualifiers (map qualifier_part qs) ((expr_part e).run number) (behind number (expr_part e).funs) environment steps) (λ vs left. gives (list_with vs nil) left))
  run_kind-Comp e qs = (ap (λ k. run_kind unbound records arity apply k) (sym (X.rolls-Comp e qs)) ∙ expr-rolls (E.Comp e qs)) ∙ (λ j. plain ((expr_part e).funs ++ funs_in (qualifiers-are qs j)) (λ number environment steps. then (run_qualifiers (qualifiers-are qs j) ((expr_part e).run number) (behind number (expr_part e).funs) environment steps) (λ vs left. gives (list_with vs nil) left)))

  pub run_kind-Unary : (op : UnaryOp) (e : Node ExprKind) → run_kind unbound records arity apply (X.Unary op e) ≡ plain (expr_part e).funs (λ number environment steps. then ((expr_part e).run number environment steps) (λ v left. ends (operate_one op v) left))
  run_kind-Unary op e = ap (λ k. run_kind unbound records arity apply k) (sym (X.rolls-Unary op e)) ∙ expr-rolls (E.Unary op e)

  pub run_kind-Binary : (op : BinaryOp) (a b : Node ExprKind) → run_kind unbound records arity apply (X.Binary op a b) ≡ plain ((expr_part a).funs ++ (expr_part b).funs) (λ number environment steps. then ((expr_part a).run number environment steps) (λ v left. run_operator op v (λ rest. (expr_part b).run (behind number (expr_part a).funs) environment rest) left))
  run_kind-Binary op a b = ap (λ k. run_kind unbound records arity apply k) (sym (X.rolls-Binary op a b)) ∙ expr-rolls (E.Binary op a b)

  pub run_kind-Call : (prefix : Option Name) (name : Name) (args : List (Node ExprKind)) → run_kind unbound records arity apply (X.Call prefix name args) ≡ plain (funs_in (map expr_part args)) (λ number environment steps. then (run_all (map expr_part args) number environment steps) (λ vs left. run_call unbound prefix (built_in arity name vs) (λ rest. apply (named_fun name (length vs)) vs rest) left))
  run_kind-Call prefix name args = (ap (λ k. run_kind unbound records arity apply k) (sym (X.rolls-Call prefix name args)) ∙ expr-rolls (E.Call prefix name args)) ∙ (λ j. plain (funs_in (parts-are args j)) (λ number environment steps. then (run_all (parts-are args j) number environment steps) (λ vs left. run_call unbound prefix (built_in arity name vs) (λ rest. apply (named_fun name (length vs)) vs rest) left)))

  pub run_kind-Apply : (f : Node ExprKind) (args : List (Node ExprKind)) → run_kind unbound records arity apply (X.Apply f args) ≡ plain ((expr_part f).funs ++ funs_in (map expr_part args)) (λ number environment steps. then ((expr_part f).run number environment steps) (λ v left. then (run_all (map expr_part args) (behind number (expr_part f).funs) environment left) (λ vs rest. apply v vs rest)))
  run_kind-Apply f args = (ap (λ k. run_kind unbound records arity apply k) (sym (X.rolls-Apply f args)) ∙ expr-rolls (E.Apply f args)) ∙ (λ j. plain ((expr_part f).funs ++ funs_in (parts-are args j)) (λ number environment steps. then ((expr_part f).run number environment steps) (λ v left. then (run_all (parts-are args j) (behind number (expr_part f).funs) environment left) (λ vs rest. apply v vs rest))))

  pub run_kind-MapNew : (assocs : List (Node AssocKind)) → run_kind unbound records arity apply (X.MapNew assocs) ≡ plain (funs_in (map assoc_part assocs)) (λ number environment steps. then (run_all (map assoc_part assocs) number environment steps) (λ changes left. ends (change_map (map_of no_entries) changes) left))
  run_kind-MapNew assocs = (ap (λ k. run_kind unbound records arity apply k) (sym (X.rolls-MapNew assocs)) ∙ expr-rolls (E.MapNew assocs)) ∙ (λ j. plain (funs_in (assocs-are assocs j)) (λ number environment steps. then (run_all (assocs-are assocs j) number environment steps) (λ changes left. ends (change_map (map_of no_entries) changes) left)))

  pub run_kind-MapChange : (e : Node ExprKind) (assocs : List (Node AssocKind)) → run_kind unbound records arity apply (X.MapChange e assocs) ≡ plain ((expr_part e).funs ++ funs_in (map assoc_part assocs)) (λ number environment steps. then ((expr_part e).run number environment steps) (λ v left. then (run_all (map assoc_part assocs) (behind number (expr_part e).funs) environment left) (λ changes rest. ends (change_map v changes) rest)))
  run_kind-MapChange e assocs = (ap (λ k. run_kind unbound records arity apply k) (sym (X.rolls-MapChange e assocs)) ∙ expr-rolls (E.MapChange e assocs)) ∙ (λ j. plain ((expr_part e).funs ++ funs_in (assocs-are assocs j)) (λ number environment steps. then ((expr_part e).run number environment steps) (λ v left. then (run_all (assocs-are assocs j) (behind number (expr_part e).funs) environment left) (λ changes rest. ends (change_map v changes) rest))))

  pub run_kind-RecNew : (name tag : Name) (fs : List (Node (Name × Node ExprKind))) → run_kind unbound records arity apply (X.RecNew name tag fs) ≡ plain (funs_in (map field_part fs)) (λ number environment steps. then (run_all (map field_part fs) number environment steps) (λ vs left. gives_found (new_record (find_record records name) tag (names_of fs) vs) left))
  run_kind-RecNew name tag fs = (ap (λ k. run_kind unbound records arity apply k) (sym (X.rolls-RecNew name tag fs)) ∙ expr-rolls (E.RecNew name tag fs)) ∙ (λ j. plain (funs_in (fields-are fs j)) (λ number environment steps. then (run_all (fields-are fs j) number environment steps) (λ vs left. gives_found (new_record (find_record records name) tag (names-are fs j) vs) left)))

  pub run_kind-RecChange : (e : Node ExprKind) (name tag : Name) (fs : List (Node (Name × Node ExprKind))) → run_kind unbound records arity apply (X.RecChange e name tag fs) ≡ plain ((expr_part e).funs ++ funs_in (map field_part fs)) (λ number environment steps. then ((expr_part e).run number environment steps) (λ v left. then (run_all (map field_part fs) (behind number (expr_part e).funs) environment left) (λ vs rest. gives_found (changed_record (find_record records name) tag v (names_of fs) vs) rest)))
  run_kind-RecChange e name tag fs = (ap (λ k. run_kind unbound records arity apply k) (sym (X.rolls-RecChange e name tag fs)) ∙ expr-rolls (E.RecChange e name tag fs)) ∙ (λ j. plain ((expr_part e).funs ++ funs_in (fields-are fs j)) (λ number environment steps. then ((expr_part e).run number environment steps) (λ v left. then (run_all (fields-are fs j) (behind number (expr_part e).funs) environment left) (λ vs rest. gives_found (changed_record (find_record records name) tag v (names-are fs j) vs) rest))))

  pub run_kind-RecGet : (e : Node ExprKind) (name tag field : Name) → run_kind unbound records arity apply (X.RecGet e name tag field) ≡ plain (expr_part e).funs (λ number environment steps. then ((expr_part e).run number environment steps) (λ v left. gives_found (field_of (find_record records name) tag v field) left))
  run_kind-RecGet e name tag field = ap (λ k. run_kind unbound records arity apply k) (sym (X.rolls-RecGet e name tag field)) ∙ expr-rolls (E.RecGet e name tag field)

  pub run_kind-Begin : (is : List (Node ItemKind)) → run_kind unbound records arity apply (X.Begin is) ≡ plain (funs_in (map item_part is)) (run_body (map item_part is))
  run_kind-Begin is = (ap (λ k. run_kind unbound records arity apply k) (sym (X.rolls-Begin is)) ∙ expr-rolls (E.Begin is)) ∙ (λ j. plain (funs_in (items-are is j)) (run_body (items-are is j)))

  pub run_kind-Case : (e : Node ExprKind) (cs : List (Node ClauseKind)) → run_kind unbound records arity apply (X.Case e cs) ≡ plain ((expr_part e).funs ++ funs_in_choices (map choice_of cs)) (λ number environment steps. then ((expr_part e).run number environment steps) (λ v left. run_clauses taken (map choice_of cs) (behind number (expr_part e).funs) environment (v ∷ []) left))
  run_kind-Case e cs = (ap (λ k. run_kind unbound records arity apply k) (sym (X.rolls-Case e cs)) ∙ expr-rolls (E.Case e cs)) ∙ (λ j. plain ((expr_part e).funs ++ funs_in_choices (choices-are cs j)) (λ number environment steps. then ((expr_part e).run number environment steps) (λ v left. run_clauses taken (choices-are cs j) (behind number (expr_part e).funs) environment (v ∷ []) left)))

  pub run_kind-If : (cs : List (Node ClauseKind)) → run_kind unbound records arity apply (X.If cs) ≡ plain (funs_in_choices (map choice_of cs)) (λ number environment steps. run_clauses taken (map choice_of cs) number environment [] steps)
  run_kind-If cs = (ap (λ k. run_kind unbound records arity apply k) (sym (X.rolls-If cs)) ∙ expr-rolls (E.If cs)) ∙ (λ j. plain (funs_in_choices (choices-are cs j)) (λ number environment steps. run_clauses taken (choices-are cs j) number environment [] steps))

  pub run_kind-FunName : (name : Name) (n : ℤ) → run_kind unbound records arity apply (X.FunName name n) ≡ literal (named_fun name (as_number n))
  run_kind-FunName name n = ap (λ k. run_kind unbound records arity apply k) (sym (X.rolls-FunName name n)) ∙ expr-rolls (E.FunName name n)

  pub run_kind-Fun : (cs : List (Node ClauseKind)) → run_kind unbound records arity apply (X.Fun cs) ≡ record { inner = funs_in_choices (map choice_of cs); run = λ number environment steps. gives (closure number environment) steps; enter = λ number environment vs steps. run_clauses taken_anew (map choice_of cs) number environment vs steps }
  run_kind-Fun cs = (ap (λ k. run_kind unbound records arity apply k) (sym (X.rolls-Fun cs)) ∙ expr-rolls (E.Fun cs)) ∙ (λ j. record { inner = funs_in_choices (choices-are cs j); run = λ number environment steps. gives (closure number environment) steps; enter = λ number environment vs steps. run_clauses taken_anew (choices-are cs j) number environment vs steps })

  pub run_kind-Try : (body : List (Node ItemKind)) (of_clauses : List (Node ClauseKind)) (catches : List (Node CatchKind)) (after : Option (List (Node ItemKind))) → run_kind unbound records arity apply (X.Try body of_clauses catches after) ≡ plain (funs_in (map item_part body) ++ (funs_in_choices (map choice_of of_clauses) ++ (funs_in_choices (map caught_of catches) ++ funs_in_optional (items_of after)))) (run_try (map item_part body) (map choice_of of_clauses) (map caught_of catches) (items_of after))
  run_kind-Try body of_clauses catches after = (ap (λ k. run_kind unbound records arity apply k) (sym (X.rolls-Try body of_clauses catches after)) ∙ expr-rolls (E.Try body of_clauses catches after)) ∙ (λ j. plain (funs_in (items-are body j) ++ (funs_in_choices (choices-are of_clauses j) ++ (funs_in_choices (catches-are catches j) ++ funs_in_optional (optional-is after j)))) (run_try (items-are body j) (choices-are of_clauses j) (catches-are catches j) (optional-is after j)))

  -- ---- elements of bodies, qualifiers, associations

  pub item_kind-Value : (e : Node ExprKind) → item_kind (I.Value e) ≡ record { funs = (expr_part e).funs; run = λ number environment steps. then ((expr_part e).run number environment steps) (λ v left. gives (v, environment) left) }
  item_kind-Value e = ap (λ k. item_kind k) (sym (I.rolls-Value e)) ∙ item-rolls (E.Value e)

  pub item_kind-Match : (p : Node PatternKind) (e : Node ExprKind) → item_kind (I.Match p e) ≡ record { funs = (expr_part e).funs; run = λ number environment steps. then ((expr_part e).run number environment steps) (λ v left. matched unbound records arity apply (match_pattern records p v environment) v left) }
  item_kind-Match p e = ap (λ k. item_kind k) (sym (I.rolls-Match p e)) ∙ item-rolls (E.Match p e)

  pub qualifier_kind-Generator : (p : Node PatternKind) (e : Node ExprKind) → qualifier_kind (Q.Generator p e) ≡ record { funs = (expr_part e).funs; run = λ number environment steps. then ((expr_part e).run number environment steps) (λ v left. generated unbound records arity apply p (elements_of v) environment left) }
  qualifier_kind-Generator p e = ap (λ k. qualifier_kind k) (sym (Q.rolls-Generator p e)) ∙ qualifier-rolls (E.Generator p e)

  -- a filter that is a guard expression, and one that isn't
  abbrev pub filtered : Bool → Node ExprKind → ℕ → Environment → ℕ → Run (List Environment)
  filtered true e number environment steps = gives (passing (is_test_true environment e) environment) steps
  filtered false e number environment steps = then ((expr_part e).run number environment steps) (λ v left. passing_truth (truth_of v) environment left)

  filter-is : (b : Bool) (e : Node ExprKind) → run_filter b (record { place = e.place; marks = e.marks; kind = with_expr e.kind }) ≡ filtered b e
  filter-is true e = refl
  filter-is false e = refl

  pub qualifier_kind-Filter : (e : Node ExprKind) → qualifier_kind (Q.Filter e) ≡ record { funs = (expr_part e).funs; run = filtered (is_none (misfit e)) e }
  qualifier_kind-Filter e = (ap (λ k. qualifier_kind k) (sym (Q.rolls-Filter e)) ∙ qualifier-rolls (E.Filter e)) ∙ (λ j. record { funs = (expr_part e).funs; run = filter-is (is_none (misfit e)) e j })

  pub assoc_kind-is : (a : AssocKind) → assoc_kind a ≡ record { funs = (expr_part (out-AssocKind a).key).funs ++ (expr_part (out-AssocKind a).value).funs; run = λ number environment steps. then ((expr_part (out-AssocKind a).key).run number environment steps) (λ k left. then ((expr_part (out-AssocKind a).value).run (behind number (expr_part (out-AssocKind a).key).funs) environment left) (λ v rest. gives (record { exact = (out-AssocKind a).exact; key = k; value = v }) rest)) }
  assoc_kind-is a = ap (λ k. assoc_kind k) (sym (roll-out-AssocKind a)) ∙ assoc-rolls (out-AssocKind a)

  -- ---- clauses

  -- a clause, from what it holds
  abbrev pub clause_choice : Trees E.ClauseKind-F → Choice
  clause_choice l = record { funs = funs_in (map item_part l.body); matches = match_patterns records l.patterns; allows = is_guard_true l.guard; run = run_body (map item_part l.body) }

  pub choice_kind-roll : (l : Trees E.ClauseKind-F) → choice_kind unbound records arity apply (roll-ClauseKind l) ≡ clause_choice l
  choice_kind-roll l = choice-rolls l ∙ (λ j. record { funs = funs_in (items-are l.body j); matches = match_patterns records l.patterns; allows = λ environment. guard-is l.guard environment j; run = run_body (items-are l.body j) })

  pub choice_kind-is : (c : ClauseKind) → choice_kind unbound records arity apply c ≡ clause_choice (out-ClauseKind c)
  choice_kind-is c = ap (λ k. choice_kind unbound records arity apply k) (sym (roll-out-ClauseKind c)) ∙ choice_kind-roll (out-ClauseKind c)

  pub caught_kind-is : (c : CatchKind) → caught_kind c ≡ record { funs = (choice_of (out-CatchKind c).clause).funs; matches = match_caught unbound records arity apply (out-CatchKind c).class (choice_of (out-CatchKind c).clause); allows = (choice_of (out-CatchKind c).clause).allows; run = (choice_of (out-CatchKind c).clause).run }
  caught_kind-is c = ap (λ k. caught_kind k) (sym (roll-out-CatchKind c)) ∙ caught-rolls (out-CatchKind c)

  -- ---- runs of the simplest forms

  pub runs-Atom : (a : Name) (number : ℕ) (environment : Environment) (steps : ℕ) → (run_kind unbound records arity apply (X.Atom a)).run number environment steps ≡ gives (V.atom a) steps
  runs-Atom a number environment steps = ap (λ (d : Does). d.run number environment steps) (run_kind-Atom a)

  pub runs-Int : (n : ℤ) (number : ℕ) (environment : Environment) (steps : ℕ) → (run_kind unbound records arity apply (X.Int n)).run number environment steps ≡ gives (integer n) steps
  runs-Int n number environment steps = ap (λ (d : Does). d.run number environment steps) (run_kind-Int n)

  pub runs-Var : (x : Name) (number : ℕ) (environment : Environment) (steps : ℕ) → (run_kind unbound records arity apply (X.Var x)).run number environment steps ≡ ends (meaning unbound (variable_value environment x)) steps
  runs-Var x number environment steps = ap (λ (d : Does). d.run number environment steps) (run_kind-Var x)

  pub runs-Paren : (e : Node ExprKind) (number : ℕ) (environment : Environment) (steps : ℕ) → (run_kind unbound records arity apply (X.Paren e)).run number environment steps ≡ (expr_part e).run number environment steps
  runs-Paren e number environment steps = ap (λ (d : Does). d.run number environment steps) (run_kind-Paren e)

  -- for each operator but `andalso` and `orelse` the right side computes further, to the run of the operand on the right, and then `operate`
  pub runs-Binary : (op : BinaryOp) (a b : Node ExprKind) (number : ℕ) (environment : Environment) (steps : ℕ) → (run_kind unbound records arity apply (X.Binary op a b)).run number environment steps ≡ then ((expr_part a).run number environment steps) (λ v left. run_operator op v (λ rest. (expr_part b).run (behind number (expr_part a).funs) environment rest) left)
  runs-Binary op a b number environment steps = ap (λ (d : Does). d.run number environment steps) (run_kind-Binary op a b)

  pub runs-Call : (prefix : Option Name) (name : Name) (args : List (Node ExprKind)) (number : ℕ) (environment : Environment) (steps : ℕ) → (run_kind unbound records arity apply (X.Call prefix name args)).run number environment steps ≡ then (run_all (map expr_part args) number environment steps) (λ vs left. run_call unbound prefix (built_in arity name vs) (λ rest. apply (named_fun name (length vs)) vs rest) left)
  runs-Call prefix name args number environment steps = ap (λ (d : Does). d.run number environment steps) (run_kind-Call prefix name args)

  -- what gives a value and is run for it alone, is run
  value-alone : (r : Run Value) (environment : Environment) → then {A = Value × Environment} (then r (λ v left. gives (v, environment) left)) (λ x left. gives x.0 left) ≡ r
  unfolding then
  value-alone r environment = each r.outcome
    where
      calls-alone : ((r.calls ++ []) ++ []) ≡ r.calls
      calls-alone = append-nil (r.calls ++ []) ∙ append-nil r.calls

      each : (o : Outcome Value) → then {A = Value × Environment} (then (record { outcome = o; left = r.left; calls = r.calls }) (λ v left. gives (v, environment) left)) (λ x left. gives x.0 left) ≡ record { outcome = o; left = r.left; calls = r.calls }
      each (came v) = λ j. record { outcome = came v; left = r.left; calls = calls-alone j }
      each (raised class v) = λ j. record { outcome = raised class v; left = r.left; calls = calls-alone j }
      each wrong = λ j. record { outcome = wrong; left = r.left; calls = calls-alone j }
      each going = λ j. record { outcome = going; left = r.left; calls = calls-alone j }

  -- a body of one expression
  pub one_value-runs : (i : Node ItemKind) (e : Node ExprKind) → i.kind ≡ I.Value e → (number : ℕ) (environment : Environment) (steps : ℕ) → run_body (map item_part (i ∷ [])) number environment steps ≡ (expr_part e).run number environment steps
  one_value-runs i e h number environment steps = ap (λ (p : Part (Value × Environment)). run_body (p ∷ []) number environment steps) (ap (λ k. item_kind k) h ∙ item_kind-Value e) ∙ value-alone ((expr_part e).run number environment steps) environment

  -- what is run where the patterns match; else it goes wrong
  abbrev pub run_bound : Option Environment → (Environment → Run Value) → ℕ → Run Value
  run_bound None next steps = goes_wrong steps
  run_bound (Some environment) next steps = next environment

  one_taken-runs : (i : Node ItemKind) (e : Node ExprKind) → i.kind ≡ I.Value e → (ps : List (Node PatternKind)) (o : Option Environment) (number : ℕ) (steps : ℕ) →
      or_else (run_taken (clause_choice (record { patterns = ps; guard = None; body = i ∷ [] })) (allowed (clause_choice (record { patterns = ps; guard = None; body = i ∷ [] })) (anew o no_bindings)) number steps) (goes_wrong steps)
      ≡ run_bound o (λ environment. (expr_part e).run number environment steps) steps
  one_taken-runs i e h ps None number steps = refl
  one_taken-runs i e h ps (Some own) number steps = one_value-runs i e h number (shadowed_by own no_bindings) steps ∙ ap (λ environment. (expr_part e).run number environment steps) (shadowed-none own)

  -- a function or a fun of one clause without a guard, whose body is an expression
  pub one_clause-runs : (c : ClauseKind) (ps : List (Node PatternKind)) (i : Node ItemKind) (e : Node ExprKind) → out-ClauseKind c ≡ record { patterns = ps; guard = None; body = i ∷ [] } → i.kind ≡ I.Value e →
      (number : ℕ) (args : List Value) (steps : ℕ) → run_clauses taken_anew (choice_kind unbound records arity apply c ∷ []) number no_bindings args steps ≡ run_bound (match_patterns records ps args no_bindings) (λ environment. (expr_part e).run number environment steps) steps
  one_clause-runs c ps i e h k number args steps =
      ap (λ (d : Choice). run_clauses taken_anew (d ∷ []) number no_bindings args steps) (choice_kind-is c ∙ ap (λ l. clause_choice l) h)
      ∙ one_taken-runs i e k ps (match_patterns records ps args no_bindings) number steps
