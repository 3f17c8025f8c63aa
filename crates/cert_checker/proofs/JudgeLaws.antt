-- The equations of what is said of expressions: one for each form of a flat module.
use Rattle.std.proofs.Common.{◌≡◌, refl, ap, sym, ◌∙◌, ℕ, ℤ, List, [], ◌∷◌, ◌++◌, length}
use Rattle.std.specs.Prelude.{Option, Some, None}
use Rattle.type_terms.specs.Keys.{Name}
use Rattle.type_terms.specs.declared.term.Term.{AtomLit}
use Rattle.type_terms.specs.declared.spec.FunSpec.{FunSpec}
use Rattle.erl_tree.specs.declared.token.Place.{Place}
use Rattle.erl_tree.specs.declared.token.Node.{Node}
use Rattle.erl_tree.specs.declared.expr.BinaryOp.{BinaryOp}
use Rattle.erl_tree.specs.declared.expr.ExprKind.{ExprKind, fold-ExprKind, fold-roll-ExprKind}
use Rattle.erl_tree.specs.declared.expr.ExprKind.TheVariants as X
use Rattle.erl_tree.specs.declared.expr.ExprKind.TheOpen as E
use Rattle.erl_tree.specs.declared.expr.ExprKind.TheShapes as S
use Rattle.erl_runs.specs.Specs.{and_then, one_integer}
use Rattle.erl_runs.specs.Membership.{arrows_of}
use Rattle.cert_checker.specs.Constraints.{Test, Context, JudgedAll, Judges, of_type, is_arithmetic, judge_all, operation, call, judge_layer, judge_kind, judge}

module _ (fits : Test) (function : ℕ) (specs : List FunSpec) where
  -- expressions in turn, from left to right
  abbrev pub judge_args : List (Node ExprKind) → Context → Option JudgedAll
  judge_args [] context = Some (record { types = []; owed = [] })
  judge_args (e ∷ es) context = and_then (judge fits function specs e context) (λ j. and_then (judge_args es context) (λ js. Some (record { types = j.type ∷ js.types; owed = j.owed ++ js.owed })))

  judge_each : (es : List (Node ExprKind)) → judge_all (S.former-ExprKind-Tuple-0.map ExprKind Judges (fold-ExprKind Judges (Unit {0}) (Unit {0}) (Unit {0}) (Unit {0}) (Unit {0}) (judge_layer fits function specs) (λ i. tt) (λ q. tt) (λ a. tt) (λ c. tt) (λ c. tt)) es) ≡ judge_args es
  unfolding judge_kind
  judge_each [] = refl
  judge_each (e ∷ es) = ap (λ (r : Context → Option JudgedAll). λ context. and_then (judge fits function specs e context) (λ j. and_then (r context) (λ js. Some (record { types = j.type ∷ js.types; owed = j.owed ++ js.owed })))) (judge_each es)

  pub judge_kind-Int : (n : ℤ) (place : Place) (context : Context) → judge_kind fits function specs (X.Int n) place context ≡ of_type (one_integer n)
  unfolding judge_kind
  judge_kind-Int n place context = ap (λ k. judge_kind fits function specs k place context) (sym (X.rolls-Int n)) ∙ ap (λ (f : Judges). f place context) (fold-roll-ExprKind Judges (Unit {0}) (Unit {0}) (Unit {0}) (Unit {0}) (Unit {0}) (judge_layer fits function specs) (λ i. tt) (λ q. tt) (λ a. tt) (λ c. tt) (λ c. tt) (E.Int n))

  pub judge_kind-Atom : (a : Name) (place : Place) (context : Context) → judge_kind fits function specs (X.Atom a) place context ≡ of_type (AtomLit a)
  unfolding judge_kind
  judge_kind-Atom a place context = ap (λ k. judge_kind fits function specs k place context) (sym (X.rolls-Atom a)) ∙ ap (λ (f : Judges). f place context) (fold-roll-ExprKind Judges (Unit {0}) (Unit {0}) (Unit {0}) (Unit {0}) (Unit {0}) (judge_layer fits function specs) (λ i. tt) (λ q. tt) (λ a. tt) (λ c. tt) (λ c. tt) (E.Atom a))

  pub judge_kind-Var : (x : Name) (place : Place) (context : Context) → judge_kind fits function specs (X.Var x) place context ≡ and_then (context x) of_type
  unfolding judge_kind
  judge_kind-Var x place context = ap (λ k. judge_kind fits function specs k place context) (sym (X.rolls-Var x)) ∙ ap (λ (f : Judges). f place context) (fold-roll-ExprKind Judges (Unit {0}) (Unit {0}) (Unit {0}) (Unit {0}) (Unit {0}) (judge_layer fits function specs) (λ i. tt) (λ q. tt) (λ a. tt) (λ c. tt) (λ c. tt) (E.Var x))

  pub judge_kind-Paren : (e : Node ExprKind) (place : Place) (context : Context) → judge_kind fits function specs (X.Paren e) place context ≡ judge fits function specs e context
  unfolding judge_kind
  judge_kind-Paren e place context = ap (λ k. judge_kind fits function specs k place context) (sym (X.rolls-Paren e)) ∙ ap (λ (f : Judges). f place context) (fold-roll-ExprKind Judges (Unit {0}) (Unit {0}) (Unit {0}) (Unit {0}) (Unit {0}) (judge_layer fits function specs) (λ i. tt) (λ q. tt) (λ a. tt) (λ c. tt) (λ c. tt) (E.Paren e))

  pub judge_kind-Binary : (op : BinaryOp) (a b : Node ExprKind) (place : Place) (context : Context) → judge_kind fits function specs (X.Binary op a b) place context ≡ and_then (judge fits function specs a context) (λ j. and_then (judge fits function specs b context) (λ k. operation fits function specs (is_arithmetic op) a.place j b.place k))
  unfolding judge_kind
  judge_kind-Binary op a b place context = ap (λ k. judge_kind fits function specs k place context) (sym (X.rolls-Binary op a b)) ∙ ap (λ (f : Judges). f place context) (fold-roll-ExprKind Judges (Unit {0}) (Unit {0}) (Unit {0}) (Unit {0}) (Unit {0}) (judge_layer fits function specs) (λ i. tt) (λ q. tt) (λ a. tt) (λ c. tt) (λ c. tt) (E.Binary op a b))

  pub judge_kind-Call : (name : Name) (args : List (Node ExprKind)) (place : Place) (context : Context) → judge_kind fits function specs (X.Call None name args) place context ≡ and_then (judge_args args context) (λ js. call fits function specs place (arrows_of specs name (length js.types)) js)
  unfolding judge_kind
  judge_kind-Call name args place context = ap (λ k. judge_kind fits function specs k place context) (sym (X.rolls-Call None name args)) ∙ (ap (λ (f : Judges). f place context) (fold-roll-ExprKind Judges (Unit {0}) (Unit {0}) (Unit {0}) (Unit {0}) (Unit {0}) (judge_layer fits function specs) (λ i. tt) (λ q. tt) (λ a. tt) (λ c. tt) (λ c. tt) (E.Call None name args)) ∙ ap (λ (r : Context → Option JudgedAll). and_then (r context) (λ js. call fits function specs place (arrows_of specs name (length js.types)) js)) (judge_each args))

pub ruleset judge_laws = (judge_kind-Int, judge_kind-Atom, judge_kind-Var, judge_kind-Paren, judge_kind-Binary, judge_kind-Call)
