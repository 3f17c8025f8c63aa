-- Two runs that differ in what an unbound name gives and in how they apply values, and what holds of the funs that they make: what is known of both before their expressions are looked at.
use Rattle.std.proofs.Common.{◌≡◌, ℕ, ◌≤◌, List, [], ◌∷◌, ◌++◌, true}
use Rattle.type_terms.specs.Keys.{Name}
use Rattle.erl_tree.specs.declared.token.Node.{Node}
use Rattle.erl_tree.specs.declared.expr.ExprKind.{ExprKind}
use Rattle.erl_tree.specs.declared.expr.ItemKind.{ItemKind}
use Rattle.erl_tree.specs.declared.expr.QualifierKind.{QualifierKind}
use Rattle.erl_tree.specs.declared.expr.AssocKind.{AssocKind}
use Rattle.erl_tree.specs.declared.expr.CatchKind.{CatchKind}
use Rattle.erl_tree.specs.declared.expr.ClauseKind.{ClauseKind}
use Rattle.erl_tree.specs.declared.form.RecDefKind.{RecDefKind}
use Rattle.erl_tree.specs.Functions.{FunctionId, of_function}
use Rattle.erl_tree.specs.Lists.{Every}
use Rattle.erl_runs.specs.Value.{Value, Environment, Outcome, wrong, Run}
use Rattle.erl_runs.specs.Operations.{Association}
use Rattle.erl_runs.specs.Running.{Part, Does, Choice, Applies, behind, run_kind}
use Rattle.erl_runs.proofs.RunLaws as R
use Rattle.erl_scope_rules.specs.declared.fault.PlacedFault.{PlacedFault}
use Rattle.erl_scope_rules.specs.Occurrences.{Mark, Occurrence}
use Rattle.erl_scope_rules.specs.Occurrences as O
use Rattle.erl_scope_rules.specs.ScopeFaults.{is_defined, expr_faults}
use Rattle.runs_with_right_names.specs.KnownValues.{HasFuns, RowHasFuns, HasVariables}
use Rattle.runs_with_right_names.proofs.Held.{has, SameRun}

-- what both runs have in common: the functions and the records of a module, what holds of the funs that stand for its functions and of its closures, where its fun expressions stand, and how many steps there are at most; and in what they
-- differ: what an unbound name gives (in the other it is wrong), and what applying a value does
pub record Setting : Type 1 where
  pub functions : List FunctionId
  pub records : List RecDefKind
  pub named : Name → ℕ → Type 0
  pub closed : ℕ → Environment → Type 0
  pub at : ℕ → List (Node ExprKind) → Type 0
  pub at_append : (number : ℕ) (es ds : List (Node ExprKind)) → at number (es ++ ds) → at number es × at (behind number es) ds
  pub closes : (number : ℕ) (environment : Environment) (e : Node ExprKind) (inner : List (Node ExprKind)) → at number (e ∷ inner) → expr_faults functions records e ≡ [] → HasVariables environment (O.expr_part e).occurrences →
      closed number environment
  pub knows : (name : Name) (arity : ℕ) → is_defined functions records (of_function name arity) ≡ true → named name arity
  pub unbound : Outcome Value
  pub arity : Value → ℕ
  pub apply : Applies
  pub also : Applies
  pub steps : ℕ
  pub agree : (f : Value) (args : List Value) (k : ℕ) → k ≤ steps → HasFuns named closed f → Every (HasFuns named closed) args → SameRun named closed (HasFuns named closed) k (apply f args k) (also f args k)

module _ (σ : Setting) where
  abbrev pub Held : Value → Type 0
  Held v = HasFuns σ.named σ.closed v

  abbrev pub AllHeld : List Value → Type 0
  AllHeld vs = Every Held vs

  abbrev pub RowHeld : Environment → Type 0
  RowHeld environment = RowHasFuns σ.named σ.closed environment

  abbrev pub Same : {A : Type 0} → (A → Type 0) → ℕ → Run A → Run A → Type 0
  Same holds k r q = SameRun σ.named σ.closed holds k r q

  -- ---- what the nodes of a tree do in both runs

  abbrev pub one_does : ExprKind → Does
  one_does t = run_kind σ.unbound σ.records σ.arity σ.apply t

  abbrev pub other_does : ExprKind → Does
  other_does t = run_kind wrong σ.records σ.arity σ.also t

  abbrev pub one_part : Node ExprKind → Part Value
  one_part e = R.expr_part σ.unbound σ.records σ.arity σ.apply e

  abbrev pub other_part : Node ExprKind → Part Value
  other_part e = R.expr_part wrong σ.records σ.arity σ.also e

  abbrev pub one_item : Node ItemKind → Part (Value × Environment)
  one_item i = R.item_part σ.unbound σ.records σ.arity σ.apply i

  abbrev pub other_item : Node ItemKind → Part (Value × Environment)
  other_item i = R.item_part wrong σ.records σ.arity σ.also i

  abbrev pub one_qualifier : Node QualifierKind → Part (List Environment)
  one_qualifier q = R.qualifier_part σ.unbound σ.records σ.arity σ.apply q

  abbrev pub other_qualifier : Node QualifierKind → Part (List Environment)
  other_qualifier q = R.qualifier_part wrong σ.records σ.arity σ.also q

  abbrev pub one_assoc : Node AssocKind → Part Association
  one_assoc a = R.assoc_part σ.unbound σ.records σ.arity σ.apply a

  abbrev pub other_assoc : Node AssocKind → Part Association
  other_assoc a = R.assoc_part wrong σ.records σ.arity σ.also a

  abbrev pub one_field : Node (Name × Node ExprKind) → Part Value
  one_field f = R.field_part σ.unbound σ.records σ.arity σ.apply f

  abbrev pub other_field : Node (Name × Node ExprKind) → Part Value
  other_field f = R.field_part wrong σ.records σ.arity σ.also f

  abbrev pub one_caught : Node CatchKind → Choice
  one_caught c = R.caught_of σ.unbound σ.records σ.arity σ.apply c

  abbrev pub other_caught : Node CatchKind → Choice
  other_caught c = R.caught_of wrong σ.records σ.arity σ.also c

  abbrev pub one_choice : Node ClauseKind → Choice
  one_choice c = R.choice_of σ.unbound σ.records σ.arity σ.apply c

  abbrev pub other_choice : Node ClauseKind → Choice
  other_choice c = R.choice_of wrong σ.records σ.arity σ.also c

  -- ---- what is the same in both

  -- runs from equal numbers, in an environment that has the variables and holds nothing but known funs, with so many steps at most
  abbrev pub RunsSame : {A : Type 0} → (Environment → A → Type 0) → List Occurrence → List (Node ExprKind) → (ℕ → Environment → ℕ → Run A) → (ℕ → Environment → ℕ → Run A) → Type 0
  RunsSame holds occurrences funs run runs = (environment : Environment) → RowHeld environment → HasVariables environment occurrences → (b c : ℕ) → b ≡ c → (k : ℕ) → k ≤ σ.steps → σ.at c funs →
      Same (holds environment) k (run b environment k) (runs c environment k)

  -- parts whose runs are the same, where nothing is wrong with names
  pub record SamePart (A : Type 0) (holds : Environment → A → Type 0) (faults : List PlacedFault) (occurrences : List Occurrence) (d e : Part A) : Type 0 where
    pub funs : d.funs ≡ e.funs
    pub runs : faults ≡ [] → RunsSame holds occurrences e.funs d.run e.run

  -- parts whose runs are the same in an environment
  pub record SameIn (A : Type 0) (holds : A → Type 0) (environment : Environment) (d e : Part A) : Type 0 where
    pub funs : d.funs ≡ e.funs
    pub runs : (b c : ℕ) → b ≡ c → (k : ℕ) → k ≤ σ.steps → σ.at c e.funs → Same holds k (d.run b environment k) (e.run c environment k)

  -- an environment behind another: it holds nothing but known funs, and has the other's variables and these
  pub record Behind (marks : List Mark) (environment out : Environment) : Type 0 where
    pub held : RowHeld out
    pub grows : (x : Name) → has environment x ≡ true → has out x ≡ true
    pub binds : Every (λ m. has out m.name ≡ true) marks

  abbrev pub ItemBehind : List Mark → Environment → Value × Environment → Type 0
  ItemBehind marks environment r = Held r.0 × Behind marks environment r.1

  abbrev pub AllBehind : List Mark → Environment → List Environment → Type 0
  AllBehind marks environment outs = Every (Behind marks environment) outs
