-- What the functions of a module owe: that operands are integers, that calls are within the specs of the functions that are called, and that the type of each body is within the result of the function's spec. In its part on flat modules, in which the one clause of a function takes all arguments of its spec, so that nothing is owed of its head.
use Rattle.std.specs.Prelude.{◌≡◌, ℕ, ◌+◌, List, [], ◌∷◌, ◌++◌, length, Bool, true, false, Option, Some, None, if◌then◌else◌}
use Rattle.std.specs.List.{list_any}
use Rattle.type_terms.specs.declared.term.Term.{Term, Any, Ints, AtomLit, And, Fun}
use Rattle.type_terms.specs.declared.spec.Arrow.{Arrow}
use Rattle.type_terms.specs.declared.spec.FunSpec.{FunSpec}
use Rattle.type_terms.specs.declared.spec.Kind.{Kind}
use Rattle.type_terms.specs.declared.spec.Kind.TheVariants.{Operand, Call, Result}
use Rattle.type_terms.specs.Keys.{Name, same_name}
use Rattle.type_terms.specs.Definitions.{given_definitions}
use Rattle.type_terms.specs.Instances.{Instance, IsInstance}
use Rattle.erl_tree.specs.declared.token.Place.{Place}
use Rattle.erl_tree.specs.declared.token.Node.{Node}
use Rattle.erl_tree.specs.declared.pattern.PatternKind.{PatternKind, out-PatternKind}
use Rattle.erl_tree.specs.declared.expr.BinaryOp.{BinaryOp}
use Rattle.erl_tree.specs.declared.expr.BinaryOp.TheVariants.{Add, Sub, Mul}
use Rattle.erl_tree.specs.declared.expr.ExprKind.{ExprKind, fold-ExprKind}
use Rattle.erl_tree.specs.declared.expr.ItemKind.{ItemKind, out-ItemKind}
use Rattle.erl_tree.specs.declared.expr.ClauseKind.{ClauseKind, out-ClauseKind}
use Rattle.erl_tree.specs.declared.expr.QualifierKind.{QualifierKind}
use Rattle.erl_tree.specs.declared.expr.AssocKind.{AssocKind}
use Rattle.erl_tree.specs.declared.expr.CatchKind.{CatchKind}
use Rattle.erl_tree.specs.declared.expr.ExprKind.TheOpen as E
use Rattle.erl_tree.specs.declared.form.Function.{Function}
use Rattle.erl_tree.specs.declared.form.Module.{Module}
use Rattle.erl_tree.specs.Functions.{functions_of, clauses_arity}
use Rattle.erl_runs.specs.Specs.{and_then, one_integer}
use Rattle.flat_modules.specs.FlatSpecs.{specs_of}
use Rattle.flat_modules.specs.FlatNames.{bound_layer}
use Rattle.erl_runs.specs.Value.{Value}
use Rattle.erl_runs.specs.Membership.{Program, InTerm, arrows_of}

-- ---- constraints

-- what a function owes: the left term within the right one. The place is that of the expression whose type is the left term, and that of the call where a call is within a spec
pub record Constraint : Type 0 where
  pub function : ℕ
  pub place : Place
  pub kind : Kind
  pub left : Term
  pub right : Term

-- each value of the left term is in the right one: of every program, under every instance, at every level
abbrev pub IsWithin : Term → Term → Type 0
IsWithin left right = (program : Program) (i : Instance) (k : ℕ) (v : Value) → IsInstance i → InTerm program k v left given_definitions i → InTerm program k v right given_definitions i

-- a constraint holds where its left term is within its right one
abbrev pub Holds : Constraint → Type 0
Holds c = IsWithin c.left c.right

-- ---- arguments that fit

-- as many terms, each within its counterpart
abbrev pub AreWithin : List Term → List Term → Type 0
AreWithin [] [] = Unit {0}
AreWithin (s ∷ ss) (t ∷ ts) = IsWithin s t × AreWithin ss ts
AreWithin _ _ = ⊥

-- a test of whether the types of arguments fit parameters
abbrev pub Test : Type 0
Test = List Term → List Term → Bool

-- It says yes wherever they fit. What is claimed of the constraints holds for each such test, and the exact one is among them: what a call's type is where its arguments don't fit makes no difference to whether all constraints hold and to which one fails first, since the call's own constraint fails before any that depends on it.
abbrev pub FindsFits : Test → Type 0
FindsFits fits = (types parameters : List Term) → AreWithin types parameters → fits types parameters ≡ true

-- ---- the types of expressions

-- the types of variables
abbrev pub Context : Type 0
Context = Name → Option Term

-- the type of a variable of a head: that of its parameter
abbrev pub variable_type : List (Node PatternKind) → List Term → Context
variable_type (p ∷ patterns) (t ∷ types) x = if list_any (same_name x) (bound_layer (out-PatternKind p.kind)) then Some t else variable_type patterns types x
variable_type _ _ x = None

-- the type of an expression, and what it owes
pub record Judged : Type 0 where
  pub type : Term
  pub owed : List Constraint

-- the types of several expressions, and what they owe together
pub record JudgedAll : Type 0 where
  pub types : List Term
  pub owed : List Constraint

-- what is said of an expression at its place, where the variables have these types; nothing is said of forms that aren't written yet
abbrev pub Judges : Type 0
Judges = Place → Context → Option Judged

-- a type, of an expression that owes nothing
abbrev pub of_type : Term → Option Judged
of_type t = Some (record { type = t; owed = [] })

-- all integers
abbrev pub integers : Term
integers = Ints None None

-- whether an operator is `+`, `-` or `*`
abbrev pub is_arithmetic : BinaryOp → Bool
is_arithmetic Add = true
is_arithmetic Sub = true
is_arithmetic Mul = true
is_arithmetic _ = false

-- an arrow of a spec as a type
abbrev pub arrow_term : Arrow → Term
arrow_term arrow = Fun arrow.params arrow.result

-- expressions in turn, from left to right
abbrev pub judge_all : List (Node Judges) → Context → Option JudgedAll
judge_all [] context = Some (record { types = []; owed = [] })
judge_all (e ∷ es) context = and_then (e.kind e.place context) (λ j. and_then (judge_all es context) (λ js. Some (record { types = j.type ∷ js.types; owed = j.owed ++ js.owed })))

module _ (fits : Test) (function : ℕ) (specs : List FunSpec) where
  -- an operand within `integer()`
  abbrev pub operand : Place → Term → Constraint
  operand place type = record { function = function; place = place; kind = Operand; left = type; right = integers }

  -- an operation on two operands gives an integer; the operands owe what they owe, and that they are integers
  abbrev pub operation : Bool → Place → Judged → Place → Judged → Option Judged
  operation true p a q b = Some (record { type = integers; owed = a.owed ++ (b.owed ++ operand p a.type ∷ operand q b.type ∷ []) })
  operation _ p a q b = None

  -- the type of a call: the arrow's result where the arguments fit, and any type where they don't
  abbrev pub call_type : List Term → Arrow → Term
  call_type types arrow = if fits types arrow.params then arrow.result else Any

  -- a call of a function with these arrows, of which there is one: the function is within the funs that take such arguments and give the call's type
  abbrev pub call : Place → List Arrow → JudgedAll → Option Judged
  call place (arrow ∷ []) args = Some (record {
    type = call_type args.types arrow;
    owed = args.owed ++ record { function = function; place = place; kind = Call; left = And (arrow_term arrow ∷ []); right = Fun args.types (call_type args.types arrow) } ∷ [];
  })
  call place _ args = None

  -- one level of an expression: an integer and an atom have the type of that one value, a variable that of its parameter
  abbrev pub judge_layer : E.ExprKind-F Judges (Unit {0}) (Unit {0}) (Unit {0}) (Unit {0}) (Unit {0}) → Judges
  judge_layer (E.Int n) place context = of_type (one_integer n)
  judge_layer (E.Atom a) place context = of_type (AtomLit a)
  judge_layer (E.Var x) place context = and_then (context x) of_type
  judge_layer (E.Paren e) place context = e.kind e.place context
  judge_layer (E.Binary op a b) place context = and_then (a.kind a.place context) (λ j. and_then (b.kind b.place context) (λ k. operation (is_arithmetic op) a.place j b.place k))
  judge_layer (E.Call None name args) place context = and_then (judge_all args context) (λ js. call place (arrows_of specs name (length js.types)) js)
  judge_layer _ place context = None

  -- what stands in an expression's node
  unfoldable pub judge_kind : ExprKind → Judges
  judge_kind e = fold-ExprKind Judges (Unit {0}) (Unit {0}) (Unit {0}) (Unit {0}) (Unit {0}) judge_layer (λ i. tt) (λ q. tt) (λ a. tt) (λ c. tt) (λ c. tt) e

  -- an expression
  abbrev pub judge : Node ExprKind → Context → Option Judged
  judge e context = judge_kind e.kind e.place context

  -- ---- what is owed

  -- an expression of this type owes, after what it owes by itself, that the type is within the result
  abbrev pub owed_result : Place → Option Judged → Term → List Constraint
  owed_result place None result = []
  owed_result place (Some j) result = j.owed ++ record { function = function; place = place; kind = Result; left = j.type; right = result } ∷ []

  -- an expression as an element of a body
  abbrev pub owed_by_item : E.ItemKind-F ExprKind ItemKind QualifierKind AssocKind CatchKind ClauseKind → List (Node PatternKind) → Arrow → List Constraint
  owed_by_item (E.Value e) patterns arrow = owed_result e.place (judge e (variable_type patterns arrow.params)) arrow.result
  owed_by_item _ patterns arrow = []

  -- what a body of one element owes
  abbrev pub owed_by_body : List (Node ItemKind) → List (Node PatternKind) → Arrow → List Constraint
  owed_by_body (i ∷ []) patterns arrow = owed_by_item (out-ItemKind i.kind) patterns arrow
  owed_by_body _ patterns arrow = []

  -- what clauses owe for one arrow of the spec
  abbrev pub owed_by_clauses : List (Node ClauseKind) → Arrow → List Constraint
  owed_by_clauses [] arrow = []
  owed_by_clauses (c ∷ cs) arrow = owed_by_body (out-ClauseKind c.kind).body (out-ClauseKind c.kind).patterns arrow ++ owed_by_clauses cs arrow

  -- what clauses owe for each arrow of the spec
  abbrev pub owed_for_arrows : List (Node ClauseKind) → List Arrow → List Constraint
  owed_for_arrows clauses [] = []
  owed_for_arrows clauses (arrow ∷ arrows) = owed_by_clauses clauses arrow ++ owed_for_arrows clauses arrows

-- what functions owe, the first of which has this number
abbrev pub owed_by_functions : Test → ℕ → List Function → List FunSpec → List Constraint
owed_by_functions fits number [] specs = []
owed_by_functions fits number (f ∷ fs) specs = owed_for_arrows fits number specs f.clauses (arrows_of specs f.name (clauses_arity f.clauses)) ++ owed_by_functions fits (number + 1) fs specs

-- what a module owes: for each function, in text order and counted from 0, and each arrow of its spec
unfoldable pub owed_of : Test → Module → List Constraint
owed_of fits m = owed_by_functions fits 0 (functions_of m) (specs_of m)

-- ---- counts

-- whether a constraint says that a body is within the result
abbrev pub is_result : Kind → Bool
is_result Result = true
is_result _ = false

-- the number of constraints that say that a body is within the result
abbrev pub result_count : List Constraint → ℕ
result_count [] = 0
result_count (c ∷ cs) = (if is_result c.kind then 1 else 0) + result_count cs
