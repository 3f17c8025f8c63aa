-- What the checks of an expression find: its type and that what it owes holds, or the first constraint that fails.
use Rattle.std.specs.Prelude.{◌≡◌, ℕ, ◌+◌, List, [], ◌∷◌, ◌++◌, Option, Some, slice_get, length, Bool, true, if◌then◌else◌}
use Rattle.std.specs.List.{list_any}
use Rattle.type_terms.specs.declared.term.Term.{Term, AtomLit, And, Fun}
use Rattle.type_terms.specs.declared.spec.Kind.{Kind}
use Rattle.type_terms.specs.declared.spec.Kind.TheVariants.{Operand, Call}
use Rattle.type_terms.specs.Definitions.{given_definitions}
use Rattle.type_terms.specs.Instances.{no_variables}
use Rattle.type_terms.specs.declared.spec.Arrow.{Arrow}
use Rattle.type_terms.specs.declared.spec.FunSpec.{FunSpec}
use Rattle.type_terms.specs.Keys.{Name, same_name}
use Rattle.key_sets.specs.declared.key_set.KeySet.{KeySet}
use Rattle.erl_tree.specs.declared.token.Node.{Node}
use Rattle.erl_tree.specs.declared.pattern.PatternKind.{PatternKind, out-PatternKind}
use Rattle.erl_tree.specs.declared.token.Place.{Place}
use Rattle.erl_runs.specs.Names.{is_wildcard}
use Rattle.flat_modules.specs.FlatNames.{bound_layer}
use Rattle.erl_tree.specs.declared.expr.ExprKind.{ExprKind}
use Rattle.erl_tree.specs.declared.expr.ExprKind.TheOpen as E
use Rattle.erl_tree.specs.declared.expr.ItemKind.{ItemKind, out-ItemKind}
use Rattle.erl_tree.specs.declared.expr.ClauseKind.{ClauseKind, out-ClauseKind}
use Rattle.erl_tree.specs.Lists.{Every, Among}
use Rattle.erl_tree.specs.Functions.{of_function}
use Rattle.erl_runs.specs.Specs.{and_then, one_integer}
use Rattle.erl_runs.specs.Membership.{arrows_of}
use Rattle.name_table.specs.Table.{ids}
use Rattle.cert_checker.specs.declared.refusal.FirstRefusal.{FirstRefusal}
use Rattle.cert_checker.specs.declared.refusal.FirstRefusal.TheVariants.{NoMemory, Failed}
use Rattle.cert_checker.specs.declared.refusal.Shown.TheVariants.{One, Missing}
use Rattle.cert_checker.specs.declared.spec_table.FunctionTypes.{FunctionTypes}
use Rattle.cert_checker.specs.declared.spec_table.FormTypes.TheVariants.{Spec}
use Rattle.cert_checker.specs.declared.spec_table.SpecTable.{SpecTable}
use Rattle.cert_checker.specs.declared.expression_type.ExpressionType.{ExpressionType}
use Rattle.cert_checker.specs.declared.expression_type.ExpressionType.TheVariants.{Integers, OneInteger, OneAtom, Parameter, ResultAt}
use Rattle.cert_checker.specs.declared.scope.Scope.{Scope}
use Rattle.cert_checker.specs.Constraints.{Constraint, Test, FindsFits, Context, Judged, JudgedAll, Holds, integers, arrow_term, call_type, variable_type, judge, owed_result}
use Rattle.cert_checker.specs.Failures.{ShowsFailure, keys_in}
use Rattle.cert_checker.specs.FlatTypes.{IsSetOf, AreSetsOf, IsFlatExpr, is_limited}
use Rattle.cert_checker.specs.SpecTables.{HasTypesOf}

-- ---- the specs of a module

-- a table has the sets of the one arrow of each function, and finds each function that has one
pub record HoldsTypes (specs : List FunSpec) (table : SpecTable) : Type 0 where
  pub sound : (name : Name) (arity k : ℕ) → Among (of_function name arity, k) table.places → (arrow : Arrow) × (f : FunctionTypes) × (arrows_of specs name arity ≡ arrow ∷ []) × (slice_get table.types k ≡ Some (Spec f)) × HasTypesOf f arrow × (length arrow.params ≡ arity)
  pub complete : (name : Name) (arity : ℕ) (arrow : Arrow) → arrows_of specs name arity ≡ arrow ∷ [] → (Among (of_function name arity) (ids table.places) → ⊥) → ⊥

-- ---- what an expression is judged by

-- a test of arguments, specs and parameters' types, for which a table and sets stand
pub record Setting (scope : Scope) : Type 0 where
  pub fits : Test
  pub finds : FindsFits fits
  pub specs : List FunSpec
  pub holds : HoldsTypes specs scope.table.now
  pub types : List Term
  pub described : AreSetsOf scope.params.now types

-- the types of variables
abbrev pub context_of : (scope : Scope) → Setting scope → Context
context_of scope s = variable_type scope.patterns.now s.types

-- what is said of an expression
abbrev pub JudgedBy : (scope : Scope) → Setting scope → Node ExprKind → Judged → Type 0
JudgedBy scope s e j = judge s.fits scope.number s.specs e (context_of scope s) ≡ Some j

-- something is said of an expression
pub record IsJudged (scope : Scope) (e : Node ExprKind) : Type 0 where
  pub setting : Setting scope
  pub judged : Judged
  pub is : JudgedBy scope setting e judged

-- expressions in turn, from left to right
abbrev pub judge_arguments : Test → ℕ → List FunSpec → List (Node ExprKind) → Context → Option JudgedAll
judge_arguments fits number specs [] context = Some (record { types = []; owed = [] })
judge_arguments fits number specs (e ∷ es) context = and_then (judge fits number specs e context) (λ j. and_then (judge_arguments fits number specs es context) (λ js. Some (record { types = j.type ∷ js.types; owed = j.owed ++ js.owed })))

-- what is said of expressions in turn
abbrev pub AllJudgedBy : (scope : Scope) → Setting scope → List (Node ExprKind) → JudgedAll → Type 0
AllJudgedBy scope s es js = judge_arguments s.fits scope.number s.specs es (context_of scope s) ≡ Some js

-- something is said of each of them
pub record AreJudged (scope : Scope) (es : List (Node ExprKind)) : Type 0 where
  pub setting : Setting scope
  pub judged : JudgedAll
  pub is : AllJudgedBy scope setting es judged

-- ---- what is found

-- the type that is found stands for a term: all integers, one, an atom, or what a set of the table or of the parameters is of
abbrev pub StandsFor : Scope → ExpressionType → Term → Type 0
StandsFor scope Integers t = t ≡ integers
StandsFor scope (OneInteger n) t = (t ≡ one_integer n) × (is_limited n ≡ true)
StandsFor scope (OneAtom a) t = t ≡ AtomLit a
StandsFor scope (Parameter at) t = (set : KeySet) × (slice_get scope.params.now at ≡ Some set) × IsSetOf set t
StandsFor scope (ResultAt at) t = (f : FunctionTypes) × (slice_get scope.table.now.types at ≡ Some (Spec f)) × IsSetOf f.result t

-- as many types as terms, each for its term
abbrev pub StandForAll : Scope → List ExpressionType → List Term → Type 0
StandForAll scope [] [] = Unit {0}
StandForAll scope (f ∷ fs) (t ∷ ts) = StandsFor scope f t × StandForAll scope fs ts
StandForAll scope _ _ = ⊥

-- an expression has the type that was found, and all that it owes holds
abbrev pub IsTypeIn : Scope → Node ExprKind → ExpressionType → Type 0
IsTypeIn scope e found = (s : Setting scope) (j : Judged) → JudgedBy scope s e j → StandsFor scope found j.type × Every Holds j.owed

-- the first constraint that an expression owes and that fails is refuted
abbrev pub FailsIn : Scope → Node ExprKind → FirstRefusal → Type 0
FailsIn scope e refusal = (s : Setting scope) (j : Judged) → JudgedBy scope s e j → ShowsFailure j.owed (scope.number + 1) refusal

-- the same of expressions in turn
abbrev pub AreTypesIn : Scope → List (Node ExprKind) → List ExpressionType → Type 0
AreTypesIn scope es found = (s : Setting scope) (js : JudgedAll) → AllJudgedBy scope s es js → StandForAll scope found js.types × Every Holds js.owed

-- the same of expressions in turn
abbrev pub AllFailIn : Scope → List (Node ExprKind) → FirstRefusal → Type 0
AllFailIn scope es refusal = (s : Setting scope) (js : JudgedAll) → AllJudgedBy scope s es js → ShowsFailure js.owed (scope.number + 1) refusal

-- ---- variables

-- whether a pattern binds this name
abbrev pub is_bound_by : Name → Node PatternKind → Bool
is_bound_by x p = list_any (same_name x) (bound_layer (out-PatternKind p.kind))

-- whether a variable is this name, and not the wildcard
abbrev pub is_this_variable : (variable name : Name) → Bool
is_this_variable y x = list_any (same_name x) (if is_wildcard y then [] else y ∷ [])

-- ---- constraints

-- one constraint of a function
abbrev pub owed_one : ℕ → Place → Kind → Term → Term → List Constraint
owed_one number place kind left right = record { function = number; place = place; kind = kind; left = left; right = right } ∷ []

-- two operands are integers
abbrev pub owed_operands : ℕ → Place → Term → Place → Term → List Constraint
owed_operands number p s q t = record { function = number; place = p; kind = Operand; left = s; right = integers } ∷ owed_one number q Operand t integers

-- the type of a call in a setting
abbrev pub type_of_call : (scope : Scope) → Setting scope → List Term → Arrow → Term
type_of_call scope s types arrow = call_type s.fits scope.number s.specs types arrow

-- a call is within its function's spec
abbrev pub owed_call : (scope : Scope) → Setting scope → Place → List Term → Arrow → List Constraint
owed_call scope s place types arrow = owed_one scope.number place Call (And (arrow_term arrow ∷ [])) (Fun types (type_of_call scope s types arrow))

-- a call with such arguments of a function that has a spec
pub record IsCall (scope : Scope) (name : Name) (args : List ExpressionType) : Type 0 where
  pub setting : Setting scope
  pub types : List Term
  pub stand : StandForAll scope args types
  pub arrow : Arrow
  pub specified : arrows_of setting.specs name (length types) ≡ arrow ∷ []

-- what is refused is a call whose arguments have keys of their types that are not all in the parameters
abbrev pub MissesParameters : ℕ → Place → List Term → List Term → FirstRefusal → Type 0
MissesParameters number p types params NoMemory = Unit {0}
MissesParameters number p types params (Failed function place kind (Missing keys)) = (function ≡ number) × (place ≡ p) × (kind ≡ Call) × keys_in keys types given_definitions no_variables × (keys_in keys params given_definitions no_variables → ⊥)
MissesParameters number p types params (Failed function place kind (One key)) = ⊥

-- ---- bodies

-- a body of this one expression
pub record IsBodyOf (body : List (Node ItemKind)) (e : Node ExprKind) : Type 0 where
  pub item : Node ItemKind
  pub one : body ≡ item ∷ []
  pub is_value : out-ItemKind item.kind ≡ E.Value e

-- a body of one expression, of which something is said
pub record IsJudgedBody (scope : Scope) (body : List (Node ItemKind)) : Type 0 where
  pub expression : Node ExprKind
  pub is_body : IsBodyOf body expression
  pub flat : IsFlatExpr expression
  pub judged : IsJudged scope expression

-- what such a body owes where the result is within a term
abbrev pub owed_in : (scope : Scope) → Setting scope → Node ExprKind → Judged → Term → List Constraint
owed_in scope s e j t = owed_result s.fits scope.number s.specs e.place (Some j) t

-- a test of arguments, specs and an arrow, for which a table and a function's sets stand
pub record FunctionSetting (table : SpecTable) (types : FunctionTypes) : Type 0 where
  pub fits : Test
  pub finds : FindsFits fits
  pub specs : List FunSpec
  pub holds : HoldsTypes specs table
  pub arrow : Arrow
  pub typed : HasTypesOf types arrow

-- one clause, whose body is this expression
pub record IsClauseOf (clauses : List (Node ClauseKind)) (clause : Node ClauseKind) (e : Node ExprKind) : Type 0 where
  pub one : clauses ≡ clause ∷ []
  pub is_body : IsBodyOf (out-ClauseKind clause.kind).body e

-- what is said of the body of a clause
abbrev pub ClauseJudgedBy : {table : SpecTable} {types : FunctionTypes} → ℕ → FunctionSetting table types → Node ClauseKind → Node ExprKind → Judged → Type 0
ClauseJudgedBy number s clause e j = judge s.fits number s.specs e (variable_type (out-ClauseKind clause.kind).patterns s.arrow.params) ≡ Some j

-- one clause, of whose body something is said
pub record AreJudgedClauses (table : SpecTable) (types : FunctionTypes) (number : ℕ) (clauses : List (Node ClauseKind)) : Type 0 where
  pub clause : Node ClauseKind
  pub expression : Node ExprKind
  pub is_clause : IsClauseOf clauses clause expression
  pub flat : IsFlatExpr expression
  pub setting : FunctionSetting table types
  pub judged : Judged
  pub is : ClauseJudgedBy number setting clause expression judged
