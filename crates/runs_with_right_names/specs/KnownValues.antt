-- Values of which each fun stands for something in a program: it can be run without meeting a name that stands for nothing. (A closure whose fun expression is absent goes wrong where it is applied, and meets no name.)
use Rattle.std.specs.Prelude.{◌≡◌, ℕ, List, [], Option, Some, None, Bool, true, false, not, ◌&&◌, is_some, slice_get}
use Rattle.type_terms.specs.Keys.{Name, Bound}
use Rattle.erl_tree.specs.declared.token.Node.{Node}
use Rattle.erl_tree.specs.declared.expr.ExprKind.{ExprKind}
use Rattle.erl_tree.specs.declared.form.Module.{Module}
use Rattle.erl_tree.specs.Lists.{Every}
use Rattle.erl_tree.specs.Functions.{of_function, function_ids}
use Rattle.erl_runs.specs.Value.{Value, integer, atom, nil, cons, tuple, map_of, named_fun, closure, Values, no_values, value_and, Row, no_entries, entry_and, Environment}
use Rattle.erl_runs.specs.Matching.{variable_value}
use Rattle.erl_runs.specs.Records.{records_of}
use Rattle.erl_runs.specs.Running.{code_of}
use Rattle.erl_scope_rules.specs.declared.role.Role.{Role}
use Rattle.erl_scope_rules.specs.declared.role.Role.TheVariants.{Used, Met, Renewed}
use Rattle.erl_scope_rules.specs.Occurrences.{Occurrence, is_named_among, expr_part}
use Rattle.erl_scope_rules.specs.ScopeFaults.{is_defined, expr_faults}

-- ---- funs in values

-- each named fun in a value is one of which the first holds, and each closure one of which the second does
abbrev mutual
  pub HasFuns : (Name → ℕ → Type 0) → (ℕ → Environment → Type 0) → Value → Type 0
  HasFuns named closed (integer n) = Unit {0}
  HasFuns named closed (atom a) = Unit {0}
  HasFuns named closed nil = Unit {0}
  HasFuns named closed (cons head tail) = HasFuns named closed head × HasFuns named closed tail
  HasFuns named closed (tuple vs) = HaveFuns named closed vs
  HasFuns named closed (map_of row) = RowHasFuns named closed row
  HasFuns named closed (named_fun name arity) = named name arity
  HasFuns named closed (closure number environment) = closed number environment × RowHasFuns named closed environment

  pub HaveFuns : (Name → ℕ → Type 0) → (ℕ → Environment → Type 0) → Values → Type 0
  HaveFuns named closed no_values = Unit {0}
  HaveFuns named closed (value_and v vs) = HasFuns named closed v × HaveFuns named closed vs

  pub RowHasFuns : (Name → ℕ → Type 0) → (ℕ → Environment → Type 0) → {b : Bound} → Row b → Type 0
  RowHasFuns named closed no_entries = Unit {0}
  RowHasFuns named closed (entry_and k e v more) = HasFuns named closed v × RowHasFuns named closed more

-- ---- variables

-- whether an occurrence is a use
abbrev pub is_use : Role → Bool
is_use Used = true
is_use Met = false
is_use Renewed = false

-- whether an occurrence is a use that sees no variable of its name
abbrev pub is_free : Occurrence → Bool
is_free o = is_use o.mark.role && not (is_named_among o.mark.name o.sees)

-- an environment has a value for each variable that is free among occurrences
abbrev pub HasVariables : Environment → List Occurrence → Type 0
HasVariables environment occurrences = Every (λ o. is_free o ≡ true → is_some (variable_value environment o.mark.name) ≡ true) occurrences

-- ---- known values

module _ (m : Module) where
  -- nothing is wrong with the names of functions, records and fields in an expression, and the environment has its free variables
  pub record HasKnownNames (environment : Environment) (e : Node ExprKind) : Type 0 where
    pub right : expr_faults (function_ids m) (records_of m) e ≡ []
    pub variables : HasVariables environment (expr_part e).occurrences

  -- a fun expression that is there
  abbrev pub IsKnownCode : Environment → Option (Node ExprKind) → Type 0
  IsKnownCode environment None = Unit {0}
  IsKnownCode environment (Some e) = HasKnownNames environment e

  -- a function of the module
  abbrev pub IsKnownFunction : Name → ℕ → Type 0
  IsKnownFunction name arity = is_defined (function_ids m) (records_of m) (of_function name arity) ≡ true

  -- each named fun in a value is a function of the module, and each closure in it has an environment with the variables that its fun expression uses, in which nothing is wrong with names
  abbrev pub IsKnown : (outside : List (Node ExprKind)) → Value → Type 0
  IsKnown outside v = HasFuns IsKnownFunction (λ number environment. IsKnownCode environment (slice_get (code_of m outside).funs number)) v
