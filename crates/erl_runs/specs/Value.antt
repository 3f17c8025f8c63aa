-- Values, environments, and what a run gives (Erlang Reference Manual, "Data Types"; processes, floats and binaries are left out).
use Rattle.std.specs.Prelude.{◌≡◌, ℕ, ℤ, List, [], ◌∷◌, true}
use Rattle.type_terms.specs.declared.term.Key.{Key}
use Rattle.type_terms.specs.Keys.{Name, Bound, any_key, any_atom, after, above}

mutual
  -- a value. A named fun has its function's name and arity, a closure the number of its code and its environment
  pub data Value : Type 0 where
    integer : ℤ → Value
    atom : Name → Value
    nil : Value
    cons : Value → Value → Value
    tuple : Values → Value
    map_of : Row any_key → Value
    named_fun : Name → ℕ → Value
    closure : ℕ → Row any_atom → Value

  -- a list of values
  pub data Values : Type 0 where
    no_values : Values
    value_and : Value → Values → Values

  -- a finite map: entries whose keys ascend and lie above a bound, so that no key stands twice and a map has one form
  pub data Row : Bound → Type 0 where
    no_entries : {b : Bound} → Row b
    entry_and : {b : Bound} (k : Key) → above b k ≡ true → Value → Row (after k) → Row b

-- the values of a list of values
abbrev pub items_of : Values → List Value
items_of no_values = []
items_of (value_and v vs) = v ∷ items_of vs

-- a named fun or a closure
abbrev pub IsFun : Value → Type 0
IsFun (named_fun name arity) = Unit {0}
IsFun (closure code environment) = Unit {0}
IsFun _ = ⊥

-- the entries of a map
abbrev pub MapEntries : Type 0
MapEntries = Row any_key

-- the values of variables; a variable's name is kept as an atom's
abbrev pub Environment : Type 0
Environment = Row any_atom

-- the environment in which nothing is bound
abbrev pub no_bindings : Environment
no_bindings = no_entries

-- the class of an exception
pub data Class : Type 0 where
  error exit throw : Class

-- how an evaluation ends: with a result, with an exception, wrong, or still going when the steps were used up. It goes wrong where no clause takes the values (of a function, a fun, a `case`, an `if` or an `of` part), a match in a body fails, an operand is outside its domain (that of an operator, a built-in function, a generator, a filter, or what reads or changes a map or a record), what is no fun or has another arity is applied, a map key is neither integer nor atom, a name is unbound (a variable, a function, behind `erlang:` a built-in function), or an expression has a record or a field that isn't declared. It also goes wrong at what stands in no module of the profile: a closure without its fun expression, a default of a record without a value, an empty body
pub data Outcome (A : Type 0) : Type 0 where
  came : A → Outcome A
  raised : Class → Value → Outcome A
  wrong : Outcome A
  going : Outcome A

-- a call of a function: its name, its arguments, and the steps left for it
pub record Call : Type 0 where
  pub name : Name
  pub args : List Value
  pub left : ℕ

-- an evaluation: its outcome, the steps left, and the calls that it made
pub record Run (A : Type 0) : Type 0 where
  pub outcome : Outcome A
  pub left : ℕ
  pub calls : List Call
