-- What values, rows and outcomes have, whose funs are such that two predicates hold of them.
use Rattle.std.proofs.Common.{◌≡◌, ℕ, ◌≤◌, List, Bool}
use Rattle.std.specs.Prelude.{Option, Some, None, is_some}
use Rattle.type_terms.specs.Keys.{Name, Bound}
use Rattle.erl_tree.specs.Lists.{Every}
use Rattle.erl_runs.specs.Value.{Value, integer, atom, nil, cons, tuple, map_of, named_fun, closure, Values, no_values, value_and, Row, no_entries, entry_and, Environment, Outcome, came, raised, wrong, going, Run}
use Rattle.erl_runs.specs.Matching.{variable_value}
use Rattle.erl_runs.specs.Operations.{Association}
use Rattle.runs_with_right_names.specs.KnownValues.{HasFuns, HaveFuns, RowHasFuns}

-- whether a variable has a value
abbrev pub has : Environment → Name → Bool
has environment x = is_some (variable_value environment x)

module _ (named : Name → ℕ → Type 0) (closed : ℕ → Environment → Type 0) where
  abbrev pub Held : Value → Type 0
  Held v = HasFuns named closed v

  abbrev pub AllHeld : List Value → Type 0
  AllHeld vs = Every Held vs

  abbrev pub RowHeld : {b : Bound} → Row b → Type 0
  RowHeld row = RowHasFuns named closed row

  -- what came has it, and so has the reason of an exception
  abbrev pub EndsHeld : {A : Type 0} → (A → Type 0) → Outcome A → Type 0
  EndsHeld holds (came a) = holds a
  EndsHeld holds (raised class v) = Held v
  EndsHeld holds wrong = Unit {0}
  EndsHeld holds going = Unit {0}

  abbrev pub FoundHeld : {A : Type 0} → (A → Type 0) → Option A → Type 0
  FoundHeld holds None = Unit {0}
  FoundHeld holds (Some a) = holds a

  abbrev pub AssociationHeld : Association → Type 0
  AssociationHeld a = Held a.key × Held a.value

  -- two runs are the same, what came has it, and no more steps are left than there were
  pub record SameRun {A : Type 0} (holds : A → Type 0) (steps : ℕ) (r q : Run A) : Type 0 where
    pub same : r ≡ q
    pub held : EndsHeld holds q.outcome
    pub spends : q.left ≤ steps

-- what holds of the funs in a value may be weakened
module _ (named other_named : Name → ℕ → Type 0) (closed other_closed : ℕ → Environment → Type 0)
    (names : (name : Name) (arity : ℕ) → named name arity → other_named name arity)
    (closures : (number : ℕ) (environment : Environment) → closed number environment → other_closed number environment) where
  mutual
    pub value-weaker : (v : Value) → HasFuns named closed v → HasFuns other_named other_closed v
    value-weaker (integer n) h = tt
    value-weaker (atom a) h = tt
    value-weaker nil h = tt
    value-weaker (cons head tail) h = (value-weaker head h.0, value-weaker tail h.1)
    value-weaker (tuple vs) h = values-weaker vs h
    value-weaker (map_of row) h = row-weaker row h
    value-weaker (named_fun name arity) h = names name arity h
    value-weaker (closure number environment) h = (closures number environment h.0, row-weaker environment h.1)

    values-weaker : (vs : Values) → HaveFuns named closed vs → HaveFuns other_named other_closed vs
    values-weaker no_values h = tt
    values-weaker (value_and v vs) h = (value-weaker v h.0, values-weaker vs h.1)

    pub row-weaker : {b : Bound} (row : Row b) → RowHasFuns named closed row → RowHasFuns other_named other_closed row
    row-weaker no_entries h = tt
    row-weaker (entry_and k e v more) h = (value-weaker v h.0, row-weaker more h.1)
