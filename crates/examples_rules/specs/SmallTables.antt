-- Small tables, for examples: of the variables of `f(X)->Y=X,Y.` in the second line of a text.
use Rattle.std.specs.Prelude.{ℕ, List, [], ◌∷◌, Some, None, true, false}
use Rattle.erl_scope_rules.specs.declared.resolved.Resolved.{Resolved}
use Rattle.examples_rules.specs.SmallScopes.{below}
use Rattle.erl_scope_numbers.specs.Table.{Entry, Table}

-- a variable that is its own binding, and one whose binding stands in another column
abbrev pub binding_at : ℕ → Resolved
binding_at column = record { place = below column; binding = Some (below column); binds = true; fault = None }

abbrev pub bound_at : ℕ → ℕ → Resolved
bound_at column binding = record { place = below column; binding = Some (below binding); binds = false; fault = None }

-- what became of the four variables
abbrev pub four_variables : List Resolved
four_variables = binding_at 3 ∷ binding_at 7 ∷ bound_at 9 3 ∷ bound_at 11 7 ∷ []

-- the number of the last of them differs from table to table, and so does what is listed behind it
abbrev pub entries_with : ℕ → List Entry → List Entry
entries_with number more = (below 3, Some 0) ∷ (below 7, Some 1) ∷ (below 9, Some 0) ∷ (below 11, Some number) ∷ more

-- their table
abbrev pub four_numbers : Table
four_numbers = record { numbers = entries_with 1 []; bindings = below 3 ∷ below 7 ∷ [] }

-- the same, with a place that is listed without a number
abbrev pub one_listed_more : Table
one_listed_more = record { numbers = entries_with 1 ((below 20, None) ∷ []); bindings = below 3 ∷ below 7 ∷ [] }

-- with a number at a place where no variable stands
abbrev pub one_number_more : Table
one_number_more = record { numbers = entries_with 1 ((below 20, Some 0) ∷ []); bindings = below 3 ∷ below 7 ∷ [] }

-- with another number
abbrev pub another_number : Table
another_number = record { numbers = entries_with 0 []; bindings = below 3 ∷ below 7 ∷ [] }

-- with one binding alone
abbrev pub one_binding : Table
one_binding = record { numbers = entries_with 1 []; bindings = below 3 ∷ [] }
