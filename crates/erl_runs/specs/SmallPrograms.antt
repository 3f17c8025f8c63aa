-- Small values and programs, for examples.
use Rattle.std.specs.Prelude.{ℕ, zero, suc, pos, List, [], ◌∷◌, Some, None as Open, true, codes}
use Rattle.type_terms.specs.declared.term.Key.TheVariants.{Atom as AtomKey}
use Rattle.type_terms.specs.declared.term.Term.{Term, Ints, AtomLit, AnyAtom, Or, Map}
use Rattle.type_terms.specs.Definitions.{given_definitions}
use Rattle.type_terms.specs.Instances.{Instance, no_variables, variable_and}
use Rattle.type_terms.specs.Keys.{Name}
use Rattle.erl_runs.specs.SmallTrees.{calls_itself}
use Rattle.erl_runs.specs.Value.{Value, integer, atom, nil, cons, came, wrong, going, Run}
use Rattle.erl_runs.specs.Membership.{Program, InTerm}
use Rattle.erl_runs.specs.Running.{Code}

-- in every program and at every level the value is in the term
abbrev pub IsAlwaysIn : Value → Term → Type 0
IsAlwaysIn v t = (program : Program) (k : ℕ) → InTerm program k v t given_definitions no_variables

-- in every program and at every level the value is outside the term
abbrev pub IsNeverIn : Value → Term → Type 0
IsNeverIn v t = (program : Program) (k : ℕ) → InTerm program k v t given_definitions no_variables → ⊥

-- the names a, b and f
abbrev pub name_a : Name
name_a = 97 ∷ []

abbrev pub name_b : Name
name_b = 98 ∷ []

abbrev pub name_f : Name
name_f = 102 ∷ []

-- the integers 1 and 2, and the atoms a and b
abbrev pub one : Value
one = integer (pos 1)

abbrev pub two : Value
two = integer (pos 2)

abbrev pub atom_a : Value
atom_a = atom name_a

abbrev pub atom_b : Value
atom_b = atom name_b

-- [1] and [a]
abbrev pub list_of_one : Value
list_of_one = cons one nil

abbrev pub list_of_a : Value
list_of_a = cons atom_a nil

-- integer()
abbrev pub integers : Term
integers = Ints Open Open

-- the integers from 1 to 3, or the atom a
abbrev pub range_or_atom_term : Term
range_or_atom_term = Or (Ints (Some (pos 1)) (Some (pos 3)) ∷ AtomLit (codes "a") ∷ [])

-- #{a := integer(), integer() => atom()}
abbrev pub map_type : Term
map_type = Map (record { key = AtomKey name_a; required = true; term = integers } ∷ []) (Some AnyAtom) Open

-- integer() for the variable 0
abbrev pub integers_for_variable : Instance
integers_for_variable = variable_and 0 integers [] no_variables no_variables

-- each fun gives its first argument back, after one step
abbrev pub identity_apply : Value → List Value → ℕ → Run Value
identity_apply f args zero = record { outcome = going; left = 0; calls = [] }
identity_apply f [] (suc m) = record { outcome = wrong; left = m; calls = [] }
identity_apply f (v ∷ vs) (suc m) = record { outcome = came v; left = m; calls = [] }

-- a program of funs of one parameter, with the spec f(integer()) -> integer()
abbrev pub identity_program : Program
identity_program = record {
  apply = identity_apply;
  arity = λ f. 1;
  specs = record { name = name_f; arity = 1; vars = 0; clauses = record { params = integers ∷ []; result = integers } ∷ [] } ∷ [];
  defs = given_definitions;
}

-- a run that came to 1 after the call f(argument)
abbrev pub run_with_call : Value → Run Value
run_with_call argument = record { outcome = came one; left = 0; calls = record { name = name_f; args = argument ∷ []; left = 0 } ∷ [] }

-- the code of the function `f(X)->f(X).` alone
abbrev pub endless_code : Code
endless_code = record { unbound = wrong; records = []; functions = (calls_itself, 0) ∷ []; funs = [] }
