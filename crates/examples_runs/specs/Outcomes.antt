-- What a closed expression comes to, and how the values of the examples are written.
use Rattle.std.specs.Prelude.{refl, ℕ, pos, neg_ℤ, List, [], ◌∷◌, ◌++◌, map, codes}
use Rattle.type_terms.specs.declared.term.Key.{Key}
use Rattle.type_terms.specs.declared.term.Key.TheVariants.{Int as IntKey, Atom as AtomKey}
use Rattle.type_terms.specs.Keys.{Name, any_key}
use Rattle.erl_tree.specs.declared.form.Function.{Function}
use Rattle.erl_tree.specs.declared.form.RecDefKind.{RecDefKind}
use Rattle.erl_tree.specs.declared.form.TreeForm.TheVariants as F
use Rattle.erl_tree.specs.declared.form.Module.{Module}
use Rattle.erl_runs.specs.FiniteMaps.{insert}
use Rattle.erl_runs.specs.Records.{values_of, list_with}
use Rattle.erl_runs.specs.Value as V
use Rattle.erl_runs.specs.Value.{Value, named_fun, MapEntries, no_entries, Outcome, Call, Run}
use Rattle.erl_runs.specs.Running.{code_of, apply}
use Rattle.examples_runs.specs.Trees.{Expr, node, value, clause, function}

-- a module of these records and functions
abbrev pub module_of : List RecDefKind → List Function → Module
module_of records functions = record { name = codes "m"; marks = []; forms = map (λ r. F.RecDef (node r)) records ++ map F.Function functions }

-- the function `main() -> E.`
abbrev pub main : Expr → Function
main e = function (codes "main") (clause [] (value e ∷ []) ∷ [])

-- what the call `main()` does within a hundred steps, in a module of that function and of these records and functions
unfoldable pub run_of : List RecDefKind → List Function → Expr → Run Value
run_of records functions e = apply (code_of (module_of records (main e ∷ functions)) []) (named_fun (codes "main") 0) [] 100

-- what it comes to
unfoldable pub outcome_of : List RecDefKind → List Function → Expr → Outcome Value
outcome_of records functions e = (run_of records functions e).outcome

-- ---- runs

-- the call of this function with these arguments, after which so many steps were left
abbrev pub called : Name → List Value → ℕ → Call
called name args left = record { name = name; args = args; left = left }

-- it ended so, with so many steps left, and with these calls behind that of `main()`
abbrev pub ended : Outcome Value → ℕ → List Call → Run Value
ended outcome left calls = record { outcome = outcome; left = left; calls = called (codes "main") [] 99 ∷ calls }

-- ---- values

abbrev pub int : ℕ → Value
int m = V.integer (pos m)

-- `-m`
abbrev pub minus : ℕ → Value
minus m = V.integer (neg_ℤ (pos m))

abbrev pub atom : Name → Value
atom a = V.atom a

abbrev pub list : List Value → Value
list vs = list_with vs V.nil

abbrev pub list_onto : List Value → Value → Value
list_onto vs tail = list_with vs tail

abbrev pub tuple : List Value → Value
tuple vs = V.tuple (values_of vs)

-- an entry for each kind of key
abbrev pub at_int : ℕ → Value → Key × Value
at_int m v = (IntKey (pos m), v)

abbrev pub at_minus : ℕ → Value → Key × Value
at_minus m v = (IntKey (neg_ℤ (pos m)), v)

abbrev pub at_atom : Name → Value → Key × Value
at_atom a v = (AtomKey a, v)

-- a map, of its entries put in from the last to the first
abbrev pub map_with : List (Key × Value) → Value
map_with entries = V.map_of (all_entries entries)
  where
    all_entries : List (Key × Value) → MapEntries
    all_entries [] = no_entries
    all_entries (e ∷ more) = insert {b = any_key} e.0 refl e.1 (all_entries more)
