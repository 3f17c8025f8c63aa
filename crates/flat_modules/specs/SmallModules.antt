-- Small modules, for examples. The tokens of each lie in the first line, at the columns of its text.
use Rattle.std.specs.Prelude.{ℕ, pos, List, [], ◌∷◌, None, codes}
use Rattle.erl_tree.specs.SmallText.{place}
use Rattle.erl_runs.specs.SmallTrees.{int_at, atom_at}
use Rattle.erl_tree.specs.declared.token.Node.{Node}
use Rattle.erl_tree.specs.declared.expr.BinaryOp.TheVariants.{Add}
use Rattle.erl_tree.specs.declared.expr.ExprKind.{ExprKind}
use Rattle.erl_tree.specs.declared.expr.ExprKind.TheVariants as X
use Rattle.erl_tree.specs.declared.expr.ItemKind.TheVariants as I
use Rattle.erl_tree.specs.declared.expr.ClauseKind.{ClauseKind}
use Rattle.erl_tree.specs.declared.form.Function.{Function}
use Rattle.erl_tree.specs.declared.form.TreeForm.TheVariants as F
use Rattle.erl_tree.specs.declared.form.Module.{Module}
use Rattle.erl_grammar.specs.Grammar.{node, clause_of}

-- the clause `f()->E` in `-module(m). f()->E.`
abbrev pub clause_with : Node ExprKind → Node ClauseKind
clause_with e = node (place 13) (place 13 ∷ place 14 ∷ place 15 ∷ place 16 ∷ []) (clause_of [] None (node e.place [] (I.Value e) ∷ []))

-- its function, with the dot at a column
abbrev pub function_with : Node ExprKind → ℕ → Function
function_with e dot = record { name = codes "f"; place = place 13; marks = place dot ∷ []; clauses = clause_with e ∷ [] }

-- its module, which ends at a column
abbrev pub module_with : Node ExprKind → ℕ → ℕ → Module
module_with e dot end = record { name = codes "m"; marks = place 1 ∷ place 2 ∷ place 8 ∷ place 9 ∷ place 10 ∷ place 11 ∷ place end ∷ []; forms = F.Function (function_with e dot) ∷ [] }

-- `1+2`
abbrev pub sum_of_two : Node ExprKind
sum_of_two = node (place 18) (place 19 ∷ []) (X.Binary Add (int_at (pos 1) 18) (int_at (pos 2) 20))

-- `-module(m). f()->1+2.`
abbrev pub module_with_sum : Module
module_with_sum = module_with sum_of_two 21 22

-- `{}`
abbrev pub empty_tuple : Node ExprKind
empty_tuple = node (place 18) (place 18 ∷ place 19 ∷ []) (X.Tuple [])

-- `-module(m). f()->{}.`
abbrev pub module_with_tuple : Module
module_with_tuple = module_with empty_tuple 20 21

-- `a,a`
abbrev pub two_atoms : List (Node ExprKind)
two_atoms = atom_at (codes "a") 30 ∷ atom_at (codes "a") 32 ∷ []

-- `is_function(a,a)`
abbrev pub call_outside : Node ExprKind
call_outside = node (place 18) (place 18 ∷ place 29 ∷ place 31 ∷ place 33 ∷ []) (X.Call None (codes "is_function") two_atoms)

-- `-module(m). f()->is_function(a,a).`
abbrev pub module_with_call : Module
module_with_call = module_with call_outside 34 35
