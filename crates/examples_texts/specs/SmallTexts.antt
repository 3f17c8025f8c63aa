-- Two small texts of one line, with a spec and a function each, and their trees.
use Rattle.std.specs.Prelude.{ℕ, List, [], ◌∷◌, None as Open, codes}
use Rattle.type_terms.specs.Definitions.{given_definitions}
use Rattle.type_terms.specs.declared.term.Term.{Ints}
use Rattle.erl_tree.specs.declared.token.Node.{Node}
use Rattle.erl_tree.specs.declared.pattern.PatternKind.TheVariants as P
use Rattle.erl_tree.specs.declared.type_expr.TypeKind.{TypeKind}
use Rattle.erl_tree.specs.declared.type_expr.TypeKind.TheVariants as Y
use Rattle.erl_tree.specs.declared.expr.ExprKind.{ExprKind}
use Rattle.erl_tree.specs.declared.expr.ExprKind.TheVariants as X
use Rattle.erl_tree.specs.declared.expr.ExprKind.TheOpen as E
use Rattle.erl_tree.specs.declared.expr.ItemKind.{ItemKind}
use Rattle.erl_tree.specs.declared.expr.ItemKind.TheVariants as I
use Rattle.erl_tree.specs.declared.expr.ClauseKind.{ClauseKind, roll-ClauseKind}
use Rattle.erl_tree.specs.declared.expr.QualifierKind.{QualifierKind}
use Rattle.erl_tree.specs.declared.expr.AssocKind.{AssocKind}
use Rattle.erl_tree.specs.declared.expr.CatchKind.{CatchKind}
use Rattle.erl_tree.specs.declared.form.SpecKind.{SpecKind}
use Rattle.erl_tree.specs.declared.form.SpecClauseKind.{SpecClauseKind}
use Rattle.erl_tree.specs.declared.form.Function.{Function}
use Rattle.erl_tree.specs.declared.form.TreeForm.TheVariants as F
use Rattle.erl_tree.specs.declared.form.Module.{Module}
use Rattle.erl_tree.specs.SmallText.{place}
use Rattle.erl_grammar.specs.Grammar.{node}
use Rattle.typespecs_rules.specs.declared.specs.Specs.{Specs}

-- ---- texts

-- the function gives its argument back
abbrev pub text_that_keeps : List ℕ
text_that_keeps = codes "-module(a). -spec f(integer()) -> integer(). f(X) -> X."

-- the function gives the atom a
abbrev pub text_that_breaks : List ℕ
text_that_breaks = codes "-module(a). -spec f(integer()) -> integer(). f(X) -> a."

-- ---- trees

-- `integer()` at a column
abbrev pub integer_type : ℕ → ℕ → ℕ → Node TypeKind
integer_type column opens closes = node (place column) (place column ∷ place opens ∷ place closes ∷ []) (Y.Use Open (codes "integer") [])

-- `(integer()) -> integer()`
abbrev pub spec_clause_written : Node SpecClauseKind
spec_clause_written = node (place 20) (place 20 ∷ place 30 ∷ place 32 ∷ []) (record { params = integer_type 21 28 29 ∷ []; result = integer_type 35 42 43; bounds = [] })

-- `-spec f(integer()) -> integer().`
abbrev pub spec_written : Node SpecKind
spec_written = node (place 13) (place 13 ∷ place 14 ∷ place 19 ∷ place 44 ∷ []) (record { name = codes "f"; clauses = spec_clause_written ∷ [] })

-- an expression of one token, at the place of the body
abbrev pub body : ExprKind → Node ExprKind
body e = node (place 54) (place 54 ∷ []) e

-- what the clause `f(X) -> E` holds
abbrev pub clause_layer : ExprKind → E.ClauseKind-F ExprKind ItemKind QualifierKind AssocKind CatchKind ClauseKind
clause_layer e = record { patterns = node (place 48) (place 48 ∷ []) (P.Var (codes "X")) ∷ []; guard = Open; body = node (place 54) [] (I.Value (body e)) ∷ [] }

abbrev pub clause_written : ExprKind → Node ClauseKind
clause_written e = node (place 46) (place 46 ∷ place 47 ∷ place 49 ∷ place 51 ∷ []) (roll-ClauseKind (clause_layer e))

-- `f(X) -> E.`
abbrev pub function_written : ExprKind → Function
function_written e = record { name = codes "f"; place = place 46; marks = place 55 ∷ []; clauses = clause_written e ∷ [] }

-- `-module(a). -spec f(integer()) -> integer(). f(X) -> E.`
abbrev pub module_with : ExprKind → Module
module_with e = record {
  name = codes "a";
  marks = place 1 ∷ place 2 ∷ place 8 ∷ place 9 ∷ place 10 ∷ place 11 ∷ place 56 ∷ [];
  forms = F.Spec spec_written ∷ F.Function (function_written e) ∷ [];
}

abbrev pub module_that_keeps : Module
module_that_keeps = module_with (X.Var (codes "X"))

abbrev pub module_that_breaks : Module
module_that_breaks = module_with (X.Atom (codes "a"))

-- ---- specs

abbrev pub its_specs : Specs
its_specs = record {
  defs = given_definitions;
  types = [];
  functions = record { name = codes "f"; arity = 1; vars = 0; clauses = record { params = Ints Open Open ∷ []; result = Ints Open Open } ∷ [] } ∷ [];
  records = [];
}
