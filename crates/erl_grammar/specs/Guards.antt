-- Which expressions may stand in guards (Erlang Reference Manual, "Guard Expressions"), and which calls of built-in functions are in the profile.
use Rattle.std.specs.Prelude.{◌≡◌, ℕ, pos, List, [], ◌∷◌, length, Option, Some, None, Bool, true, false, not, nat_le, ◌==◌, ◌&&◌, ◌||◌, if◌then◌else◌, codes}
use Rattle.std.specs.List.{list_any}
use Rattle.std.specs.Str.{bytes_eq}
use Rattle.type_terms.specs.Keys.{Name}
use Rattle.erl_tree.specs.declared.token.Place.{Place}
use Rattle.erl_tree.specs.declared.token.Node.{Node}
use Rattle.erl_tree.specs.declared.expr.BinaryOp.{BinaryOp}
use Rattle.erl_tree.specs.declared.expr.BinaryOp.TheVariants.{Append}
use Rattle.erl_tree.specs.declared.expr.ExprKind.{ExprKind, out-ExprKind, fold-ExprKind}
use Rattle.erl_tree.specs.declared.expr.ItemKind.{ItemKind}
use Rattle.erl_tree.specs.declared.expr.ClauseKind.{ClauseKind}
use Rattle.erl_tree.specs.declared.expr.QualifierKind.{QualifierKind}
use Rattle.erl_tree.specs.declared.expr.AssocKind.{AssocKind}
use Rattle.erl_tree.specs.declared.expr.CatchKind.{CatchKind}
use Rattle.erl_tree.specs.declared.expr.ExprKind.TheOpen as E
use Rattle.erl_grammar.specs.declared.misfit.Misfit.{Misfit}
use Rattle.erl_grammar.specs.declared.misfit.Misfit.TheVariants.{Call, Other}

-- the functions of one argument that a guard may call
abbrev pub guard_functions : List Name
guard_functions = codes "is_atom" ∷ codes "is_boolean" ∷ codes "is_integer" ∷ codes "is_list" ∷ codes "is_map" ∷ codes "is_tuple" ∷ codes "is_function"
    ∷ codes "hd" ∷ codes "tl" ∷ codes "length" ∷ codes "tuple_size" ∷ codes "map_size" ∷ codes "abs" ∷ []

-- a function of this name and with so many arguments may be called in a guard: `is_function` has one or two, the others one
abbrev pub is_guard_function : Name → ℕ → Bool
is_guard_function name count = ((count == 1) && list_any (λ known. bytes_eq name known) guard_functions) || ((count == 2) && bytes_eq name (codes "is_function"))

-- the operators that a guard may have: all but `++`
abbrev pub is_guard_operator : BinaryOp → Bool
is_guard_operator Append = false
is_guard_operator _ = true

-- what is asked of a node that stands at a place
abbrev pub Asks : Type 0
Asks = Place → Option Misfit

-- the first of two
abbrev pub or_else : Option Misfit → Option Misfit → Option Misfit
or_else None other = other
or_else (Some m) other = Some m

-- of a node
abbrev pub misfit_of : Node Asks → Option Misfit
misfit_of n = n.kind n.place

-- of nodes in turn
abbrev pub first_misfit : {A : Type 0} → (A → Option Misfit) → List A → Option Misfit
first_misfit of [] = None
first_misfit of (n ∷ ns) = or_else (of n) (first_misfit of ns)

-- of a node that may be left out
abbrev pub optional_misfit : {A : Type 0} → (A → Option Misfit) → Option A → Option Misfit
optional_misfit of None = None
optional_misfit of (Some n) = of n

-- the first node at one level that may not stand in a guard. Literals, variables, parentheses, tuples, lists, operators other than `++`, fields of records and calls of the functions above may
abbrev pub misfit_layer : E.ExprKind-F Asks (Unit {0}) (Unit {0}) (Unit {0}) (Unit {0}) (Unit {0}) → Asks
misfit_layer (E.Atom a) p = None
misfit_layer (E.Int n) p = None
misfit_layer (E.Char c) p = None
misfit_layer (E.Str s) p = None
misfit_layer (E.Var x) p = None
misfit_layer (E.Paren e) p = misfit_of e
misfit_layer (E.Tuple es) p = first_misfit misfit_of es
misfit_layer (E.Cells es tail) p = or_else (first_misfit misfit_of es) (optional_misfit misfit_of tail)
misfit_layer (E.Unary op e) p = misfit_of e
misfit_layer (E.Binary op a b) p = or_else (misfit_of a) (if is_guard_operator op then misfit_of b else Some (Other p))
misfit_layer (E.Call prefix name args) p = if is_guard_function name (length args) then first_misfit misfit_of args else Some (Call p)
misfit_layer (E.Apply f args) p = Some (Call p)
misfit_layer (E.RecGet e name tag field) p = misfit_of e
misfit_layer _ p = Some (Other p)

-- the first misfit in what stands in an expression's node at this place
unfoldable pub misfit_in : ExprKind → Asks
misfit_in e = fold-ExprKind Asks (Unit {0}) (Unit {0}) (Unit {0}) (Unit {0}) (Unit {0}) misfit_layer (λ i. tt) (λ q. tt) (λ a. tt) (λ c. tt) (λ c. tt) e

-- the first node of an expression that may not stand in a guard
abbrev pub misfit : Node ExprKind → Option Misfit
misfit e = misfit_in e.kind e.place

-- an expression that may stand in a guard
abbrev pub IsGuardExpr : Node ExprKind → Type 0
IsGuardExpr e = misfit e ≡ None

-- one level of an expression that is an integer from 0 to 255, as written
abbrev pub is_arity_layer : E.ExprKind-F ExprKind ItemKind QualifierKind AssocKind CatchKind ClauseKind → Bool
is_arity_layer (E.Int (pos n)) = nat_le n 255
is_arity_layer _ = false

-- the second of two arguments is such an integer
abbrev pub has_arity_second : List (Node ExprKind) → Bool
has_arity_second (f ∷ n ∷ []) = is_arity_layer (out-ExprKind n.kind)
has_arity_second _ = true

-- whether a call is in the profile: in `is_function(F, N)` N is an integer from 0 to 255
abbrev pub is_call_in_profile : Name → List (Node ExprKind) → Bool
is_call_in_profile name args = not (bytes_eq name (codes "is_function")) || has_arity_second args
