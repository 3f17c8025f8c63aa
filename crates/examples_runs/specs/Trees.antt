-- How the trees of the examples are written: a function for each form of an expression, of what its parts are. Nothing that runs looks at places or marks, so each node stands at the first place of a text and has no marks.
use Rattle.std.specs.Prelude.{ℕ, pos, List, [], map, Some, None, true, false, codes}
use Rattle.type_terms.specs.Keys.{Name}
use Rattle.erl_tree.specs.declared.token.Node.{Node}
use Rattle.erl_tree.specs.declared.token.Place.{Place}
use Rattle.erl_tree.specs.declared.pattern.PatternKind.{PatternKind}
use Rattle.erl_tree.specs.declared.expr.UnaryOp.{UnaryOp}
use Rattle.erl_tree.specs.declared.expr.BinaryOp.{BinaryOp}
use Rattle.erl_tree.specs.declared.expr.ExprKind.{ExprKind}
use Rattle.erl_tree.specs.declared.expr.ExprKind.TheVariants as X
use Rattle.erl_tree.specs.declared.expr.ItemKind.{ItemKind}
use Rattle.erl_tree.specs.declared.expr.ItemKind.TheVariants as I
use Rattle.erl_tree.specs.declared.expr.QualifierKind.{QualifierKind}
use Rattle.erl_tree.specs.declared.expr.QualifierKind.TheVariants as Q
use Rattle.erl_tree.specs.declared.expr.AssocKind.{AssocKind, roll-AssocKind}
use Rattle.erl_tree.specs.declared.expr.CatchKind.{CatchKind, roll-CatchKind}
use Rattle.erl_tree.specs.declared.expr.ClauseKind.{ClauseKind, roll-ClauseKind}
use Rattle.erl_tree.specs.declared.form.Function.{Function}
use Rattle.erl_tree.specs.declared.form.RecDefKind.{RecDefKind}
use Rattle.erl_tree.specs.declared.form.RecFieldKind.{RecFieldKind}

abbrev pub Expr : Type 0
Expr = Node ExprKind

abbrev pub Pattern : Type 0
Pattern = Node PatternKind

abbrev pub start : Place
start = record { line = 1; column = 1 }

-- a node of this kind
abbrev pub node : {K : Type 0} → K → Node K
node k = record { place = start; marks = []; kind = k }

-- ---- literals and variables

abbrev pub int : ℕ → Expr
int m = node (X.Int (pos m))

abbrev pub atom : Name → Expr
atom a = node (X.Atom a)

abbrev pub char : ℕ → Expr
char c = node (X.Char c)

abbrev pub text : Name → Expr
text s = node (X.Str s)

abbrev pub var : Name → Expr
var x = node (X.Var x)

-- ---- operators, lists, tuples and calls

abbrev pub paren : Expr → Expr
paren e = node (X.Paren e)

abbrev pub tuple : List Expr → Expr
tuple es = node (X.Tuple es)

abbrev pub list : List Expr → Expr
list es = node (X.Cells es None)

-- `[E1, .., En | T]`
abbrev pub list_onto : List Expr → Expr → Expr
list_onto es tail = node (X.Cells es (Some tail))

abbrev pub unary : UnaryOp → Expr → Expr
unary op e = node (X.Unary op e)

abbrev pub binary : BinaryOp → Expr → Expr → Expr
binary op a b = node (X.Binary op a b)

abbrev pub call : Name → List Expr → Expr
call name args = node (X.Call None name args)

-- `erlang:name(..)`
abbrev pub erlang_call : Name → List Expr → Expr
erlang_call name args = node (X.Call (Some (codes "erlang")) name args)

-- a call of what an expression gives
abbrev pub apply : Expr → List Expr → Expr
apply f args = node (X.Apply f args)

-- ---- maps and records

-- `K => V`
abbrev pub sets : Expr → Expr → Node AssocKind
sets k v = node (roll-AssocKind (record { key = k; exact = false; value = v }))

-- `K := V`
abbrev pub replaces : Expr → Expr → Node AssocKind
replaces k v = node (roll-AssocKind (record { key = k; exact = true; value = v }))

abbrev pub map_new : List (Node AssocKind) → Expr
map_new assocs = node (X.MapNew assocs)

abbrev pub map_change : Expr → List (Node AssocKind) → Expr
map_change e assocs = node (X.MapChange e assocs)

abbrev pub field : Name → Expr → Node (Name × Expr)
field name e = node (name, e)

-- `#name{..}`, of a record whose tuples begin with its name
abbrev pub rec_new : Name → List (Node (Name × Expr)) → Expr
rec_new name fields = node (X.RecNew name name fields)

abbrev pub rec_change : Expr → Name → List (Node (Name × Expr)) → Expr
rec_change e name fields = node (X.RecChange e name name fields)

abbrev pub rec_get : Expr → Name → Name → Expr
rec_get e name field = node (X.RecGet e name name field)

-- ---- bodies and clauses

abbrev pub value : Expr → Node ItemKind
value e = node (I.Value e)

-- `P = E`
abbrev pub match : Pattern → Expr → Node ItemKind
match p e = node (I.Match p e)

-- tests of an alternative
abbrev pub Tests : Type 0
Tests = List Expr

-- a clause without a guard, and one with the alternatives of a guard
abbrev pub clause : List Pattern → List (Node ItemKind) → Node ClauseKind
clause ps body = node (roll-ClauseKind (record { patterns = ps; guard = None; body = body }))

abbrev pub clause_when : List Pattern → List Tests → List (Node ItemKind) → Node ClauseKind
clause_when ps guard body = node (roll-ClauseKind (record { patterns = ps; guard = Some (node guard); body = body }))

-- a clause of a catch part without a class, and one with a class
abbrev pub caught : Node ClauseKind → Node CatchKind
caught c = node (roll-CatchKind (record { class = None; clause = c }))

abbrev pub caught_as : Pattern → Node ClauseKind → Node CatchKind
caught_as class c = node (roll-CatchKind (record { class = Some class; clause = c }))

abbrev pub begin_of : List (Node ItemKind) → Expr
begin_of body = node (X.Begin body)

abbrev pub case_of : Expr → List (Node ClauseKind) → Expr
case_of e clauses = node (X.Case e clauses)

abbrev pub if_of : List (Node ClauseKind) → Expr
if_of clauses = node (X.If clauses)

-- a `try` without and with an `after` part
abbrev pub try_of : List (Node ItemKind) → List (Node ClauseKind) → List (Node CatchKind) → Expr
try_of body clauses catches = node (X.Try body clauses catches None)

abbrev pub try_after : List (Node ItemKind) → List (Node ClauseKind) → List (Node CatchKind) → List (Node ItemKind) → Expr
try_after body clauses catches last = node (X.Try body clauses catches (Some last))

-- ---- funs and comprehensions

-- `fun name/arity`
abbrev pub fun_name : Name → ℕ → Expr
fun_name name arity = node (X.FunName name (pos arity))

abbrev pub fun_of : List (Node ClauseKind) → Expr
fun_of clauses = node (X.Fun clauses)

-- `P <- E`
abbrev pub generator : Pattern → Expr → Node QualifierKind
generator p e = node (Q.Generator p e)

abbrev pub filter : Expr → Node QualifierKind
filter e = node (Q.Filter e)

abbrev pub comprehension : Expr → List (Node QualifierKind) → Expr
comprehension e qualifiers = node (X.Comp e qualifiers)

-- ---- forms

abbrev pub function : Name → List (Node ClauseKind) → Function
function name clauses = record { name = name; place = start; marks = []; clauses = clauses }

-- the declaration of a field without and with a default
abbrev pub declared : Name → RecFieldKind
declared name = record { name = name; default = None; ty = None }

abbrev pub declared_with : Name → Expr → RecFieldKind
declared_with name e = record { name = name; default = Some e; ty = None }

-- the declaration of a record whose tuples begin with its name
abbrev pub record_of : Name → List RecFieldKind → RecDefKind
record_of name fields = record { name = name; tag = name; fields = map (λ f. node f) fields }
