-- Small modules, for examples: each with the text of its function `f`. Places count for names, and are those of the text; marks don't, and are left out.
use Rattle.std.specs.Prelude.{ℕ, pos, List, [], ◌∷◌, Some, None, true, false, codes}
use Rattle.type_terms.specs.Keys.{Name}
use Rattle.erl_tree.specs.declared.token.Place.{Place}
use Rattle.erl_tree.specs.declared.token.Node.{Node}
use Rattle.erl_tree.specs.declared.pattern.PatternKind.{PatternKind}
use Rattle.erl_tree.specs.declared.pattern.PatternKind.TheVariants as P
use Rattle.erl_tree.specs.declared.pattern.LiteralKind.TheVariants as L
use Rattle.erl_tree.specs.declared.type_expr.TypeKind.{TypeKind}
use Rattle.erl_tree.specs.declared.type_expr.TypeKind.TheVariants as Y
use Rattle.erl_tree.specs.declared.expr.UnaryOp.TheVariants.{Minus}
use Rattle.erl_tree.specs.declared.expr.BinaryOp.TheVariants.{Add}
use Rattle.erl_tree.specs.declared.expr.ExprKind.{ExprKind}
use Rattle.erl_tree.specs.declared.expr.ExprKind.TheVariants as X
use Rattle.erl_tree.specs.declared.expr.ItemKind.{ItemKind}
use Rattle.erl_tree.specs.declared.expr.ItemKind.TheVariants as I
use Rattle.erl_tree.specs.declared.expr.QualifierKind.{QualifierKind}
use Rattle.erl_tree.specs.declared.expr.QualifierKind.TheVariants as Q
use Rattle.erl_tree.specs.declared.expr.CatchKind.{CatchKind}
use Rattle.erl_tree.specs.declared.expr.ClauseKind.{ClauseKind}
use Rattle.erl_tree.specs.declared.form.TreeForm.{TreeForm}
use Rattle.erl_tree.specs.declared.form.TreeForm.TheVariants as F
use Rattle.erl_tree.specs.declared.form.Module.{Module}
use Rattle.erl_grammar.specs.Grammar.{node, clause_of, assoc_of, catch_of}
use Rattle.erl_scope_rules.specs.declared.fault.NameFault.{NameFault}
use Rattle.erl_scope_rules.specs.declared.fault.PlacedFault.{PlacedFault}

-- ---- nodes

-- a place in a line, and in the second line
abbrev pub in_line : ℕ → ℕ → Place
in_line line column = record { line = line; column = column }

abbrev pub below : ℕ → Place
below column = in_line 2 column

-- a node in the second line
abbrev pub at : {K : Type 0} → ℕ → K → Node K
at column kind = node (below column) [] kind

-- the variables L, X, Y and Z
abbrev pub name_l : Name
name_l = codes "L"

abbrev pub name_x : Name
name_x = codes "X"

abbrev pub name_y : Name
name_y = codes "Y"

abbrev pub name_z : Name
name_z = codes "Z"

-- a variable as a pattern and as an expression
abbrev pub pattern : Name → ℕ → Node PatternKind
pattern x column = at column (P.Var x)

abbrev pub use_of : Name → ℕ → Node ExprKind
use_of x column = at column (X.Var x)

-- an expression and a match as elements of a body
abbrev pub element : Node ExprKind → Node ItemKind
element e = node e.place [] (I.Value e)

abbrev pub matching : Node PatternKind → Node ExprKind → Node ItemKind
matching p e = node p.place [] (I.Match p e)

-- qualifiers
abbrev pub generator : Node PatternKind → Node ExprKind → Node QualifierKind
generator p e = node p.place [] (Q.Generator p e)

abbrev pub filter : Node ExprKind → Node QualifierKind
filter e = node e.place [] (Q.Filter e)

-- a clause of a `case`, of an `if`, of a function or fun expression, and of a `catch` part
abbrev pub clause : Node PatternKind → List (Node ItemKind) → Node ClauseKind
clause p items = node p.place [] (clause_of (p ∷ []) None items)

abbrev pub clause_when : Node PatternKind → ℕ → List (List (Node ExprKind)) → List (Node ItemKind) → Node ClauseKind
clause_when p column alternatives items = node p.place [] (clause_of (p ∷ []) (Some (at column alternatives)) items)

abbrev pub guarded : Node ExprKind → List (Node ItemKind) → Node ClauseKind
guarded test items = node test.place [] (clause_of [] (Some (node test.place [] ((test ∷ []) ∷ []))) items)

abbrev pub head_clause : ℕ → List (Node PatternKind) → List (Node ItemKind) → Node ClauseKind
head_clause column patterns items = at column (clause_of patterns None items)

abbrev pub thrown : Node ClauseKind → Node CatchKind
thrown c = node c.place [] (catch_of None c)

abbrev pub of_class : Node PatternKind → Node ClauseKind → Node CatchKind
of_class class c = node class.place [] (catch_of (Some class) c)

-- a fault at a place, and in the second line
abbrev pub placed_fault : NameFault → Place → PlacedFault
placed_fault fault place = record { place = place; fault = fault }

abbrev pub fault_at : NameFault → ℕ → PlacedFault
fault_at fault column = placed_fault fault (below column)

-- ---- modules

-- `any()`
abbrev pub any_at : Place → Node TypeKind
any_at p = node p [] (Y.Use None (codes "any") [])

-- `-spec f(any())->any().` in a line
abbrev pub spec_in : ℕ → TreeForm
spec_in line = F.Spec (node (in_line line 1) [] (record { name = codes "f"; clauses = node (in_line line 8) [] (record { params = any_at (in_line line 9) ∷ []; result = any_at (in_line line 17); bounds = [] }) ∷ [] }))

-- a function `f` in the second line
abbrev pub function_f : List (Node ClauseKind) → TreeForm
function_f clauses = F.Function (record { name = codes "f"; place = below 1; marks = []; clauses = clauses })

abbrev pub of_forms : List TreeForm → Module
of_forms forms = record { name = codes "a"; marks = []; forms = forms }

-- a module with its spec in the first line, and itself in the second one
abbrev pub module_of : List (Node ClauseKind) → Module
module_of clauses = of_forms (spec_in 1 ∷ function_f clauses ∷ [])

-- `f(X)-> ..`
abbrev pub clause_of_x : List (Node ItemKind) → List (Node ClauseKind)
clause_of_x items = head_clause 1 (pattern name_x 3 ∷ []) items ∷ []

abbrev pub taking_x : List (Node ItemKind) → Module
taking_x items = module_of (clause_of_x items)

-- `-record(r,{a}).` in the first line
abbrev pub record_r : TreeForm
record_r = F.RecDef (node (in_line 1 1) [] (record { name = codes "r"; tag = codes "r"; fields = node (in_line 1 12) [] (record { name = codes "a"; default = None; ty = None }) ∷ [] }))

-- a module with that record, the function in the second line, and its spec in the third one
abbrev pub with_record : List (Node ItemKind) → Module
with_record items = of_forms (record_r ∷ function_f (clause_of_x items) ∷ spec_in 3 ∷ [])

-- `f(X)->{fun(X)->X end,X}.`
abbrev pub fun_shadows : Module
fun_shadows = taking_x (element (at 7 (X.Tuple (at 8 (X.Fun (head_clause 11 (pattern name_x 12 ∷ []) (element (use_of name_x 16) ∷ []) ∷ [])) ∷ use_of name_x 22 ∷ []))) ∷ [])

-- `f(X)->[X||X<-X].`
abbrev pub generator_shadows : Module
generator_shadows = taking_x (element (at 7 (X.Comp (use_of name_x 8) (generator (pattern name_x 11) (use_of name_x 14) ∷ []))) ∷ [])

-- `f(X)->fun(X,X)->X end.`
abbrev pub twice_in_a_head : Module
twice_in_a_head = taking_x (element (at 7 (X.Fun (head_clause 10 (pattern name_x 11 ∷ pattern name_x 13 ∷ []) (element (use_of name_x 17) ∷ []) ∷ []))) ∷ [])

-- `f(X)->X=a,X.`
abbrev pub met_again : Module
met_again = taking_x (matching (pattern name_x 7) (at 9 (X.Atom (codes "a"))) ∷ element (use_of name_x 11) ∷ [])

-- `f(X)->case X of Y->Y end,Y.`
abbrev pub behind_a_case : Module
behind_a_case = taking_x (element (at 7 (X.Case (use_of name_x 12) (clause (pattern name_y 17) (element (use_of name_y 20) ∷ []) ∷ []))) ∷ element (use_of name_y 26) ∷ [])

-- `f(X)->if X->Y=X end,Y.`
abbrev pub behind_an_if : Module
behind_an_if = taking_x (element (at 7 (X.If (guarded (use_of name_x 10) (matching (pattern name_y 13) (use_of name_x 15) ∷ []) ∷ []))) ∷ element (use_of name_y 21) ∷ [])

-- `f(X)->begin Y=X end,Y.`
abbrev pub behind_a_begin : Module
behind_a_begin = taking_x (element (at 7 (X.Begin (matching (pattern name_y 13) (use_of name_x 15) ∷ []))) ∷ element (use_of name_y 21) ∷ [])

-- `f(X)->try X catch Y->Y end,Y.`
abbrev pub behind_a_try : Module
behind_a_try = taking_x (element (at 7 (X.Try (element (use_of name_x 11) ∷ []) [] (thrown (clause (pattern name_y 19) (element (use_of name_y 22) ∷ [])) ∷ []) None)) ∷ element (use_of name_y 28) ∷ [])

-- `f(X)->begin Y=X end,Y=X.`
abbrev pub met_behind_a_begin : Module
met_behind_a_begin = taking_x (element (at 7 (X.Begin (matching (pattern name_y 13) (use_of name_x 15) ∷ []))) ∷ matching (pattern name_y 21) (use_of name_x 23) ∷ [])

-- `f(X)->begin X=a end,X.`
abbrev pub bound_outside : Module
bound_outside = taking_x (element (at 7 (X.Begin (matching (pattern name_x 13) (at 15 (X.Atom (codes "a"))) ∷ []))) ∷ element (use_of name_x 21) ∷ [])

-- `f(X)->begin Y=X end,fun(Y)->Y end.`
abbrev pub bound_anew : Module
bound_anew = taking_x (element (at 7 (X.Begin (matching (pattern name_y 13) (use_of name_x 15) ∷ []))) ∷ element (at 21 (X.Fun (head_clause 24 (pattern name_y 25 ∷ []) (element (use_of name_y 29) ∷ []) ∷ []))) ∷ [])

-- `f(X)->{case X of Y->Y end,Y}.`
abbrev pub behind_in_a_tuple : Module
behind_in_a_tuple = taking_x (element (at 7 (X.Tuple (at 8 (X.Case (use_of name_x 13) (clause (pattern name_y 18) (element (use_of name_y 21) ∷ []) ∷ [])) ∷ use_of name_y 27 ∷ []))) ∷ [])

-- `f(X)->{Y,case X of Y->Y end}.`
abbrev pub before_in_a_tuple : Module
before_in_a_tuple = taking_x (element (at 7 (X.Tuple (use_of name_y 8 ∷ at 10 (X.Case (use_of name_x 15) (clause (pattern name_y 20) (element (use_of name_y 23) ∷ []) ∷ [])) ∷ []))) ∷ [])

-- `f(X)->fun(Y)->Y end,Y.`
abbrev pub behind_a_fun : Module
behind_a_fun = taking_x (element (at 7 (X.Fun (head_clause 10 (pattern name_y 11 ∷ []) (element (use_of name_y 15) ∷ []) ∷ []))) ∷ element (use_of name_y 21) ∷ [])

-- `f(X)->try Y=X of Z->Y catch Z->Y after Y end.`
abbrev pub all_parts : Module
all_parts = taking_x (element (at 7 (X.Try (matching (pattern name_y 11) (use_of name_x 13) ∷ []) (clause (pattern name_z 18) (element (use_of name_y 21) ∷ []) ∷ []) (thrown (clause (pattern name_z 29) (element (use_of name_y 32) ∷ [])) ∷ []) (Some (element (use_of name_y 40) ∷ [])))) ∷ [])

-- `f(X)->try X of Y->Y catch Z->Y after Z end.`
abbrev pub other_part : Module
other_part = taking_x (element (at 7 (X.Try (element (use_of name_x 11) ∷ []) (clause (pattern name_y 16) (element (use_of name_y 19) ∷ []) ∷ []) (thrown (clause (pattern name_z 27) (element (use_of name_y 30) ∷ [])) ∷ []) (Some (element (use_of name_z 38) ∷ [])))) ∷ [])

-- `f(X)->try X catch Y:Y->Y end.`
abbrev pub class_and_pattern : Module
class_and_pattern = taking_x (element (at 7 (X.Try (element (use_of name_x 11) ∷ []) [] (of_class (pattern name_y 19) (clause (pattern name_y 21) (element (use_of name_y 24) ∷ [])) ∷ []) None)) ∷ [])

-- `f(X)->[{Y,Z}||Y<-X,Z<-Y].`
abbrev pub left_to_right : Module
left_to_right = taking_x (element (at 7 (X.Comp (at 8 (X.Tuple (use_of name_y 9 ∷ use_of name_z 11 ∷ []))) (generator (pattern name_y 15) (use_of name_x 18) ∷ generator (pattern name_z 20) (use_of name_y 23) ∷ []))) ∷ [])

-- `f(X)->[Z||Z<-Y,Y<-X].`
abbrev pub right_to_left : Module
right_to_left = taking_x (element (at 7 (X.Comp (use_of name_z 8) (generator (pattern name_z 11) (use_of name_y 14) ∷ generator (pattern name_y 16) (use_of name_x 19) ∷ []))) ∷ [])

-- `f(X)->[Y||Y<-X,Y].`
abbrev pub filtered : Module
filtered = taking_x (element (at 7 (X.Comp (use_of name_y 8) (generator (pattern name_y 11) (use_of name_x 14) ∷ filter (use_of name_y 16) ∷ []))) ∷ [])

-- `f(X)->[Y||Y<-X],Y.`
abbrev pub behind_a_comprehension : Module
behind_a_comprehension = taking_x (element (at 7 (X.Comp (use_of name_y 8) (generator (pattern name_y 11) (use_of name_x 14) ∷ []))) ∷ element (use_of name_y 17) ∷ [])

-- `f(L)-> ..`
abbrev pub taking_l : List (Node ItemKind) → Module
taking_l items = module_of (head_clause 1 (pattern name_l 3 ∷ []) items ∷ [])

-- `f(L)->[begin V=1,V end||X<-[begin V=L,V end]].`, with this name in the place of V
abbrev pub blocks_in_a_comprehension : Name → Module
blocks_in_a_comprehension x = taking_l (element (at 7 (X.Comp (at 8 (X.Begin (matching (pattern x 14) (at 16 (X.Int (pos 1))) ∷ element (use_of x 18) ∷ []))) (generator (pattern name_x 25) (at 28 (X.Cells (at 29 (X.Begin (matching (pattern x 35) (use_of name_l 37) ∷ element (use_of x 39) ∷ [])) ∷ []) None)) ∷ []))) ∷ [])

-- `f(L)->[begin X=1,X end||X<-[begin X=L,X end]].`
abbrev pub generator_met_in_the_head : Module
generator_met_in_the_head = blocks_in_a_comprehension name_x

-- `f(L)->[begin Z=1,Z end||X<-[begin Z=L,Z end]].`
abbrev pub another_met_in_the_head : Module
another_met_in_the_head = blocks_in_a_comprehension name_z

-- `f(X)->case X of Y->Y;Z->Y end.`
abbrev pub case_clauses : Module
case_clauses = taking_x (element (at 7 (X.Case (use_of name_x 12) (clause (pattern name_y 17) (element (use_of name_y 20) ∷ []) ∷ clause (pattern name_z 22) (element (use_of name_y 25) ∷ []) ∷ []))) ∷ [])

-- `f(X)->X;f(X)->X.`
abbrev pub function_clauses : Module
function_clauses = module_of (head_clause 1 (pattern name_x 3 ∷ []) (element (use_of name_x 7) ∷ []) ∷ head_clause 9 (pattern name_x 11 ∷ []) (element (use_of name_x 15) ∷ []) ∷ [])

-- `f(X)->X;f(Y)->X.`
abbrev pub other_function_clause : Module
other_function_clause = module_of (head_clause 1 (pattern name_x 3 ∷ []) (element (use_of name_x 7) ∷ []) ∷ head_clause 9 (pattern name_y 11 ∷ []) (element (use_of name_x 15) ∷ []) ∷ [])

-- `f(X)->Y=Y.`
abbrev pub matched_by_itself : Module
matched_by_itself = taking_x (matching (pattern name_y 7) (use_of name_y 9) ∷ [])

-- `f(X)->Y=X,Y.`
abbrev pub matched_before : Module
matched_before = taking_x (matching (pattern name_y 7) (use_of name_x 9) ∷ element (use_of name_y 11) ∷ [])

-- `f(X)->Y=fun(Z)->Z end,{X,Y}.`
abbrev pub in_text_order : Module
in_text_order = taking_x (matching (pattern name_y 7) (at 9 (X.Fun (head_clause 12 (pattern name_z 13 ∷ []) (element (use_of name_z 17) ∷ []) ∷ []))) ∷ element (at 23 (X.Tuple (use_of name_x 24 ∷ use_of name_y 26 ∷ []))) ∷ [])

-- `f(X)->{Y,Z}.`
abbrev pub two_unbound : Module
two_unbound = taking_x (element (at 7 (X.Tuple (use_of name_y 8 ∷ use_of name_z 10 ∷ []))) ∷ [])

-- `f(X)->{g(X),Y}.`
abbrev pub call_before_variable : Module
call_before_variable = taking_x (element (at 7 (X.Tuple (at 8 (X.Call None (codes "g") (use_of name_x 10 ∷ [])) ∷ use_of name_y 13 ∷ []))) ∷ [])

-- `f(X)->Y.`
abbrev pub unbound : Module
unbound = taking_x (element (use_of name_y 7) ∷ [])

-- `f(X)->g(X).`
abbrev pub no_such_function : Module
no_such_function = taking_x (element (at 7 (X.Call None (codes "g") (use_of name_x 9 ∷ []))) ∷ [])

-- `f(X)->f(X).`
abbrev pub calls_itself : Module
calls_itself = taking_x (element (at 7 (X.Call None (codes "f") (use_of name_x 9 ∷ []))) ∷ [])

-- `f(X)->erlang:f(X).`
abbrev pub no_such_built_in : Module
no_such_built_in = taking_x (element (at 7 (X.Call (Some (codes "erlang")) (codes "f") (use_of name_x 16 ∷ []))) ∷ [])

-- `f(X)->erlang:length(X).`
abbrev pub built_in_called : Module
built_in_called = taking_x (element (at 7 (X.Call (Some (codes "erlang")) (codes "length") (use_of name_x 21 ∷ []))) ∷ [])

-- `f(X)->fun g/1.`
abbrev pub named_function : Module
named_function = taking_x (element (at 7 (X.FunName (codes "g") (pos 1))) ∷ [])

-- `f(X)->#r{}.`
abbrev pub no_such_record : Module
no_such_record = taking_x (element (at 7 (X.RecNew (codes "r") (codes "r") [])) ∷ [])

-- `f(X)->fun(Y)->Y;(Y,Z)->Y end.`
abbrev pub arity_differs : Module
arity_differs = taking_x (element (at 7 (X.Fun (head_clause 10 (pattern name_y 11 ∷ []) (element (use_of name_y 15) ∷ []) ∷ head_clause 17 (pattern name_y 18 ∷ pattern name_z 20 ∷ []) (element (use_of name_y 24) ∷ []) ∷ []))) ∷ [])

-- `f(X)->#r{b=X}.`, with the record
abbrev pub no_such_field : Module
no_such_field = with_record (element (at 7 (X.RecNew (codes "r") (codes "r") (at 10 ((codes "b"), use_of name_x 12) ∷ []))) ∷ [])

-- `f(X)->#r{a=X,a=X}.`, with the record
abbrev pub repeated_field : Module
repeated_field = with_record (element (at 7 (X.RecNew (codes "r") (codes "r") (at 10 ((codes "a"), use_of name_x 12) ∷ at 14 ((codes "a"), use_of name_x 16) ∷ []))) ∷ [])

-- `f(X)->X#r.a.`, with the record
abbrev pub field_of_a_record : Module
field_of_a_record = with_record (element (at 7 (X.RecGet (use_of name_x 7) (codes "r") (codes "r") (codes "a"))) ∷ [])

-- `f(X)->#q{a=X,a=X}.`, with the record
abbrev pub repeated_in_no_record : Module
repeated_in_no_record = with_record (element (at 7 (X.RecNew (codes "q") (codes "q") (at 10 ((codes "a"), use_of name_x 12) ∷ at 14 ((codes "a"), use_of name_x 16) ∷ []))) ∷ [])

-- `f(X)->X#q.a.`, with the record
abbrev pub field_of_no_record : Module
field_of_no_record = with_record (element (at 7 (X.RecGet (use_of name_x 7) (codes "q") (codes "q") (codes "a"))) ∷ [])

-- `f(X)->X#r.b.`, with the record
abbrev pub no_field_of_a_record : Module
no_field_of_a_record = with_record (element (at 7 (X.RecGet (use_of name_x 7) (codes "r") (codes "r") (codes "b"))) ∷ [])

-- `f(X)->X#q{b=X}.`, with the record
abbrev pub no_record_changed : Module
no_record_changed = with_record (element (at 7 (X.RecChange (use_of name_x 7) (codes "q") (codes "q") (at 11 ((codes "b"), use_of name_x 13) ∷ []))) ∷ [])

-- `f(X)->X#r{b=X}.`, with the record
abbrev pub no_field_changed : Module
no_field_changed = with_record (element (at 7 (X.RecChange (use_of name_x 7) (codes "r") (codes "r") (at 11 ((codes "b"), use_of name_x 13) ∷ []))) ∷ [])

-- `f(X)->case X of {(A),[B|C],#{k:=D},#r{a=E},G=H,_}->H end.`, with the record
abbrev pub every_pattern : Module
every_pattern = with_record (element (at 7 (X.Case (use_of name_x 12) (clause (at 17 (P.Tuple (at 18 (P.Paren (pattern (codes "A") 19)) ∷ at 22 (P.Cells (pattern (codes "B") 23 ∷ []) (Some (pattern (codes "C") 25))) ∷ at 28 (P.Map (at 30 (at 30 (L.Atom (codes "k")), pattern (codes "D") 33) ∷ [])) ∷ at 36 (P.Rec (codes "r") (codes "r") (at 39 ((codes "a"), pattern (codes "E") 41) ∷ [])) ∷ at 44 (P.Alias (pattern (codes "G") 44) (pattern (codes "H") 46)) ∷ pattern (codes "_") 48 ∷ []))) (element (use_of (codes "H") 52) ∷ []) ∷ []))) ∷ [])

-- `f(X)->{(A),[B|C],-D,E+F,length(G),H(I),#{J=>K},X#{k:=L},#r{a=M},X#r{a=N},O#r.a}.`, with the record
abbrev pub every_expression : Module
every_expression = with_record (element (at 7 (X.Tuple (at 8 (X.Paren (use_of (codes "A") 9)) ∷ at 12 (X.Cells (use_of (codes "B") 13 ∷ []) (Some (use_of (codes "C") 15))) ∷ at 18 (X.Unary Minus (use_of (codes "D") 19)) ∷ at 21 (X.Binary Add (use_of (codes "E") 21) (use_of (codes "F") 23)) ∷ at 25 (X.Call None (codes "length") (use_of (codes "G") 32 ∷ [])) ∷ at 35 (X.Apply (use_of (codes "H") 35) (use_of (codes "I") 37 ∷ [])) ∷ at 40 (X.MapNew (at 42 (assoc_of (use_of (codes "J") 42) false (use_of (codes "K") 45)) ∷ [])) ∷ at 48 (X.MapChange (use_of name_x 48) (at 51 (assoc_of (at 51 (X.Atom (codes "k"))) true (use_of (codes "L") 54)) ∷ [])) ∷ at 57 (X.RecNew (codes "r") (codes "r") (at 60 ((codes "a"), use_of (codes "M") 62) ∷ [])) ∷ at 65 (X.RecChange (use_of name_x 65) (codes "r") (codes "r") (at 69 ((codes "a"), use_of (codes "N") 71) ∷ [])) ∷ at 74 (X.RecGet (use_of (codes "O") 74) (codes "r") (codes "r") (codes "a")) ∷ []))) ∷ [])

-- `f(X)->case X of Y when Y,A;B->C end.`, with the record
abbrev pub every_guard : Module
every_guard = with_record (element (at 7 (X.Case (use_of name_x 12) (clause_when (pattern name_y 17) 24 ((use_of name_y 24 ∷ use_of (codes "A") 26 ∷ []) ∷ (use_of (codes "B") 28 ∷ []) ∷ []) (element (use_of (codes "C") 31) ∷ []) ∷ []))) ∷ [])

-- `f(X)->{(g()),[g()|g()],-g(),g()+g(),f(g()),X(g()),#{g()=>g()},X#{k:=g()},#r{a=g()},X#r{a=g()},(g())#r.a}.`, with the record
abbrev pub called_in_every_expression : Module
called_in_every_expression = with_record (element (at 7 (X.Tuple (at 8 (X.Paren (at 9 (X.Call None (codes "g") []))) ∷ at 14 (X.Cells (at 15 (X.Call None (codes "g") []) ∷ []) (Some (at 19 (X.Call None (codes "g") [])))) ∷ at 24 (X.Unary Minus (at 25 (X.Call None (codes "g") []))) ∷ at 29 (X.Binary Add (at 29 (X.Call None (codes "g") [])) (at 33 (X.Call None (codes "g") []))) ∷ at 37 (X.Call None (codes "f") (at 39 (X.Call None (codes "g") []) ∷ [])) ∷ at 44 (X.Apply (use_of name_x 44) (at 46 (X.Call None (codes "g") []) ∷ [])) ∷ at 51 (X.MapNew (at 53 (assoc_of (at 53 (X.Call None (codes "g") [])) false (at 58 (X.Call None (codes "g") []))) ∷ [])) ∷ at 63 (X.MapChange (use_of name_x 63) (at 66 (assoc_of (at 66 (X.Atom (codes "k"))) true (at 69 (X.Call None (codes "g") []))) ∷ [])) ∷ at 74 (X.RecNew (codes "r") (codes "r") (at 77 ((codes "a"), at 79 (X.Call None (codes "g") [])) ∷ [])) ∷ at 84 (X.RecChange (use_of name_x 84) (codes "r") (codes "r") (at 88 ((codes "a"), at 90 (X.Call None (codes "g") [])) ∷ [])) ∷ at 95 (X.RecGet (at 95 (X.Paren (at 96 (X.Call None (codes "g") [])))) (codes "r") (codes "r") (codes "a")) ∷ []))) ∷ [])

-- `f(X)->{[g()||Y<-g(),g()],begin Y=g() end,case g() of Z when Z->g() end,if X->g() end,fun()->g() end}.`, with the record
abbrev pub called_in_every_construct : Module
called_in_every_construct = with_record (element (at 7 (X.Tuple (at 8 (X.Comp (at 9 (X.Call None (codes "g") [])) (generator (pattern name_y 14) (at 17 (X.Call None (codes "g") [])) ∷ filter (at 21 (X.Call None (codes "g") [])) ∷ [])) ∷ at 26 (X.Begin (matching (pattern name_y 32) (at 34 (X.Call None (codes "g") [])) ∷ [])) ∷ at 42 (X.Case (at 47 (X.Call None (codes "g") [])) (clause_when (pattern name_z 54) 61 ((use_of name_z 61 ∷ []) ∷ []) (element (at 64 (X.Call None (codes "g") [])) ∷ []) ∷ [])) ∷ at 72 (X.If (guarded (use_of name_x 75) (element (at 78 (X.Call None (codes "g") [])) ∷ []) ∷ [])) ∷ at 86 (X.Fun (head_clause 89 [] (element (at 93 (X.Call None (codes "g") [])) ∷ []) ∷ [])) ∷ []))) ∷ [])

-- `f(X)->try g() of Y->g() catch Z->g();throw:Y->g() after g() end.`, with the record
abbrev pub called_in_a_try : Module
called_in_a_try = with_record (element (at 7 (X.Try (element (at 11 (X.Call None (codes "g") [])) ∷ []) (clause (pattern name_y 18) (element (at 21 (X.Call None (codes "g") [])) ∷ []) ∷ []) (thrown (clause (pattern name_z 31) (element (at 34 (X.Call None (codes "g") [])) ∷ [])) ∷ of_class (at 38 (P.Atom (codes "throw"))) (clause (pattern name_y 44) (element (at 47 (X.Call None (codes "g") [])) ∷ [])) ∷ []) (Some (element (at 57 (X.Call None (codes "g") [])) ∷ [])))) ∷ [])

-- `f(X)->case X of {#q{},[(#r{b=Y,a=Z,a=X})]}->X end.`, with the record
abbrev pub records_in_patterns : Module
records_in_patterns = with_record (element (at 7 (X.Case (use_of name_x 12) (clause (at 17 (P.Tuple (at 18 (P.Rec (codes "q") (codes "q") []) ∷ at 23 (P.Cells (at 24 (P.Paren (at 25 (P.Rec (codes "r") (codes "r") (at 28 ((codes "b"), pattern name_y 30) ∷ at 32 ((codes "a"), pattern name_z 34) ∷ at 36 ((codes "a"), pattern name_x 38) ∷ [])))) ∷ []) None) ∷ []))) (element (use_of name_x 45) ∷ []) ∷ []))) ∷ [])

-- ---- modules with other forms

-- `f(X)->X.` with its spec
abbrev pub with_spec : Module
with_spec = taking_x (element (use_of name_x 7) ∷ [])

-- `f(X)->X.` without a spec
abbrev pub without_spec : Module
without_spec = of_forms (function_f (clause_of_x (element (use_of name_x 7) ∷ [])) ∷ [])

-- `-spec f(any())->any().` without the function
abbrev pub spec_alone : Module
spec_alone = of_forms (spec_in 1 ∷ [])

-- `-export([f/1,g/1]).` in the first line, and `f(X)->X.` with its spec
abbrev pub exporting : Module
exporting = of_forms (F.Export (node (in_line 1 1) [] (record { types = false; names = (codes "f", pos 1) ∷ (codes "g", pos 1) ∷ [] })) ∷ function_f (clause_of_x (element (use_of name_x 7) ∷ [])) ∷ spec_in 3 ∷ [])

-- `f(X)->X.` in the second line, and `f(X)->X.` in the third one
abbrev pub two_functions : Module
two_functions = of_forms (spec_in 1 ∷ function_f (clause_of_x (element (use_of name_x 7) ∷ [])) ∷ F.Function (record { name = codes "f"; place = in_line 3 1; marks = []; clauses = third_line ∷ [] }) ∷ [])
  where
    third_line : Node ClauseKind
    third_line = node (in_line 3 1) [] (clause_of (node (in_line 3 3) [] (P.Var name_x) ∷ []) None (node (in_line 3 7) [] (I.Value (node (in_line 3 7) [] (X.Var name_x))) ∷ []))

-- `-record(r,{a=X}).` in the first line
abbrev pub default_of_a_field : Module
default_of_a_field = of_forms (F.RecDef (node (in_line 1 1) [] (record { name = codes "r"; tag = codes "r"; fields = node (in_line 1 12) [] (record { name = codes "a"; default = Some (node (in_line 1 14) [] (X.Var name_x)); ty = None }) ∷ [] })) ∷ [])

-- `length(X)->X.` in the second line, without a spec
abbrev pub built_in_defined : Module
built_in_defined = of_forms (F.Function (record { name = codes "length"; place = below 1; marks = []; clauses = head_clause 1 (pattern name_x 8 ∷ []) (element (use_of name_x 12) ∷ []) ∷ [] }) ∷ [])
