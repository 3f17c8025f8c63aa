-- What expressions and functions do with so many steps (Erlang Reference Manual, "Expressions" and "Function Evaluation"). Evaluation goes from left to right. Where this differs from Erlang on purpose is listed in docs/RUNS.md.
use Rattle.std.specs.Prelude.{ℕ, zero, suc, ◌+◌, ℤ, pos, negsuc, List, [], ◌∷◌, ◌++◌, map, length, cond, nat_eq, Option, Some, None, Bool, true, false, ◌&&◌, is_none, slice_get, codes}
use Rattle.std.specs.List.{list_all, list_any}
use Rattle.type_terms.specs.declared.term.Def.{Def}
use Rattle.type_terms.specs.declared.spec.FunSpec.{FunSpec}
use Rattle.type_terms.specs.Keys.{Name, same_name}
use Rattle.erl_tree.specs.declared.token.Node.{Node}
use Rattle.erl_tree.specs.declared.expr.BinaryOp.{BinaryOp}
use Rattle.erl_tree.specs.declared.expr.BinaryOp.TheVariants.{Andalso, Orelse}
use Rattle.erl_tree.specs.declared.expr.ExprKind.{ExprKind, out-ExprKind, para-ExprKind}
use Rattle.erl_tree.specs.declared.expr.ItemKind.{ItemKind}
use Rattle.erl_tree.specs.declared.expr.ClauseKind.{ClauseKind, para-ClauseKind}
use Rattle.erl_tree.specs.declared.expr.QualifierKind.{QualifierKind}
use Rattle.erl_tree.specs.declared.expr.AssocKind.{AssocKind}
use Rattle.erl_tree.specs.declared.expr.CatchKind.{CatchKind}
use Rattle.erl_tree.specs.declared.pattern.PatternKind.{PatternKind}
use Rattle.erl_tree.specs.Functions.{functions_of, clauses_arity}
use Rattle.erl_tree.specs.declared.expr.ExprKind.TheOpen as E
use Rattle.erl_tree.specs.declared.form.Function.{Function}
use Rattle.erl_tree.specs.declared.form.RecDefKind.{RecDefKind}
use Rattle.erl_tree.specs.declared.form.Module.{Module}
use Rattle.erl_grammar.specs.Guards.{misfit}
use Rattle.erl_runs.specs.Value.{Value, integer, atom, nil, tuple, map_of, no_entries, named_fun, closure, Environment, no_bindings, Class, error, exit, throw, Outcome, came, raised, wrong, going, Call, Run}
use Rattle.erl_runs.specs.Records.{records_of, values_of, list_with, string_value, find_record, fields_of, new_values, changed_values, field_value, record_values, have_fields}
use Rattle.erl_runs.specs.Matching.{variable_value, shadowed_by, match_next, match_value, match_pattern, match_patterns}
use Rattle.erl_runs.specs.Membership.{Program}
use Rattle.erl_runs.specs.Operations.{truth_of, boolean, elements_of, operate, operate_one, built_in, Association, change_map}

-- ---- how runs end

-- it ends so, with these steps left
abbrev pub ends : {A : Type 0} → Outcome A → ℕ → Run A
ends outcome steps = record { outcome = outcome; left = steps; calls = [] }

-- it ends with a result
abbrev pub gives : {A : Type 0} → A → ℕ → Run A
gives a steps = ends (came a) steps

-- it ends wrong
abbrev pub goes_wrong : {A : Type 0} → ℕ → Run A
goes_wrong steps = ends wrong steps

-- it is still going
abbrev pub still_going : {A : Type 0} → ℕ → Run A
still_going steps = ends going steps

-- the run, with calls that came before its own
abbrev pub with_calls : {A : Type 0} → List Call → Run A → Run A
with_calls calls run = record { outcome = run.outcome; left = run.left; calls = calls ++ run.calls }

-- what comes next is run with the result and the steps left; where there is no result, the run ends as it is
abbrev pub go_on : {A B : Type 0} → Outcome A → ℕ → (A → ℕ → Run B) → Run B
go_on (came a) steps next = next a steps
go_on (raised class v) steps next = ends (raised class v) steps
go_on wrong steps next = goes_wrong steps
go_on going steps next = still_going steps

-- one run and then the next, with the calls of both
unfoldable pub then : {A B : Type 0} → Run A → (A → ℕ → Run B) → Run B
then run next = with_calls run.calls (go_on run.outcome run.left next)

-- what a name stands for, and else what an unbound one gives
abbrev pub meaning : Outcome Value → Option Value → Outcome Value
meaning unbound None = unbound
meaning unbound (Some v) = came v

-- what there is, and else it goes wrong
abbrev pub gives_found : {A : Type 0} → Option A → ℕ → Run A
gives_found None steps = goes_wrong steps
gives_found (Some v) steps = gives v steps

-- ---- what parts of a tree do

-- a part of a tree: the fun expressions that stand in it, in text order, and what running it gives: with the number of the first of them, in an environment, with so many steps
pub record Part (A : Type 0) : Type 0 where
  pub funs : List (Node ExprKind)
  pub run : ℕ → Environment → ℕ → Run A

-- what stands in an expression's node: the fun expressions inside it, what running it gives, and what applying its closure gives where it is a fun expression
pub record Does : Type 0 where
  pub inner : List (Node ExprKind)
  pub run : ℕ → Environment → ℕ → Run Value
  pub enter : ℕ → Environment → List Value → ℕ → Run Value

-- a clause: what its patterns bind, whether its guard is true, and its body
pub record Choice : Type 0 where
  pub funs : List (Node ExprKind)
  pub matches : List Value → Environment → Option Environment
  pub allows : Environment → Bool
  pub run : ℕ → Environment → ℕ → Run Value

-- what applying a value to arguments does with so many steps
abbrev pub Applies : Type 0
Applies = Value → List Value → ℕ → Run Value

-- whether one level of an expression is a fun expression
abbrev pub is_fun_layer : E.ExprKind-F ExprKind ItemKind QualifierKind AssocKind CatchKind ClauseKind → Bool
is_fun_layer (E.Fun clauses) = true
is_fun_layer _ = false

-- a node in front of others, where it is a fun expression
abbrev pub with_itself : Bool → Node ExprKind → List (Node ExprKind) → List (Node ExprKind)
with_itself true e inner = e ∷ inner
with_itself false e inner = inner

-- an expression as a part, whose tree is beside it
abbrev pub part : Node (ExprKind × Does) → Part Value
part n = record {
  funs = with_itself (is_fun_layer (out-ExprKind n.kind.0)) (record { place = n.place; marks = n.marks; kind = n.kind.0 }) n.kind.1.inner;
  run = n.kind.1.run;
}

abbrev pub parts : List (Node (ExprKind × Does)) → List (Part Value)
parts ns = map part ns

-- what a node that is no expression does, whose tree is beside it; the same of several
abbrev pub of : {T M : Type 0} → Node (T × M) → M
of n = n.kind.1

abbrev pub all_of : {T M : Type 0} → List (Node (T × M)) → List M
all_of ns = map of ns

-- the fun expressions of parts in turn
abbrev pub funs_in : {A : Type 0} → List (Part A) → List (Node ExprKind)
funs_in [] = []
funs_in (p ∷ ps) = p.funs ++ funs_in ps

abbrev pub funs_in_choices : List Choice → List (Node ExprKind)
funs_in_choices [] = []
funs_in_choices (c ∷ cs) = c.funs ++ funs_in_choices cs

-- ---- rows of parts

-- the number behind those of a part's fun expressions
abbrev pub behind : ℕ → List (Node ExprKind) → ℕ
behind number funs = number + length funs

-- parts in turn, in one environment
abbrev pub run_all : {A : Type 0} → List (Part A) → ℕ → Environment → ℕ → Run (List A)
run_all [] number environment steps = gives [] steps
run_all (p ∷ ps) number environment steps = then (p.run number environment steps) (λ a left. then (run_all ps (behind number p.funs) environment left) (λ more rest. gives (a ∷ more) rest))

-- a body: its elements in turn, and the value of the last
abbrev pub run_body : List (Part (Value × Environment)) → ℕ → Environment → ℕ → Run Value
run_body [] number environment steps = goes_wrong steps
run_body (p ∷ []) number environment steps = then (p.run number environment steps) (λ r left. gives r.0 left)
run_body (p ∷ q ∷ qs) number environment steps = then (p.run number environment steps) (λ r left. run_body (q ∷ qs) (behind number p.funs) r.1 left)

-- ---- clauses

-- an environment in which the guard is true
abbrev pub allowed : Choice → Option Environment → Option Environment
allowed c None = None
allowed c (Some environment) = cond (c.allows environment) (Some environment) None

-- what a clause binds where it takes the values. A variable that is bound already has to have the same value
abbrev pub taken : Choice → List Value → Environment → Option Environment
taken c vs environment = allowed c (c.matches vs environment)

-- bindings of their own, in place of those of the same names
abbrev pub anew : Option Environment → Environment → Option Environment
anew None environment = None
anew (Some own) environment = Some (shadowed_by own environment)

-- the same of a clause of a function or a fun, whose patterns bind each variable anew
abbrev pub taken_anew : Choice → List Value → Environment → Option Environment
taken_anew c vs environment = allowed c (anew (c.matches vs no_bindings) environment)

-- one choice, and where there is none, the other
abbrev pub or_else : {A : Type 0} → Option A → A → A
or_else None other = other
or_else (Some a) other = a

-- the body of a clause that takes the values
abbrev pub run_taken : Choice → Option Environment → ℕ → ℕ → Option (Run Value)
run_taken c None number steps = None
run_taken c (Some environment) number steps = Some (c.run number environment steps)

-- the first clause that takes the values; where none does, it goes wrong
abbrev pub run_clauses : (Choice → List Value → Environment → Option Environment) → List Choice → ℕ → Environment → List Value → ℕ → Run Value
run_clauses takes [] number environment vs steps = goes_wrong steps
run_clauses takes (c ∷ cs) number environment vs steps = or_else (run_taken c (takes c vs environment) number steps) (run_clauses takes cs (behind number c.funs) environment vs steps)

-- ---- guards

-- a test is true where the expression gives `true`; one that leaves a domain or raises isn't. A guard applies no function, so a test is run without steps
abbrev pub is_true : Outcome Value → Bool
is_true (came v) = or_else (truth_of v) false
is_true _ = false

abbrev pub test_holds : Environment → Node (ExprKind × Does) → Bool
test_holds environment e = is_true (((part e).run 0 environment 0).outcome)

-- a guard is true where all tests of some alternative are; one that is left out is true
abbrev pub guard_holds : Option (Node (List (List (Node (ExprKind × Does))))) → Environment → Bool
guard_holds None environment = true
guard_holds (Some g) environment = list_any (λ tests. list_all (test_holds environment) tests) g.kind

-- ---- try

-- the name of a class of exceptions
abbrev pub class_name : Class → Value
class_name error = atom (codes "error")
class_name exit = atom (codes "exit")
class_name throw = atom (codes "throw")

-- the body came to a value: the clauses of the `of` part, and without one the value
abbrev pub run_of : List Choice → ℕ → Environment → Value → ℕ → Run Value
run_of [] number environment v steps = gives v steps
run_of (c ∷ cs) number environment v steps = run_clauses taken (c ∷ cs) number environment (v ∷ []) steps

-- the first clause of the `catch` part that takes the class and the value; where none does, the exception goes on
abbrev pub run_catches : List Choice → ℕ → Environment → Class → Value → ℕ → Run Value
run_catches [] number environment class v steps = ends (raised class v) steps
run_catches (c ∷ cs) number environment class v steps = or_else (run_taken c (taken c (class_name class ∷ v ∷ []) environment) number steps) (run_catches cs (behind number c.funs) environment class v steps)

-- what follows the body: an exception of the body alone is caught
abbrev pub run_rest : List Choice → List Choice → ℕ → Environment → Outcome Value → ℕ → Run Value
run_rest of_clauses catches number environment (came v) steps = run_of of_clauses number environment v steps
run_rest of_clauses catches number environment (raised class v) steps = run_catches catches (behind number (funs_in_choices of_clauses)) environment class v steps
run_rest of_clauses catches number environment wrong steps = goes_wrong steps
run_rest of_clauses catches number environment going steps = still_going steps

-- the `after` part is run behind a value and behind an exception; its own value is dropped, and where it gives none, the whole ends as it does
abbrev pub run_after : Option (List (Part (Value × Environment))) → ℕ → Environment → Outcome Value → ℕ → Run Value
run_after None number environment outcome steps = ends outcome steps
run_after (Some items) number environment (came v) steps = then (run_body items number environment steps) (λ w left. gives v left)
run_after (Some items) number environment (raised class v) steps = then (run_body items number environment steps) (λ w left. ends (raised class v) left)
run_after (Some items) number environment wrong steps = goes_wrong steps
run_after (Some items) number environment going steps = still_going steps

-- a run, and what comes next however it ends, with the calls of both
unfoldable pub finally : Run Value → (Outcome Value → ℕ → Run Value) → Run Value
finally run next = with_calls run.calls (next run.outcome run.left)

-- elements of a body that may be left out
abbrev pub optional : Option (List (Node (ItemKind × Part (Value × Environment)))) → Option (List (Part (Value × Environment)))
optional None = None
optional (Some ns) = Some (all_of ns)

abbrev pub funs_in_optional : Option (List (Part (Value × Environment))) → List (Node ExprKind)
funs_in_optional None = []
funs_in_optional (Some ps) = funs_in ps

-- the whole of a `try`: its body, what follows it, and the `after` part
abbrev pub run_try : List (Part (Value × Environment)) → List Choice → List Choice → Option (List (Part (Value × Environment))) → ℕ → Environment → ℕ → Run Value
run_try body of_clauses catches after number environment steps =
    finally (finally (run_body body number environment steps) (run_rest of_clauses catches (behind number (funs_in body)) environment))
    (run_after after (behind (behind (behind number (funs_in body)) (funs_in_choices of_clauses)) (funs_in_choices catches)) environment)

-- ---- comprehensions

-- what is run for each of some things, in turn, with all results
abbrev pub run_each : {A : Type 0} → (A → ℕ → Run (List Value)) → List A → ℕ → Run (List Value)
run_each run [] steps = gives [] steps
run_each run (x ∷ xs) steps = then (run x steps) (λ vs left. then (run_each run xs left) (λ ws rest. gives (vs ++ ws) rest))

-- the values of the head, for each way through the qualifiers. A qualifier gives the environments with which those behind it are run
abbrev pub run_qualifiers : List (Part (List Environment)) → (Environment → ℕ → Run Value) → ℕ → Environment → ℕ → Run (List Value)
run_qualifiers [] head number environment steps = then (head environment steps) (λ v left. gives (v ∷ []) left)
run_qualifiers (q ∷ qs) head number environment steps = then (q.run number environment steps) (λ environments left. run_each (λ e rest. run_qualifiers qs head (behind number q.funs) e rest) environments left)

-- the environment, where a filter lets it pass
abbrev pub passing : Bool → Environment → List Environment
passing true environment = environment ∷ []
passing false environment = []

-- a filter that is no guard expression has to give a truth value
abbrev pub passing_truth : Option Bool → Environment → ℕ → Run (List Environment)
passing_truth None environment steps = goes_wrong steps
passing_truth (Some b) environment steps = gives (passing b environment) steps

-- a filter: a guard expression is a guard
abbrev pub run_filter : Bool → Node (ExprKind × Does) → ℕ → Environment → ℕ → Run (List Environment)
run_filter true e number environment steps = gives (passing (test_holds environment e) environment) steps
run_filter false e number environment steps = then ((part e).run number environment steps) (λ v left. passing_truth (truth_of v) environment left)

-- whether an expression may stand in a guard
abbrev pub is_guard : Node (ExprKind × Does) → Bool
is_guard e = is_none (misfit (record { place = e.place; marks = e.marks; kind = e.kind.0 }))

-- ---- records

-- the names and the values of given fields
abbrev pub paired : List Name → List Value → List (Name × Value)
paired (n ∷ ns) (v ∷ vs) = (n, v) ∷ paired ns vs
paired _ _ = []

-- a tuple with a tag in front of these elements
abbrev pub tagged : Name → Option (List Value) → Option Value
tagged tag None = None
tagged tag (Some vs) = Some (tuple (values_of (atom tag ∷ vs)))

-- a new record, where it is declared and has these fields
abbrev pub new_record : Option RecDefKind → Name → List Name → List Value → Option Value
new_record None tag names vs = None
new_record (Some r) tag names vs = cond (have_fields (fields_of r) names) (tagged tag (new_values (fields_of r) (paired names vs))) None

-- the elements of a tuple with some replaced, where there are any
abbrev pub changed_elements : RecDefKind → List (Name × Value) → Option (List Value) → Option (List Value)
changed_elements r given None = None
changed_elements r given (Some vs) = changed_values (fields_of r) given vs

-- a changed record, where the value is a tuple of it
abbrev pub changed_record : Option RecDefKind → Name → Value → List Name → List Value → Option Value
changed_record None tag v names vs = None
changed_record (Some r) tag v names vs = cond (have_fields (fields_of r) names) (tagged tag (changed_elements r (paired names vs) (record_values r tag v))) None

-- a field of these elements, where there are any
abbrev pub field_among : RecDefKind → Option (List Value) → Name → Option Value
field_among r None field = None
field_among r (Some vs) field = field_value (fields_of r) vs field

-- a field of a record, where the value is a tuple of it
abbrev pub field_of : Option RecDefKind → Name → Value → Name → Option Value
field_of None tag v field = None
field_of (Some r) tag v field = field_among r (record_values r tag v) field

-- the names of given fields, and their expressions
abbrev pub names_of : {B : Type 0} → List (Node (Name × B)) → List Name
names_of fs = map (λ f. f.kind.0) fs

abbrev pub field_parts : List (Node (Name × Node (ExprKind × Does))) → List (Part Value)
field_parts fs = map (λ f. part f.kind.1) fs

-- ---- expressions

-- the operand on the left of `andalso` and `orelse` decides, or the right is run; it is any value
abbrev pub decided : Bool → Option Bool → (ℕ → Run Value) → ℕ → Run Value
decided stops None right steps = goes_wrong steps
decided true (Some true) right steps = gives (boolean true) steps
decided true (Some false) right steps = right steps
decided false (Some true) right steps = right steps
decided false (Some false) right steps = gives (boolean false) steps

-- an operator, given what its operand on the left came to and how its operand on the right is run
abbrev pub run_operator : BinaryOp → Value → (ℕ → Run Value) → ℕ → Run Value
run_operator Andalso v right steps = decided false (truth_of v) right steps
run_operator Orelse v right steps = decided true (truth_of v) right steps
run_operator op v right steps = then (right steps) (λ w left. ends (operate op v w) left)

-- the number of parameters that a text writes
abbrev pub as_number : ℤ → ℕ
as_number (pos n) = n
as_number (negsuc n) = 0

-- a call of a built-in function ends at once; with a prefix there is no other, and what isn't built in is unbound
abbrev pub run_call : Outcome Value → Option Name → Option (Outcome Value) → (ℕ → Run Value) → ℕ → Run Value
run_call unbound prefix (Some outcome) other steps = ends outcome steps
run_call unbound None None other steps = other steps
run_call unbound (Some prefix) None other steps = ends unbound steps

-- what stands in a node that is no fun expression
abbrev pub plain : List (Node ExprKind) → (ℕ → Environment → ℕ → Run Value) → Does
plain inner run = record { inner = inner; run = run; enter = λ number environment vs steps. goes_wrong steps }

-- a value that the text writes
abbrev pub literal : Value → Does
literal v = plain [] (λ number environment steps. gives v steps)

-- the tail of a list: the empty list where there is none
abbrev pub tail_part : Option (Node (ExprKind × Does)) → Part Value
tail_part None = record { funs = []; run = λ number environment steps. gives nil steps }
tail_part (Some t) = part t

-- what one level of each kind of node holds: what the parts do, each beside its tree
abbrev pub Beside : ((A B C D F G : Type 0) → Type 0) → Type 0
Beside layer = layer (ExprKind × Does) (ItemKind × Part (Value × Environment)) (QualifierKind × Part (List Environment)) (AssocKind × Part Association) (CatchKind × Choice) (ClauseKind × Choice)

module _ (unbound : Outcome Value) (records : List RecDefKind) (arity : Value → ℕ) (apply : Applies) where
  -- one level of an expression
  abbrev pub run_layer : Beside E.ExprKind-F → Does
  run_layer (E.Atom a) = literal (atom a)
  run_layer (E.Int n) = literal (integer n)
  run_layer (E.Char c) = literal (integer (pos c))
  run_layer (E.Str s) = literal (string_value s)
  run_layer (E.Var x) = plain [] (λ number environment steps. ends (meaning unbound (variable_value environment x)) steps)
  run_layer (E.Paren e) = plain (part e).funs (part e).run
  run_layer (E.Tuple es) = plain (funs_in (parts es)) (λ number environment steps. then (run_all (parts es) number environment steps) (λ vs left. gives (tuple (values_of vs)) left))
  run_layer (E.Cells es tail) = plain (funs_in (parts es) ++ (tail_part tail).funs)
      (λ number environment steps. then (run_all (parts es) number environment steps) (λ vs left. then ((tail_part tail).run (behind number (funs_in (parts es))) environment left) (λ v rest. gives (list_with vs v) rest)))
  run_layer (E.Comp e qualifiers) = plain ((part e).funs ++ funs_in (all_of qualifiers))
      (λ number environment steps. then (run_qualifiers (all_of qualifiers) ((part e).run number) (behind number (part e).funs) environment steps) (λ vs left. gives (list_with vs nil) left))
  run_layer (E.Unary op e) = plain (part e).funs (λ number environment steps. then ((part e).run number environment steps) (λ v left. ends (operate_one op v) left))
  run_layer (E.Binary op a b) = plain ((part a).funs ++ (part b).funs)
      (λ number environment steps. then ((part a).run number environment steps) (λ v left. run_operator op v (λ rest. (part b).run (behind number (part a).funs) environment rest) left))
  run_layer (E.Call prefix name args) = plain (funs_in (parts args))
      (λ number environment steps. then (run_all (parts args) number environment steps) (λ vs left. run_call unbound prefix (built_in arity name vs) (λ rest. apply (named_fun name (length vs)) vs rest) left))
  run_layer (E.Apply f args) = plain ((part f).funs ++ funs_in (parts args))
      (λ number environment steps. then ((part f).run number environment steps) (λ v left. then (run_all (parts args) (behind number (part f).funs) environment left) (λ vs rest. apply v vs rest)))
  run_layer (E.MapNew assocs) = plain (funs_in (all_of assocs))
      (λ number environment steps. then (run_all (all_of assocs) number environment steps) (λ changes left. ends (change_map (map_of no_entries) changes) left))
  run_layer (E.MapChange e assocs) = plain ((part e).funs ++ funs_in (all_of assocs))
      (λ number environment steps. then ((part e).run number environment steps) (λ v left. then (run_all (all_of assocs) (behind number (part e).funs) environment left) (λ changes rest. ends (change_map v changes) rest)))
  run_layer (E.RecNew name tag fields) = plain (funs_in (field_parts fields))
      (λ number environment steps. then (run_all (field_parts fields) number environment steps) (λ vs left. gives_found (new_record (find_record records name) tag (names_of fields) vs) left))
  run_layer (E.RecChange e name tag fields) = plain ((part e).funs ++ funs_in (field_parts fields))
      (λ number environment steps. then ((part e).run number environment steps) (λ v left. then (run_all (field_parts fields) (behind number (part e).funs) environment left) (λ vs rest. gives_found (changed_record (find_record records name) tag v (names_of fields) vs) rest)))
  run_layer (E.RecGet e name tag field) = plain (part e).funs (λ number environment steps. then ((part e).run number environment steps) (λ v left. gives_found (field_of (find_record records name) tag v field) left))
  run_layer (E.Begin items) = plain (funs_in (all_of items)) (run_body (all_of items))
  run_layer (E.Case e clauses) = plain ((part e).funs ++ funs_in_choices (all_of clauses))
      (λ number environment steps. then ((part e).run number environment steps) (λ v left. run_clauses taken (all_of clauses) (behind number (part e).funs) environment (v ∷ []) left))
  run_layer (E.If clauses) = plain (funs_in_choices (all_of clauses)) (λ number environment steps. run_clauses taken (all_of clauses) number environment [] steps)
  run_layer (E.FunName name n) = literal (named_fun name (as_number n))
  run_layer (E.Fun clauses) = record {
    inner = funs_in_choices (all_of clauses);
    run = λ number environment steps. gives (closure number environment) steps;
    enter = λ number environment vs steps. run_clauses taken_anew (all_of clauses) number environment vs steps;
  }
  run_layer (E.Try body of_clauses catches after) = plain (funs_in (all_of body) ++ (funs_in_choices (all_of of_clauses) ++ (funs_in_choices (all_of catches) ++ funs_in_optional (optional after))))
      (run_try (all_of body) (all_of of_clauses) (all_of catches) (optional after))

  -- the environment behind a match; where the value doesn't match, it goes wrong
  abbrev pub matched : Option Environment → Value → ℕ → Run (Value × Environment)
  matched None v steps = goes_wrong steps
  matched (Some environment) v steps = gives (v, environment) steps

  -- one level of an element of a body: an expression, or a match, whose value is that of its right side
  abbrev pub run_item_layer : Beside E.ItemKind-F → Part (Value × Environment)
  run_item_layer (E.Value e) = record { funs = (part e).funs; run = λ number environment steps. then ((part e).run number environment steps) (λ v left. gives (v, environment) left) }
  run_item_layer (E.Match p e) = record { funs = (part e).funs; run = λ number environment steps. then ((part e).run number environment steps) (λ v left. matched (match_pattern records p v environment) v left) }

  -- the environments in which elements match, in turn; an element that doesn't is passed over. The pattern's variables are bound anew
  abbrev pub front : Option Environment → List Environment → List Environment
  front None environments = environments
  front (Some environment) environments = environment ∷ environments

  abbrev pub environments_of : Node PatternKind → List Value → Environment → List Environment
  environments_of p [] environment = []
  environments_of p (v ∷ vs) environment = front (anew (match_pattern records p v no_bindings) environment) (environments_of p vs environment)

  -- a generator needs a proper list
  abbrev pub generated : Node PatternKind → Option (List Value) → Environment → ℕ → Run (List Environment)
  generated p None environment steps = goes_wrong steps
  generated p (Some vs) environment steps = gives (environments_of p vs environment) steps

  -- one level of a qualifier
  abbrev pub run_qualifier_layer : Beside E.QualifierKind-F → Part (List Environment)
  run_qualifier_layer (E.Generator p e) = record { funs = (part e).funs; run = λ number environment steps. then ((part e).run number environment steps) (λ v left. generated p (elements_of v) environment left) }
  run_qualifier_layer (E.Filter e) = record { funs = (part e).funs; run = run_filter (is_guard e) e }

  -- one level of an association: its key, then its value
  abbrev pub run_assoc_layer : Beside E.AssocKind-F → Part Association
  run_assoc_layer a = record {
    funs = (part a.key).funs ++ (part a.value).funs;
    run = λ number environment steps. then ((part a.key).run number environment steps) (λ k left. then ((part a.value).run (behind number (part a.key).funs) environment left) (λ v rest. gives (record { exact = a.exact; key = k; value = v }) rest));
  }

  -- one level of a clause; the guards of well-formed trees have no fun expressions
  abbrev pub run_clause_layer : Beside E.ClauseKind-F → Choice
  run_clause_layer c = record { funs = funs_in (all_of c.body); matches = match_patterns records c.patterns; allows = guard_holds c.guard; run = run_body (all_of c.body) }

  -- the class of an exception; one that is left out is `throw`
  abbrev pub match_class : Option (Node PatternKind) → Value → Environment → Option Environment
  match_class None class environment = match_value (class_name throw) class environment
  match_class (Some p) class environment = match_pattern records p class environment

  -- the class, then the rest
  abbrev pub match_caught : Option (Node PatternKind) → Choice → List Value → Environment → Option Environment
  match_caught class c [] environment = None
  match_caught class c (v ∷ vs) environment = match_next (match_class class v environment) (c.matches vs)

  -- one level of a clause of a `catch` part
  abbrev pub run_catch_layer : Beside E.CatchKind-F → Choice
  run_catch_layer c = record { funs = (of c.clause).funs; matches = match_caught c.class (of c.clause); allows = (of c.clause).allows; run = (of c.clause).run }

  -- what stands in an expression's node
  unfoldable pub run_kind : ExprKind → Does
  run_kind e = para-ExprKind Does (Part (Value × Environment)) (Part (List Environment)) (Part Association) Choice Choice run_layer run_item_layer run_qualifier_layer run_assoc_layer run_catch_layer run_clause_layer e

  -- what stands in a clause's node
  unfoldable pub choice_kind : ClauseKind → Choice
  choice_kind c = para-ClauseKind Does (Part (Value × Environment)) (Part (List Environment)) (Part Association) Choice Choice run_layer run_item_layer run_qualifier_layer run_assoc_layer run_catch_layer run_clause_layer c

  -- the clauses of a function
  abbrev pub choices : List (Node ClauseKind) → List Choice
  choices cs = map (λ c. choice_kind c.kind) cs

-- ---- programs

-- what is run: the records of a module, its functions, each with the number of the first fun expression in it, and the fun expressions by their numbers; and what an unbound name gives: a variable without a value, a function that is absent, behind `erlang:` a built-in one. In the runs that the headline speaks of (`code_of`) it goes wrong; it is a parameter so that a law can say of which runs it makes no difference. A record that is absent, or a field, goes wrong in any case
pub record Code : Type 0 where
  pub unbound : Outcome Value
  pub records : List RecDefKind
  pub functions : List (Function × ℕ)
  pub funs : List (Node ExprKind)

-- nothing is applied
abbrev pub applies_nothing : Applies
applies_nothing v args steps = still_going steps

-- the fun expressions in a function, in text order
abbrev pub funs_in_function : Function → List (Node ExprKind)
funs_in_function f = funs_in_choices (choices wrong [] (λ v. 0) applies_nothing f.clauses)

-- the fun expressions in functions in turn
abbrev pub funs_in_functions : List Function → List (Node ExprKind)
funs_in_functions [] = []
funs_in_functions (f ∷ fs) = funs_in_function f ++ funs_in_functions fs

-- an outside fun expression, and the fun expressions inside it
abbrev pub funs_with : Node ExprKind → List (Node ExprKind)
funs_with e = e ∷ (run_kind wrong [] (λ v. 0) applies_nothing e.kind).inner

abbrev pub outside_funs : List (Node ExprKind) → List (Node ExprKind)
outside_funs [] = []
outside_funs (e ∷ es) = funs_with e ++ outside_funs es

-- functions with the numbers of the first fun expressions in them
abbrev pub numbered : List Function → ℕ → List (Function × ℕ)
numbered [] number = []
numbered (f ∷ fs) number = (f, number) ∷ numbered fs (behind number (funs_in_function f))

-- a module's code with outside fun expressions, in which an unbound name gives this: the fun expressions in the module's functions come first, in text order, and then each outside one with those inside it. The defaults of records have none in the profile
abbrev pub code_with : Outcome Value → Module → List (Node ExprKind) → Code
code_with unbound m outside = record { unbound = unbound; records = records_of m; functions = numbered (functions_of m) 0; funs = funs_in_functions (functions_of m) ++ outside_funs outside }

-- the same, in which an unbound name goes wrong
abbrev pub code_of : Module → List (Node ExprKind) → Code
code_of m outside = code_with wrong m outside

-- the first function with this name and arity
abbrev pub find_numbered : List (Function × ℕ) → Name → ℕ → Option (Function × ℕ)
find_numbered [] name arity = None
find_numbered (f ∷ fs) name arity = cond (same_name f.0.name name && nat_eq (clauses_arity f.0.clauses) arity) (Some f) (find_numbered fs name arity)

-- the number of parameters of a fun expression
abbrev pub fun_layer_arity : E.ExprKind-F ExprKind ItemKind QualifierKind AssocKind CatchKind ClauseKind → ℕ
fun_layer_arity (E.Fun clauses) = clauses_arity clauses
fun_layer_arity _ = 0

-- the arity of the code of a closure, 0 where there is none
abbrev pub fun_arity : Option (Node ExprKind) → ℕ
fun_arity None = 0
fun_arity (Some e) = fun_layer_arity (out-ExprKind e.kind)

-- the arity of a fun
abbrev pub arity_of : Code → Value → ℕ
arity_of code (named_fun name arity) = arity
arity_of code (closure number environment) = fun_arity (slice_get code.funs number)
arity_of code _ = 0

-- a function that is absent is unbound
abbrev pub run_function : Code → Applies → Option (Function × ℕ) → List Value → ℕ → Run Value
run_function code apply None args steps = ends code.unbound steps
run_function code apply (Some f) args steps = run_clauses taken_anew (choices code.unbound code.records (arity_of code) apply f.0.clauses) f.1 no_bindings args steps

-- a fun expression that is absent goes wrong; the fun expressions inside it have the numbers behind its own
abbrev pub run_closure : Code → Applies → Option (Node ExprKind) → ℕ → Environment → List Value → ℕ → Run Value
run_closure code apply None number environment args steps = goes_wrong steps
run_closure code apply (Some e) number environment args steps = (run_kind code.unbound code.records (arity_of code) apply e.kind).enter (suc number) environment args steps

-- A named fun lists its call, with its arguments and the steps left for it, and runs its function; with another number of arguments it goes wrong. A closure runs its fun expression in its environment. What is no fun goes wrong
abbrev pub enter : Code → Applies → Value → List Value → ℕ → Run Value
enter code apply (named_fun name arity) args steps =
    with_calls (record { name = name; args = args; left = steps } ∷ []) (cond (nat_eq arity (length args)) (run_function code apply (find_numbered code.functions name arity) args steps) (goes_wrong steps))
enter code apply (closure number environment) args steps = run_closure code apply (slice_get code.funs number) number environment args steps
enter code apply _ args steps = goes_wrong steps

-- An application takes one step; without one it is still going. Applications stand in one another at most as deep as the bound says, and no run is cut off by a bound that is at least the number of steps.
unfoldable pub apply_within : Code → (bound : ℕ) → Applies
apply_within code bound f args zero = still_going zero
apply_within code zero f args (suc steps) = still_going zero
apply_within code (suc bound) f args (suc steps) = enter code (apply_within code bound) f args steps

-- what applying a value to arguments does with so many steps
abbrev pub apply : Code → Applies
apply code f args steps = apply_within code steps f args steps

-- what an expression gives, whose first fun expression has this number
abbrev pub run_expression : Code → Applies → Node ExprKind → ℕ → Environment → ℕ → Run Value
run_expression code apply e number environment steps = (run_kind code.unbound code.records (arity_of code) apply e.kind).run number environment steps

-- the code, with the specs of its functions and the definitions that they are written over
abbrev pub program_of : Code → List FunSpec → List Def → Program
program_of code specs defs = record { apply = apply code; arity = arity_of code; specs = specs; defs = defs }
