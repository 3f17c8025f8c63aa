-- The variables that stand in a module, and which of them sees which (Erlang Reference Manual, "Expressions", on variables, "Fun Expressions", "List Comprehensions", "Match Operator", "Case", "If", "Try" and "Block Expressions"). That a variable is neither used nor bound behind a construct inside which its name is bound, and that what stands behind is told by the places in the text, is this project's own.
use Rattle.std.specs.Prelude.{List, [], ◌∷◌, ◌++◌, map, Option, Some, None, Bool, true, if◌then◌else◌, cond}
use Rattle.std.specs.List.{list_any}
use Rattle.type_terms.specs.Keys.{Name, same_name}
use Rattle.erl_tree.specs.declared.token.Place.{Place}
use Rattle.erl_tree.specs.declared.token.Node.{Node}
use Rattle.erl_tree.specs.declared.pattern.PatternKind.{PatternKind, fold-PatternKind}
use Rattle.erl_tree.specs.declared.pattern.PatternKind.TheOpen as P
use Rattle.erl_tree.specs.declared.expr.ExprKind.{ExprKind, fold-ExprKind}
use Rattle.erl_tree.specs.declared.expr.ItemKind.{ItemKind, fold-ItemKind}
use Rattle.erl_tree.specs.declared.expr.QualifierKind.{QualifierKind, fold-QualifierKind}
use Rattle.erl_tree.specs.declared.expr.AssocKind.{AssocKind, fold-AssocKind}
use Rattle.erl_tree.specs.declared.expr.CatchKind.{CatchKind, fold-CatchKind}
use Rattle.erl_tree.specs.declared.expr.ClauseKind.{ClauseKind, fold-ClauseKind}
use Rattle.erl_tree.specs.declared.expr.ExprKind.TheOpen as E
use Rattle.erl_tree.specs.declared.form.Function.{Function}
use Rattle.erl_tree.specs.declared.form.RecFieldKind.{RecFieldKind}
use Rattle.erl_tree.specs.declared.form.TreeForm.{TreeForm}
use Rattle.erl_tree.specs.declared.form.TreeForm.TheVariants as F
use Rattle.erl_tree.specs.declared.form.Module.{Module}
use Rattle.erl_runs.specs.Names.{is_wildcard}
use Rattle.erl_scope_rules.specs.declared.role.Role.{Role}
use Rattle.erl_scope_rules.specs.declared.role.Role.TheVariants.{Used, Met, Renewed}

-- a variable where it stands
pub record Mark : Type 0 where
  pub name : Name
  pub place : Place
  pub role : Role

-- the names of variables
abbrev pub names_of : List Mark → List Name
names_of marks = map (λ m. m.name) marks

-- a variable where it stands, with the variables of patterns that it sees, the innermost first, and the names of those that it doesn't see and that stand inside a construct that ended before it, or in the body of a `try` of which it stands in another part
pub record Occurrence : Type 0 where
  pub mark : Mark
  pub sees : List Mark
  pub ended : List Name

-- a part of a tree: the occurrences in it, in text order, and the names of the variables of patterns inside its constructs, which what stands behind it doesn't see
pub record Part : Type 0 where
  pub occurrences : List Occurrence
  pub left : List Name

-- a part without variables
abbrev pub no_part : Part
no_part = record { occurrences = []; left = [] }

-- what also sees these variables, behind those that it sees already
abbrev pub seeing : List Mark → List Occurrence → List Occurrence
seeing marks occurrences = map (λ o. record { mark = o.mark; sees = o.sees ++ marks; ended = o.ended }) occurrences

-- what stands behind constructs that ended, with variables of these names inside
abbrev pub behind : List Name → List Occurrence → List Occurrence
behind names occurrences = map (λ o. record { mark = o.mark; sees = o.sees; ended = o.ended ++ names }) occurrences

-- parts in turn, in text order: each stands behind the constructs in those before it
abbrev pub in_turn : List Part → Part
in_turn [] = no_part
in_turn (p ∷ ps) = record { occurrences = p.occurrences ++ behind p.left (in_turn ps).occurrences; left = (in_turn ps).left ++ p.left }

-- parts of which none sees another's variables, nor stands behind another
abbrev pub side_by_side : List Part → Part
side_by_side [] = no_part
side_by_side (p ∷ ps) = record { occurrences = p.occurrences ++ (side_by_side ps).occurrences; left = (side_by_side ps).left ++ p.left }

-- a part whose variables end with it: what stands behind it neither sees them nor counts them as ended
abbrev pub closed : Part → Part
closed p = record { occurrences = p.occurrences; left = [] }

-- what stands in a part, where there is one
abbrev pub optional : {A : Type 0} → (A → Part) → Option A → Part
optional of None = no_part
optional of (Some a) = of a

-- ---- patterns

-- the variables of a pattern that stands at a place; the wildcard is none
abbrev pub Variables : Type 0
Variables = Place → List (Name × Place)

abbrev pub variables_of_each : {A : Type 0} → (A → List (Name × Place)) → List A → List (Name × Place)
variables_of_each of [] = []
variables_of_each of (x ∷ xs) = of x ++ variables_of_each of xs

abbrev pub variables_of_node : Node Variables → List (Name × Place)
variables_of_node n = n.kind n.place

abbrev pub variables_of_optional : Option (Node Variables) → List (Name × Place)
variables_of_optional None = []
variables_of_optional (Some n) = variables_of_node n

-- one level of a pattern, in text order
abbrev pub variables_layer : P.PatternKind-F Variables → Variables
variables_layer (P.Var x) place = if is_wildcard x then [] else (x, place) ∷ []
variables_layer (P.Paren p) place = variables_of_node p
variables_layer (P.Tuple ps) place = variables_of_each variables_of_node ps
variables_layer (P.Cells ps tail) place = variables_of_each variables_of_node ps ++ variables_of_optional tail
variables_layer (P.Map entries) place = variables_of_each (λ e. variables_of_node e.kind.1) entries
variables_layer (P.Rec name tag fields) place = variables_of_each (λ f. variables_of_node f.kind.1) fields
variables_layer (P.Alias p q) place = variables_of_node p ++ variables_of_node q
variables_layer _ place = []

unfoldable pub pattern_kind_variables : PatternKind → Variables
pattern_kind_variables p = fold-PatternKind Variables variables_layer p

abbrev pub variables_of : Node PatternKind → List (Name × Place)
variables_of p = pattern_kind_variables p.kind p.place

-- the variables of a row of patterns
abbrev pub row_variables : List (Node PatternKind) → List (Name × Place)
row_variables ps = variables_of_each variables_of ps

-- whether one of these variables has the name
abbrev pub is_named_among : Name → List Mark → Bool
is_named_among x marks = list_any (λ m. same_name m.name x) marks

-- a variable of a row, where these stand before it: in a row that binds anew, a name that stands there already is met again
abbrev pub role_behind : Role → Bool → Role
role_behind Renewed true = Met
role_behind role again = role

abbrev pub mark_behind : Role → List Mark → Name × Place → Mark
mark_behind role before v = record { name = v.0; place = v.1; role = role_behind role (is_named_among v.0 before) }

-- a row of variables that stand behind others of it, given the latest first: each sees those before it
abbrev pub row_behind : Role → List Mark → List (Name × Place) → List Occurrence
row_behind role before [] = []
row_behind role before (v ∷ vs) = record { mark = mark_behind role before v; sees = before; ended = [] } ∷ row_behind role (mark_behind role before v ∷ before) vs

-- all variables of the row, the latest first
abbrev pub marks_behind : Role → List Mark → List (Name × Place) → List Mark
marks_behind role before [] = before
marks_behind role before (v ∷ vs) = marks_behind role (mark_behind role before v ∷ before) vs

-- a row of patterns whose variables stand in this role
abbrev pub row : Role → List (Node PatternKind) → List Occurrence
row role ps = row_behind role [] (row_variables ps)

-- what is seen of a row from what follows it
abbrev pub row_marks : Role → List (Node PatternKind) → List Mark
row_marks role ps = marks_behind role [] (row_variables ps)

-- ---- expressions

-- an expression at a place
abbrev pub Expression : Type 0
Expression = Place → Part

abbrev pub part : Node Expression → Part
part n = n.kind n.place

abbrev pub parts : List (Node Expression) → List Part
parts ns = map part ns

-- an element of a body, or a qualifier: the variables of its pattern, as they stand there and as they are seen from what follows, and its expression
pub record Step : Type 0 where
  pub pattern : List Occurrence
  pub binds : List Mark
  pub expression : Part

abbrev pub steps : List (Node Step) → List Step
steps ns = map (λ n. n.kind) ns

-- a clause, whose head has these patterns in front of its own, and in which they stand in this role
abbrev pub Clause : Type 0
Clause = Role → List (Node PatternKind) → Part

abbrev pub clauses : Role → List (Node Clause) → Part
clauses role ns = side_by_side (map (λ n. n.kind role []) ns)

-- a body: the occurrences in it, the variables of its own matches, and the names of those inside its constructs, the latest first
pub record Body : Type 0 where
  pub occurrences : List Occurrence
  pub binds : List Mark
  pub left : List Name

-- elements of a body: each sees the variables of the matches before it, and a match's own expression doesn't see its pattern's
abbrev pub body : List Step → Body
body [] = record { occurrences = []; binds = []; left = [] }
body (s ∷ ss) = record {
  occurrences = s.pattern ++ (s.expression.occurrences ++ behind s.expression.left (seeing s.binds (body ss).occurrences));
  binds = (body ss).binds ++ s.binds;
  left = (body ss).left ++ s.expression.left;
}

-- a body that stands by itself: its variables end with it
abbrev pub whole : Body → Part
whole b = record { occurrences = b.occurrences; left = names_of b.binds ++ b.left }

-- qualifiers: each sees the variables of the generators before it
abbrev pub qualifiers : List Step → List Occurrence
qualifiers [] = []
qualifiers (s ∷ ss) = s.pattern ++ (s.expression.occurrences ++ behind s.expression.left (seeing s.binds (qualifiers ss)))

-- the variables of all generators, the latest first
abbrev pub generated : List Step → List Mark
generated [] = []
generated (s ∷ ss) = generated ss ++ s.binds

-- the names that none of these variables has
abbrev pub unseen : List Mark → List Name → List Name
unseen marks [] = []
unseen marks (x ∷ xs) = cond (is_named_among x marks) (unseen marks xs) (x ∷ unseen marks xs)

-- a comprehension: its head stands first in the text and sees the variables of all generators, so that a construct in the head binds none of their names
abbrev pub comprehension : Part → List Step → Part
comprehension head ss = record { occurrences = seeing (generated ss) head.occurrences ++ behind (unseen (generated ss) head.left) (qualifiers ss); left = [] }

-- a use of a variable
abbrev pub use_at : Name → Place → Part
use_at x place = record { occurrences = record { mark = record { name = x; place = place; role = Used }; sees = []; ended = [] } ∷ []; left = [] }

-- the expressions of fields, and of associations
abbrev pub field_parts : List (Node (Name × Node Expression)) → List Part
field_parts fs = map (λ f. part f.kind.1) fs

abbrev pub assoc_parts : List (Node Part) → List Part
assoc_parts ns = map (λ n. n.kind) ns

-- one level of an expression: parts in turn, but for the constructs. What is bound in a fun or a comprehension ends with it and isn't left. The parts of a `try` behind its body stand side by side
abbrev pub expr_layer : E.ExprKind-F Expression Step Step Part Clause Clause → Expression
expr_layer (E.Var x) place = use_at x place
expr_layer (E.Paren e) place = part e
expr_layer (E.Tuple es) place = in_turn (parts es)
expr_layer (E.Cells es tail) place = in_turn (parts es ++ optional part tail ∷ [])
expr_layer (E.Comp e qs) place = comprehension (part e) (steps qs)
expr_layer (E.Unary op e) place = part e
expr_layer (E.Binary op a b) place = in_turn (part a ∷ part b ∷ [])
expr_layer (E.Call prefix name args) place = in_turn (parts args)
expr_layer (E.Apply f args) place = in_turn (part f ∷ parts args)
expr_layer (E.MapNew assocs) place = in_turn (assoc_parts assocs)
expr_layer (E.MapChange e assocs) place = in_turn (part e ∷ assoc_parts assocs)
expr_layer (E.RecNew name tag fields) place = in_turn (field_parts fields)
expr_layer (E.RecChange e name tag fields) place = in_turn (part e ∷ field_parts fields)
expr_layer (E.RecGet e name tag field) place = part e
expr_layer (E.Begin items) place = whole (body (steps items))
expr_layer (E.Case e cs) place = in_turn (part e ∷ clauses Met cs ∷ [])
expr_layer (E.If cs) place = clauses Met cs
expr_layer (E.Fun cs) place = closed (clauses Renewed cs)
expr_layer (E.Try is cs catches after) place = in_turn (whole (body (steps is)) ∷ side_by_side (clauses Met cs ∷ clauses Met catches ∷ optional (λ ns. whole (body (steps ns))) after ∷ []) ∷ [])
expr_layer _ place = no_part

-- one level of an element of a body
abbrev pub item_layer : E.ItemKind-F Expression Step Step Part Clause Clause → Step
item_layer (E.Value e) = record { pattern = []; binds = []; expression = part e }
item_layer (E.Match p e) = record { pattern = row Met (p ∷ []); binds = row_marks Met (p ∷ []); expression = part e }

-- one level of a qualifier
abbrev pub qualifier_layer : E.QualifierKind-F Expression Step Step Part Clause Clause → Step
qualifier_layer (E.Generator p e) = record { pattern = row Renewed (p ∷ []); binds = row_marks Renewed (p ∷ []); expression = part e }
qualifier_layer (E.Filter e) = record { pattern = []; binds = []; expression = part e }

-- one level of an association
abbrev pub assoc_layer : E.AssocKind-F Expression Step Step Part Clause Clause → Part
assoc_layer a = in_turn (part a.key ∷ part a.value ∷ [])

-- the tests of a guard
abbrev pub guard_part : Node (List (List (Node Expression))) → Part
guard_part g = in_turn (map (λ tests. in_turn (parts tests)) g.kind)

-- a clause: its guard and its body see the variables of its head
abbrev pub clause_from : List Occurrence → List Mark → Part → Body → Part
clause_from head marks guard b = record {
  occurrences = head ++ seeing marks (guard.occurrences ++ behind guard.left b.occurrences);
  left = names_of (b.binds ++ marks) ++ (b.left ++ guard.left);
}

-- one level of a clause
abbrev pub clause_layer : E.ClauseKind-F Expression Step Step Part Clause Clause → Clause
clause_layer c role front = clause_from (row role (front ++ c.patterns)) (row_marks role (front ++ c.patterns)) (optional guard_part c.guard) (body (steps c.body))

-- the patterns in front of a clause of a `catch` part: its class, where there is one
abbrev pub class_patterns : Option (Node PatternKind) → List (Node PatternKind)
class_patterns None = []
class_patterns (Some p) = p ∷ []

-- one level of a clause of a `catch` part: its class stands in one row with its pattern
abbrev pub catch_layer : E.CatchKind-F Expression Step Step Part Clause Clause → Clause
catch_layer c role front = c.clause.kind role (front ++ class_patterns c.class)

-- what stands in an expression's node
unfoldable pub expr_kind_part : ExprKind → Expression
expr_kind_part e = fold-ExprKind Expression Step Step Part Clause Clause expr_layer item_layer qualifier_layer assoc_layer catch_layer clause_layer e

-- what stands in a clause's node
unfoldable pub clause_kind_part : ClauseKind → Clause
clause_kind_part c = fold-ClauseKind Expression Step Step Part Clause Clause expr_layer item_layer qualifier_layer assoc_layer catch_layer clause_layer c

-- what stands in the node of an element of a body, of a qualifier, of an association and of a clause of a `catch` part
unfoldable pub item_kind_step : ItemKind → Step
item_kind_step i = fold-ItemKind Expression Step Step Part Clause Clause expr_layer item_layer qualifier_layer assoc_layer catch_layer clause_layer i

unfoldable pub qualifier_kind_step : QualifierKind → Step
qualifier_kind_step q = fold-QualifierKind Expression Step Step Part Clause Clause expr_layer item_layer qualifier_layer assoc_layer catch_layer clause_layer q

unfoldable pub assoc_kind_part : AssocKind → Part
assoc_kind_part a = fold-AssocKind Expression Step Step Part Clause Clause expr_layer item_layer qualifier_layer assoc_layer catch_layer clause_layer a

unfoldable pub catch_kind_clause : CatchKind → Clause
catch_kind_clause c = fold-CatchKind Expression Step Step Part Clause Clause expr_layer item_layer qualifier_layer assoc_layer catch_layer clause_layer c

-- a whole node
abbrev pub expr_part : Node ExprKind → Part
expr_part e = expr_kind_part e.kind e.place

abbrev pub item_step : Node ItemKind → Step
item_step i = item_kind_step i.kind

abbrev pub qualifier_step : Node QualifierKind → Step
qualifier_step q = qualifier_kind_step q.kind

abbrev pub assoc_part : Node AssocKind → Part
assoc_part a = assoc_kind_part a.kind

abbrev pub field_part : Node (Name × Node ExprKind) → Part
field_part f = expr_part f.kind.1

abbrev pub clause_part : Role → Node ClauseKind → Part
clause_part role c = clause_kind_part c.kind role []

abbrev pub catch_part : Role → Node CatchKind → Part
catch_part role c = catch_kind_clause c.kind role []

-- ---- modules

-- the occurrences in a function: its clauses stand side by side, and their heads see nothing, so that they bind each variable that they meet
abbrev pub function_occurrences : Function → List Occurrence
function_occurrences f = (side_by_side (map (λ c. clause_kind_part c.kind Met []) f.clauses)).occurrences

-- the default of a record's field; those of several fields stand side by side
abbrev pub default_part : Node RecFieldKind → Part
default_part f = optional (λ (e : Node ExprKind). expr_kind_part e.kind e.place) f.kind.default

abbrev pub form_occurrences : TreeForm → List Occurrence
form_occurrences (F.Function f) = function_occurrences f
form_occurrences (F.RecDef r) = (side_by_side (map default_part r.kind.fields)).occurrences
form_occurrences _ = []

abbrev pub forms_occurrences : List TreeForm → List Occurrence
forms_occurrences [] = []
forms_occurrences (form ∷ forms) = form_occurrences form ++ forms_occurrences forms

-- the occurrences of variables in a module, in text order
abbrev pub occurrences_of : Module → List Occurrence
occurrences_of m = forms_occurrences m.forms
