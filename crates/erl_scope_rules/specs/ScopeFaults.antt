-- What is wrong with the names of a module: with its variables, its functions, their specs, its records and their fields (Erlang Reference Manual, "Expressions", "Functions", "Modules", "Records", "Types and Function Specifications"). A function without a spec, a function that has the name and arity of a built-in one, and `fun f/n` and exports of a built-in function, are refused by this project's own rule.
use Rattle.std.specs.Prelude.{◌≡◌, ℕ, ℤ, pos, negsuc, List, [], ◌∷◌, ◌++◌, map, length, Option, Some, None, Bool, true, false, not, ◌&&◌, ◌||◌, cond, nat_eq, nat_lt}
use Rattle.std.specs.List.{list_any}
use Rattle.type_terms.specs.Keys.{Name, same_name}
use Rattle.erl_tree.specs.declared.token.Place.{Place}
use Rattle.erl_tree.specs.declared.token.Node.{Node}
use Rattle.erl_tree.specs.declared.pattern.PatternKind.{PatternKind, fold-PatternKind}
use Rattle.erl_tree.specs.declared.pattern.PatternKind.TheOpen as P
use Rattle.erl_tree.specs.declared.expr.ExprKind.{ExprKind, fold-ExprKind}
use Rattle.erl_tree.specs.declared.expr.ItemKind.{ItemKind, fold-ItemKind}
use Rattle.erl_tree.specs.declared.expr.QualifierKind.{QualifierKind, fold-QualifierKind}
use Rattle.erl_tree.specs.declared.expr.AssocKind.{AssocKind, fold-AssocKind}
use Rattle.erl_tree.specs.declared.expr.CatchKind.{CatchKind, fold-CatchKind}
use Rattle.erl_tree.specs.declared.expr.ClauseKind.{ClauseKind, fold-ClauseKind}
use Rattle.erl_tree.specs.declared.expr.ExprKind.TheOpen as E
use Rattle.erl_tree.specs.declared.form.Function.{Function}
use Rattle.erl_tree.specs.declared.form.RecDefKind.{RecDefKind}
use Rattle.erl_tree.specs.declared.form.RecFieldKind.{RecFieldKind}
use Rattle.erl_tree.specs.declared.form.TreeForm.{TreeForm}
use Rattle.erl_tree.specs.declared.form.TreeForm.TheVariants as F
use Rattle.erl_tree.specs.declared.form.Module.{Module}
use Rattle.erl_tree.specs.Lists.{Among, Every}
use Rattle.erl_tree.specs.Functions.{FunctionId, of_function, function_id, function_ids, spec_clauses_arity}
use Rattle.erl_runs.specs.Names.{same_id, is_built_in}
use Rattle.erl_runs.specs.Records.{find_record, fields_of, has_field, records_of}
use Rattle.erl_scope_rules.specs.declared.fault.NameFault.{NameFault}
use Rattle.erl_scope_rules.specs.declared.fault.NameFault.TheVariants.{Unbound, Unsafe, NoSuchFunction, TwoFunctions, NoSpec, NoSuchRecord, NoSuchField, Repeated, ArityDiffers}
use Rattle.erl_scope_rules.specs.declared.fault.PlacedFault.{PlacedFault}
use Rattle.erl_scope_rules.specs.declared.role.Role.{Role}
use Rattle.erl_scope_rules.specs.declared.role.Role.TheVariants.{Used, Met, Renewed}
use Rattle.erl_scope_rules.specs.Occurrences.{Mark, Occurrence, occurrences_of}
use Rattle.erl_scope_rules.specs.Bindings.{innermost}

-- a fault at a place
abbrev pub at : NameFault → Place → List PlacedFault
at fault place = record { place = place; fault = fault } ∷ []

-- one where it isn't so
abbrev pub unless : Bool → NameFault → Place → List PlacedFault
unless holds fault place = cond holds [] (at fault place)

-- the faults of each
abbrev pub faults_of_each : {A : Type 0} → (A → List PlacedFault) → List A → List PlacedFault
faults_of_each of [] = []
faults_of_each of (x ∷ xs) = of x ++ faults_of_each of xs

abbrev pub faults_of_optional : {A : Type 0} → (A → List PlacedFault) → Option A → List PlacedFault
faults_of_optional of None = []
faults_of_optional of (Some x) = of x

-- ---- variables

-- whether a name stands among names
abbrev pub stands_among : Name → List Name → Bool
stands_among x names = list_any (same_name x) names

-- the fault of an occurrence in this role, by the binding that it sees outside and by whether its name is among those that ended: what has no binding is unsafe or unbound, and a pattern may bind a name that isn't unsafe
abbrev pub role_fault : Role → Option Mark → Bool → Option NameFault
role_fault Renewed outer ended = None
role_fault role (Some b) ended = None
role_fault Used None true = Some Unsafe
role_fault Used None false = Some Unbound
role_fault Met None true = Some Unsafe
role_fault Met None false = None

abbrev pub fault_of : Occurrence → Option NameFault
fault_of o = role_fault o.mark.role (innermost o.mark.name o.sees) (stands_among o.mark.name o.ended)

abbrev pub occurrence_faults : Occurrence → List PlacedFault
occurrence_faults o = faults_of_optional (λ fault. at fault o.mark.place) (fault_of o)

-- ---- records

-- the fields of one record expression or pattern, behind fields with these names: one that the record hasn't, and one that stands there already
abbrev pub field_faults : Option RecDefKind → Name → List Name → Place → List PlacedFault
field_faults None x before place = unless (not (stands_among x before)) Repeated place
field_faults (Some r) x before place = unless (has_field (fields_of r) x) NoSuchField place ++ unless (not (stands_among x before)) Repeated place

abbrev pub fields_faults : {A : Type 0} → Option RecDefKind → List Name → List (Node (Name × A)) → List PlacedFault
fields_faults declared before [] = []
fields_faults declared before (f ∷ fs) = field_faults declared f.kind.0 before f.place ++ fields_faults declared (f.kind.0 ∷ before) fs

-- a record that isn't declared
abbrev pub declared_faults : Option RecDefKind → Place → List PlacedFault
declared_faults None place = at NoSuchRecord place
declared_faults (Some r) place = []

-- a field of a record that is declared
abbrev pub get_faults : Option RecDefKind → Name → Place → List PlacedFault
get_faults None x place = at NoSuchRecord place
get_faults (Some r) x place = unless (has_field (fields_of r) x) NoSuchField place

-- ---- parts of trees

-- a part that stands at a place
abbrev pub Faults : Type 0
Faults = Place → List PlacedFault

abbrev pub node_faults : Node Faults → List PlacedFault
node_faults n = n.kind n.place

-- a part whose place doesn't count
abbrev pub kind_faults : Node (List PlacedFault) → List PlacedFault
kind_faults n = n.kind

-- a clause: the number of its patterns, and its faults
pub record ClauseFaults : Type 0 where
  pub arity : ℕ
  pub faults : List PlacedFault

abbrev pub clause_faults : Node ClauseFaults → List PlacedFault
clause_faults n = n.kind.faults

-- clauses with another number of patterns than this
abbrev pub arities_differ : ℕ → List (Node ClauseFaults) → List PlacedFault
arities_differ arity [] = []
arities_differ arity (c ∷ cs) = unless (nat_eq c.kind.arity arity) ArityDiffers c.place ++ arities_differ arity cs

-- the clauses of a function or of a fun expression
abbrev pub clauses_faults : List (Node ClauseFaults) → List PlacedFault
clauses_faults [] = []
clauses_faults (c ∷ cs) = arities_differ c.kind.arity cs ++ faults_of_each clause_faults (c ∷ cs)

module _ (functions : List FunctionId) (records : List RecDefKind) where
  -- whether the module defines a function
  abbrev pub is_defined : FunctionId → Bool
  is_defined id = list_any (same_id id) functions

  -- the same of a name and an arity that a text writes
  abbrev pub is_defined_at : Name → ℤ → Bool
  is_defined_at name (pos n) = is_defined (of_function name n)
  is_defined_at name (negsuc n) = false

  -- a call: with a prefix, which is `erlang`, it is of a built-in function, and without one of these or of the module's
  abbrev pub call_faults : Option Name → FunctionId → Place → List PlacedFault
  call_faults None id place = unless (is_built_in id || is_defined id) NoSuchFunction place
  call_faults (Some prefix) id place = unless (is_built_in id) NoSuchFunction place

  -- one level of a pattern
  abbrev pub pattern_layer : P.PatternKind-F Faults → Faults
  pattern_layer (P.Paren p) place = node_faults p
  pattern_layer (P.Tuple ps) place = faults_of_each node_faults ps
  pattern_layer (P.Cells ps tail) place = faults_of_each node_faults ps ++ faults_of_optional node_faults tail
  pattern_layer (P.Map entries) place = faults_of_each (λ e. node_faults e.kind.1) entries
  pattern_layer (P.Rec name tag fields) place = declared_faults (find_record records name) place ++ (fields_faults (find_record records name) [] fields ++ faults_of_each (λ f. node_faults f.kind.1) fields)
  pattern_layer (P.Alias p q) place = node_faults p ++ node_faults q
  pattern_layer _ place = []

  unfoldable pub pattern_kind_faults : PatternKind → Faults
  pattern_kind_faults p = fold-PatternKind Faults pattern_layer p

  abbrev pub pattern_faults : Node PatternKind → List PlacedFault
  pattern_faults p = pattern_kind_faults p.kind p.place

  -- one level of an expression
  abbrev pub expr_layer : E.ExprKind-F Faults (List PlacedFault) (List PlacedFault) (List PlacedFault) (List PlacedFault) ClauseFaults → Faults
  expr_layer (E.Paren e) place = node_faults e
  expr_layer (E.Tuple es) place = faults_of_each node_faults es
  expr_layer (E.Cells es tail) place = faults_of_each node_faults es ++ faults_of_optional node_faults tail
  expr_layer (E.Comp e qs) place = node_faults e ++ faults_of_each kind_faults qs
  expr_layer (E.Unary op e) place = node_faults e
  expr_layer (E.Binary op a b) place = node_faults a ++ node_faults b
  expr_layer (E.Call prefix name args) place = call_faults prefix (of_function name (length args)) place ++ faults_of_each node_faults args
  expr_layer (E.Apply f args) place = node_faults f ++ faults_of_each node_faults args
  expr_layer (E.MapNew assocs) place = faults_of_each kind_faults assocs
  expr_layer (E.MapChange e assocs) place = node_faults e ++ faults_of_each kind_faults assocs
  expr_layer (E.RecNew name tag fields) place = declared_faults (find_record records name) place ++ (fields_faults (find_record records name) [] fields ++ faults_of_each (λ f. node_faults f.kind.1) fields)
  expr_layer (E.RecChange e name tag fields) place = node_faults e ++ (declared_faults (find_record records name) place ++ (fields_faults (find_record records name) [] fields ++ faults_of_each (λ f. node_faults f.kind.1) fields))
  expr_layer (E.RecGet e name tag field) place = node_faults e ++ get_faults (find_record records name) field place
  expr_layer (E.Begin items) place = faults_of_each kind_faults items
  expr_layer (E.Case e cs) place = node_faults e ++ faults_of_each clause_faults cs
  expr_layer (E.If cs) place = faults_of_each clause_faults cs
  expr_layer (E.FunName name n) place = unless (is_defined_at name n) NoSuchFunction place
  expr_layer (E.Fun cs) place = clauses_faults cs
  expr_layer (E.Try body of_clauses catches after) place = faults_of_each kind_faults body ++ (faults_of_each clause_faults of_clauses ++ (faults_of_each kind_faults catches ++ faults_of_optional (faults_of_each kind_faults) after))
  expr_layer _ place = []

  -- one level of an element of a body
  abbrev pub item_layer : E.ItemKind-F Faults (List PlacedFault) (List PlacedFault) (List PlacedFault) (List PlacedFault) ClauseFaults → List PlacedFault
  item_layer (E.Value e) = node_faults e
  item_layer (E.Match p e) = pattern_faults p ++ node_faults e

  -- one level of a qualifier
  abbrev pub qualifier_layer : E.QualifierKind-F Faults (List PlacedFault) (List PlacedFault) (List PlacedFault) (List PlacedFault) ClauseFaults → List PlacedFault
  qualifier_layer (E.Generator p e) = pattern_faults p ++ node_faults e
  qualifier_layer (E.Filter e) = node_faults e

  -- one level of an association
  abbrev pub assoc_layer : E.AssocKind-F Faults (List PlacedFault) (List PlacedFault) (List PlacedFault) (List PlacedFault) ClauseFaults → List PlacedFault
  assoc_layer a = node_faults a.key ++ node_faults a.value

  -- one level of a clause
  abbrev pub clause_layer : E.ClauseKind-F Faults (List PlacedFault) (List PlacedFault) (List PlacedFault) (List PlacedFault) ClauseFaults → ClauseFaults
  clause_layer c = record {
    arity = length c.patterns;
    faults = faults_of_each pattern_faults c.patterns ++ (faults_of_optional (λ g. faults_of_each (faults_of_each node_faults) g.kind) c.guard ++ faults_of_each kind_faults c.body);
  }

  -- one level of a clause of a `catch` part
  abbrev pub catch_layer : E.CatchKind-F Faults (List PlacedFault) (List PlacedFault) (List PlacedFault) (List PlacedFault) ClauseFaults → List PlacedFault
  catch_layer c = faults_of_optional pattern_faults c.class ++ clause_faults c.clause

  -- what stands in an expression's node
  unfoldable pub expr_kind_faults : ExprKind → Faults
  expr_kind_faults e = fold-ExprKind Faults (List PlacedFault) (List PlacedFault) (List PlacedFault) (List PlacedFault) ClauseFaults expr_layer item_layer qualifier_layer assoc_layer catch_layer clause_layer e

  -- what stands in a clause's node
  unfoldable pub clause_kind_faults : ClauseKind → ClauseFaults
  clause_kind_faults c = fold-ClauseKind Faults (List PlacedFault) (List PlacedFault) (List PlacedFault) (List PlacedFault) ClauseFaults expr_layer item_layer qualifier_layer assoc_layer catch_layer clause_layer c

  -- what stands in the node of an element of a body, of a qualifier, of an association and of a clause of a `catch` part
  unfoldable pub item_kind_faults : ItemKind → List PlacedFault
  item_kind_faults i = fold-ItemKind Faults (List PlacedFault) (List PlacedFault) (List PlacedFault) (List PlacedFault) ClauseFaults expr_layer item_layer qualifier_layer assoc_layer catch_layer clause_layer i

  unfoldable pub qualifier_kind_faults : QualifierKind → List PlacedFault
  qualifier_kind_faults q = fold-QualifierKind Faults (List PlacedFault) (List PlacedFault) (List PlacedFault) (List PlacedFault) ClauseFaults expr_layer item_layer qualifier_layer assoc_layer catch_layer clause_layer q

  unfoldable pub assoc_kind_faults : AssocKind → List PlacedFault
  assoc_kind_faults a = fold-AssocKind Faults (List PlacedFault) (List PlacedFault) (List PlacedFault) (List PlacedFault) ClauseFaults expr_layer item_layer qualifier_layer assoc_layer catch_layer clause_layer a

  unfoldable pub catch_kind_faults : CatchKind → List PlacedFault
  catch_kind_faults c = fold-CatchKind Faults (List PlacedFault) (List PlacedFault) (List PlacedFault) (List PlacedFault) ClauseFaults expr_layer item_layer qualifier_layer assoc_layer catch_layer clause_layer c

  -- a whole node
  abbrev pub expr_faults : Node ExprKind → List PlacedFault
  expr_faults e = expr_kind_faults e.kind e.place

  abbrev pub item_faults : Node ItemKind → List PlacedFault
  item_faults i = item_kind_faults i.kind

  abbrev pub qualifier_faults : Node QualifierKind → List PlacedFault
  qualifier_faults q = qualifier_kind_faults q.kind

  abbrev pub assoc_faults : Node AssocKind → List PlacedFault
  assoc_faults a = assoc_kind_faults a.kind

  abbrev pub catch_faults : Node CatchKind → List PlacedFault
  catch_faults c = catch_kind_faults c.kind

  abbrev pub clause_node : Node ClauseKind → Node ClauseFaults
  clause_node c = record { place = c.place; marks = c.marks; kind = clause_kind_faults c.kind }

  -- ---- forms

  -- a function behind functions with these names, in a module with these specs
  abbrev pub function_faults : List FunctionId → List FunctionId → Function → List PlacedFault
  function_faults specified before f = unless (not (is_built_in (function_id f) || list_any (same_id (function_id f)) before)) TwoFunctions f.place
      ++ (unless (list_any (same_id (function_id f)) specified) NoSpec f.place ++ clauses_faults (map clause_node f.clauses))

  -- the default of a record's field
  abbrev pub default_faults : Node RecFieldKind → List PlacedFault
  default_faults f = faults_of_optional (λ (e : Node ExprKind). expr_kind_faults e.kind e.place) f.kind.default

  -- the functions that an export names
  abbrev pub export_faults : Bool → List (Name × ℤ) → Place → List PlacedFault
  export_faults true names place = []
  export_faults false names place = faults_of_each (λ n. unless (is_defined_at n.0 n.1) NoSuchFunction place) names

  abbrev pub form_faults : List FunctionId → List FunctionId → TreeForm → List PlacedFault
  form_faults specified before (F.Function f) = function_faults specified before f
  form_faults specified before (F.RecDef r) = faults_of_each default_faults r.kind.fields
  form_faults specified before (F.Export e) = export_faults e.kind.types e.kind.names e.place
  form_faults specified before (F.Spec s) = unless (is_defined (of_function s.kind.name (spec_clauses_arity s.kind.clauses))) NoSuchFunction s.place
  form_faults specified before _ = []

-- the functions that a form defines
abbrev pub defined_by : TreeForm → List FunctionId
defined_by (F.Function f) = function_id f ∷ []
defined_by _ = []

-- the functions that a form specifies
abbrev pub specified_by : TreeForm → List FunctionId
specified_by (F.Spec s) = of_function s.kind.name (spec_clauses_arity s.kind.clauses) ∷ []
specified_by _ = []

abbrev pub specified_in : List TreeForm → List FunctionId
specified_in [] = []
specified_in (form ∷ forms) = specified_by form ++ specified_in forms

-- forms behind others that define these functions
abbrev pub forms_faults : Module → List FunctionId → List TreeForm → List PlacedFault
forms_faults m before [] = []
forms_faults m before (form ∷ forms) = form_faults (function_ids m) (records_of m) (specified_in m.forms) before form ++ forms_faults m (defined_by form ++ before) forms

-- ---- modules

-- all that is wrong with the names of a module
abbrev pub faults_of : Module → List PlacedFault
faults_of m = faults_of_each occurrence_faults (occurrences_of m) ++ forms_faults m [] m.forms

-- ---- the first

-- whether a place stands before another
abbrev pub is_before : Place → Place → Bool
is_before p q = nat_lt p.line q.line || (nat_eq p.line q.line && nat_lt p.column q.column)

-- the order of faults at one place
abbrev pub rank : NameFault → ℕ
rank Unbound = 0
rank Unsafe = 1
rank NoSuchFunction = 2
rank TwoFunctions = 3
rank NoSpec = 4
rank NoSuchRecord = 5
rank NoSuchField = 6
rank Repeated = 7
rank ArityDiffers = 8

-- whether a fault is named before another: it stands before it in the text, or at the same place with a lower rank
abbrev pub is_earlier : PlacedFault → PlacedFault → Bool
is_earlier f g = is_before f.place g.place || (not (is_before g.place f.place) && nat_lt (rank f.fault) (rank g.fault))

-- the first fault of a module
pub record IsFirstFault (m : Module) (f : PlacedFault) : Type 0 where
  pub stands : Among f (faults_of m)
  pub first : Every (λ g. is_earlier g f ≡ false) (faults_of m)

-- nothing is wrong with the names of a module
abbrev pub HasRightNames : Module → Type 0
HasRightNames m = faults_of m ≡ []
