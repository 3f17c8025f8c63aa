-- What is wrong with the names in each part of a tree, as it stands in the text.
use Rattle.std.specs.Prelude.{ℕ, List, [], ◌++◌, length, Option, nat_eq}
use Rattle.type_terms.specs.Keys.{Name}
use Rattle.erl_tree.specs.declared.token.Place.{Place}
use Rattle.erl_tree.specs.declared.token.Node.{Node}
use Rattle.erl_tree.specs.declared.pattern.LiteralKind.{LiteralKind}
use Rattle.erl_tree.specs.declared.pattern.PatternKind.{PatternKind}
use Rattle.erl_tree.specs.declared.expr.ExprKind.{ExprKind}
use Rattle.erl_tree.specs.declared.expr.ItemKind.{ItemKind, out-ItemKind}
use Rattle.erl_tree.specs.declared.expr.QualifierKind.{QualifierKind, out-QualifierKind}
use Rattle.erl_tree.specs.declared.expr.AssocKind.{AssocKind, out-AssocKind}
use Rattle.erl_tree.specs.declared.expr.CatchKind.{CatchKind, out-CatchKind}
use Rattle.erl_tree.specs.declared.expr.ClauseKind.{ClauseKind, out-ClauseKind}
use Rattle.erl_tree.specs.declared.expr.ExprKind.TheOpen as E
use Rattle.erl_tree.specs.declared.form.RecDefKind.{RecDefKind}
use Rattle.erl_tree.specs.Functions.{FunctionId, of_function, clauses_arity}
use Rattle.erl_runs.specs.Records.{find_record}
use Rattle.erl_scope_rules.specs.declared.fault.PlacedFault.{PlacedFault}
use Rattle.erl_scope_rules.specs.declared.fault.NameFault.TheVariants.{NoSuchFunction, ArityDiffers}
use Rattle.erl_scope_rules.specs.ScopeFaults.{Faults, unless, faults_of_each, faults_of_optional, declared_faults, fields_faults, get_faults, is_defined_at, call_faults, pattern_faults, expr_kind_faults}

-- the number of a clause's patterns
abbrev pub clause_arity : Node ClauseKind → ℕ
clause_arity c = length (out-ClauseKind c.kind).patterns

-- a clause with another number of patterns than this
abbrev pub other_arity : ℕ → Node ClauseKind → List PlacedFault
other_arity arity c = unless (nat_eq (clause_arity c) arity) ArityDiffers c.place

-- clauses with another number of patterns than the first one, which has as many as itself
abbrev pub arity_faults : List (Node ClauseKind) → List PlacedFault
arity_faults cs = faults_of_each (other_arity (clauses_arity cs)) cs

-- a record expression, but for the expressions of its fields
abbrev pub record_use_faults : List RecDefKind → Name → List (Node (Name × Node ExprKind)) → Place → List PlacedFault
record_use_faults records name fields place = declared_faults (find_record records name) place ++ fields_faults (find_record records name) [] fields

-- one level of an expression, of whose parts nothing is said
abbrev pub ExprLevel : Type 0
ExprLevel = E.ExprKind-F ExprKind ItemKind QualifierKind AssocKind CatchKind ClauseKind

module _ (functions : List FunctionId) (records : List RecDefKind) where
  abbrev pub expr_faults : Node ExprKind → List PlacedFault
  expr_faults e = expr_kind_faults functions records e.kind e.place

  abbrev pub optional_expr_faults : Option (Node ExprKind) → List PlacedFault
  optional_expr_faults e = faults_of_optional expr_faults e

  -- alternatives of tests
  abbrev pub guard_faults : Node (List (List (Node ExprKind))) → List PlacedFault
  guard_faults g = faults_of_each (faults_of_each expr_faults) g.kind

  -- an element of a body
  abbrev pub item_level_faults : E.ItemKind-F ExprKind ItemKind QualifierKind AssocKind CatchKind ClauseKind → List PlacedFault
  item_level_faults (E.Value e) = expr_faults e
  item_level_faults (E.Match p e) = pattern_faults functions records p ++ expr_faults e

  abbrev pub item_faults : Node ItemKind → List PlacedFault
  item_faults i = item_level_faults (out-ItemKind i.kind)

  -- a qualifier
  abbrev pub qualifier_level_faults : E.QualifierKind-F ExprKind ItemKind QualifierKind AssocKind CatchKind ClauseKind → List PlacedFault
  qualifier_level_faults (E.Generator p e) = pattern_faults functions records p ++ expr_faults e
  qualifier_level_faults (E.Filter e) = expr_faults e

  abbrev pub qualifier_faults : Node QualifierKind → List PlacedFault
  qualifier_faults q = qualifier_level_faults (out-QualifierKind q.kind)

  -- an association
  abbrev pub assoc_faults : Node AssocKind → List PlacedFault
  assoc_faults a = expr_faults (out-AssocKind a.kind).key ++ expr_faults (out-AssocKind a.kind).value

  -- a clause
  abbrev pub clause_level_faults : E.ClauseKind-F ExprKind ItemKind QualifierKind AssocKind CatchKind ClauseKind → List PlacedFault
  clause_level_faults c = faults_of_each (pattern_faults functions records) c.patterns ++ (faults_of_optional guard_faults c.guard ++ faults_of_each item_faults c.body)

  abbrev pub clause_faults : Node ClauseKind → List PlacedFault
  clause_faults c = clause_level_faults (out-ClauseKind c.kind)

  -- the clauses of a function, or of a fun expression
  abbrev pub function_clauses_faults : List (Node ClauseKind) → List PlacedFault
  function_clauses_faults cs = arity_faults cs ++ faults_of_each clause_faults cs

  -- a clause of a `catch` part
  abbrev pub catch_faults : Node CatchKind → List PlacedFault
  catch_faults c = faults_of_optional (pattern_faults functions records) (out-CatchKind c.kind).class ++ clause_faults (out-CatchKind c.kind).clause

  -- the expression of a field
  abbrev pub value_faults : Node (Name × Node ExprKind) → List PlacedFault
  value_faults f = expr_faults f.kind.1

  -- the pattern of an association, and of a field
  abbrev pub entry_faults : Node (Node LiteralKind × Node PatternKind) → List PlacedFault
  entry_faults e = pattern_faults functions records e.kind.1

  abbrev pub field_pattern_faults : Node (Name × Node PatternKind) → List PlacedFault
  field_pattern_faults f = pattern_faults functions records f.kind.1

  -- one level of an expression, where it has no records, clauses and bodies of its own
  abbrev pub plain_level_faults : ExprLevel → Faults
  plain_level_faults (E.Paren e) place = expr_faults e
  plain_level_faults (E.Unary op e) place = expr_faults e
  plain_level_faults (E.Tuple es) place = faults_of_each expr_faults es
  plain_level_faults (E.Cells es tail) place = faults_of_each expr_faults es ++ optional_expr_faults tail
  plain_level_faults (E.Binary op a b) place = expr_faults a ++ expr_faults b
  plain_level_faults (E.Call prefix name args) place = call_faults functions records prefix (of_function name (length args)) place ++ faults_of_each expr_faults args
  plain_level_faults (E.Apply f args) place = expr_faults f ++ faults_of_each expr_faults args
  plain_level_faults (E.FunName name n) place = unless (is_defined_at functions records name n) NoSuchFunction place
  plain_level_faults (E.MapNew assocs) place = faults_of_each assoc_faults assocs
  plain_level_faults (E.MapChange e assocs) place = expr_faults e ++ faults_of_each assoc_faults assocs
  plain_level_faults _ place = []

  -- one level of any other expression
  abbrev pub construct_level_faults : ExprLevel → Faults
  construct_level_faults (E.RecNew name tag fields) place = record_use_faults records name fields place ++ faults_of_each value_faults fields
  construct_level_faults (E.RecChange e name tag fields) place = expr_faults e ++ (record_use_faults records name fields place ++ faults_of_each value_faults fields)
  construct_level_faults (E.RecGet e name tag field) place = expr_faults e ++ get_faults (find_record records name) field place
  construct_level_faults (E.Comp e qs) place = expr_faults e ++ faults_of_each qualifier_faults qs
  construct_level_faults (E.Begin items) place = faults_of_each item_faults items
  construct_level_faults (E.Case e cs) place = expr_faults e ++ faults_of_each clause_faults cs
  construct_level_faults (E.If cs) place = faults_of_each clause_faults cs
  construct_level_faults (E.Fun cs) place = function_clauses_faults cs
  construct_level_faults (E.Try body of_clauses catches after) place = faults_of_each item_faults body ++ (faults_of_each clause_faults of_clauses ++ (faults_of_each catch_faults catches ++ faults_of_optional (faults_of_each item_faults) after))
  construct_level_faults _ place = []
