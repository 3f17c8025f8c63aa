-- The faults of a node of a tree, by those of the nodes below it: one equation for each form of a pattern, an expression, an element of a body, a qualifier, an association and a clause.
use Rattle.std.proofs.Common.{◌≡◌, refl, ap, ◌∙◌, ℕ, ℤ, suc, List, [], ◌∷◌, ◌++◌, map, length}
use Rattle.std.specs.Prelude.{Option, Some, None}
use Rattle.type_terms.specs.Keys.{Name}
use Rattle.erl_tree.specs.declared.token.Place.{Place}
use Rattle.erl_tree.specs.declared.token.Node.{Node}
use Rattle.erl_tree.specs.declared.pattern.LiteralKind.{LiteralKind}
use Rattle.erl_tree.specs.declared.pattern.PatternKind.{PatternKind, out-PatternKind, map-PatternKind, fold_out-PatternKind}
use Rattle.erl_tree.specs.declared.pattern.PatternKind.TheVariants as Y
use Rattle.erl_tree.specs.declared.pattern.PatternKind.TheOpen as P
use Rattle.erl_tree.specs.declared.pattern.PatternKind.TheShapes as R
use Rattle.erl_tree.specs.declared.expr.UnaryOp.{UnaryOp}
use Rattle.erl_tree.specs.declared.expr.BinaryOp.{BinaryOp}
use Rattle.erl_tree.specs.declared.expr.ExprKind.{ExprKind, out-ExprKind, map-ExprKind, fold_out-ExprKind}
use Rattle.erl_tree.specs.declared.expr.ExprKind.TheVariants as X
use Rattle.erl_tree.specs.declared.expr.ExprKind.TheOpen as E
use Rattle.erl_tree.specs.declared.expr.ExprKind.TheShapes as S
use Rattle.erl_tree.specs.declared.expr.ItemKind.{ItemKind, out-ItemKind, map-ItemKind, fold_out-ItemKind}
use Rattle.erl_tree.specs.declared.expr.ItemKind.TheVariants as I
use Rattle.erl_tree.specs.declared.expr.QualifierKind.{QualifierKind, out-QualifierKind, map-QualifierKind, fold_out-QualifierKind}
use Rattle.erl_tree.specs.declared.expr.QualifierKind.TheVariants as Q
use Rattle.erl_tree.specs.declared.expr.AssocKind.{AssocKind, out-AssocKind, roll-AssocKind, out-roll-AssocKind, fold_out-AssocKind}
use Rattle.erl_tree.specs.declared.expr.CatchKind.{CatchKind, out-CatchKind, roll-CatchKind, out-roll-CatchKind, fold_out-CatchKind}
use Rattle.erl_tree.specs.declared.expr.ClauseKind.{ClauseKind, out-ClauseKind, roll-ClauseKind, out-roll-ClauseKind, map-ClauseKind, fold_out-ClauseKind}
use Rattle.erl_tree.specs.declared.form.RecDefKind.{RecDefKind}
use Rattle.erl_tree.specs.Functions.{FunctionId, of_function}
use Rattle.erl_runs.specs.Records.{find_record}
use Rattle.erl_scope_rules.specs.declared.fault.NameFault.TheVariants.{NoSuchFunction}
use Rattle.erl_scope_rules.specs.declared.fault.PlacedFault.{PlacedFault}
use Rattle.erl_scope_rules.specs.ScopeFaults.{unless, faults_of_each, faults_of_optional, field_faults, fields_faults, declared_faults, get_faults, Faults, node_faults, kind_faults, ClauseFaults, clause_faults, clauses_faults, is_defined_at, call_faults, pattern_layer, pattern_kind_faults, pattern_faults, expr_layer, item_layer, qualifier_layer, assoc_layer, clause_layer, catch_layer, expr_kind_faults, clause_kind_faults, item_kind_faults, qualifier_kind_faults, assoc_kind_faults, catch_kind_faults, expr_faults, item_faults, qualifier_faults, assoc_faults, catch_faults, clause_node}
use Rattle.erl_scope_rules.proofs.OccurrenceLaws.{Trees}

-- ---- lists of nodes, each with what is said of its kind in the place of the kind

-- a node with what is said of its kind
abbrev put : {A B : Type 0} → (A → B) → Node A → Node B
put say n = record { place = n.place; marks = n.marks; kind = say n.kind }

faults-each : {A B : Type 0} (say : A → B) (of : Node B → List PlacedFault) (ns : List (Node A)) → faults_of_each of (S.former-ExprKind-Tuple-0.map A B say ns) ≡ faults_of_each (λ n. of (put say n)) ns
faults-each say of [] = refl
faults-each say of (n ∷ ns) = ap (λ fs. of (put say n) ++ fs) (faults-each say of ns)

nodes-count : {A B : Type 0} (say : A → B) (ns : List (Node A)) → length (S.former-ExprKind-Tuple-0.map A B say ns) ≡ length ns
nodes-count say [] = refl
nodes-count say (n ∷ ns) = ap suc (nodes-count say ns)

tail-faults : {A : Type 0} (say : A → Faults) (tail : Option (Node A)) → faults_of_optional node_faults (S.former-ExprKind-Cells-1.map A Faults say tail) ≡ faults_of_optional (λ n. node_faults (put say n)) tail
tail-faults say None = refl
tail-faults say (Some n) = refl

-- the names and the values of fields
fields-names : {A : Type 0} (say : A → Faults) (declared : Option RecDefKind) (before : List Name) (fields : List (Node (Name × Node A))) → fields_faults declared before (S.former-ExprKind-RecNew-2.map A Faults say fields) ≡ fields_faults declared before fields
fields-names say declared before [] = refl
fields-names say declared before (f ∷ fs) = ap (λ gs. field_faults declared f.kind.0 before f.place ++ gs) (fields-names say declared (f.kind.0 ∷ before) fs)

fields-values : {A : Type 0} (say : A → Faults) (fields : List (Node (Name × Node A))) → faults_of_each (λ (f : Node (Name × Node Faults)). node_faults f.kind.1) (S.former-ExprKind-RecNew-2.map A Faults say fields) ≡ faults_of_each (λ f. node_faults (put say f.kind.1)) fields
fields-values say [] = refl
fields-values say (f ∷ fs) = ap (λ gs. node_faults (put say f.kind.1) ++ gs) (fields-values say fs)

entries-values : {A : Type 0} (say : A → Faults) (entries : List (Node (Node LiteralKind × Node A))) → faults_of_each (λ (e : Node (Node LiteralKind × Node Faults)). node_faults e.kind.1) (R.former-PatternKind-Map-0.map A Faults say entries) ≡ faults_of_each (λ e. node_faults (put say e.kind.1)) entries
entries-values say [] = refl
entries-values say (e ∷ es) = ap (λ gs. node_faults (put say e.kind.1) ++ gs) (entries-values say es)

after-faults : (say : ItemKind → List PlacedFault) (after : Option (List (Node ItemKind))) → faults_of_optional (faults_of_each kind_faults) (S.former-ExprKind-Try-3.map ItemKind (List PlacedFault) say after) ≡ faults_of_optional (faults_of_each (λ n. say n.kind)) after
after-faults say None = refl
after-faults say (Some is) = faults-each say kind_faults is

alternatives-faults : (say : ExprKind → Faults) (alternatives : List (List (Node ExprKind))) → faults_of_each (faults_of_each node_faults) (S.former-ClauseKind-guard-at-8.map ExprKind Faults say alternatives) ≡ faults_of_each (faults_of_each (λ n. say n.kind n.place)) alternatives
alternatives-faults say [] = refl
alternatives-faults say (tests ∷ alternatives) = λ j. faults-each say node_faults tests j ++ alternatives-faults say alternatives j

guard-faults : (say : ExprKind → Faults) (g : Option (Node (List (List (Node ExprKind))))) → faults_of_optional (λ (g : Node (List (List (Node Faults)))). faults_of_each (faults_of_each node_faults) g.kind) (S.former-ClauseKind-guard.map ExprKind Faults say g) ≡ faults_of_optional (λ g. faults_of_each (faults_of_each (λ n. say n.kind n.place)) g.kind) g
guard-faults say None = refl
guard-faults say (Some g) = alternatives-faults say g.kind

module _ (functions : List FunctionId) (records : List RecDefKind) where
  -- ---- patterns

  -- the faults of fields of an expression or a pattern, whose values have these
  abbrev pub record_faults : {A : Type 0} → (Node A → List PlacedFault) → Name → List (Node (Name × Node A)) → List PlacedFault
  record_faults of name fields = fields_faults (find_record records name) [] fields ++ faults_of_each (λ f. of f.kind.1) fields

  -- one layer of a pattern, by the faults of its parts
  abbrev pub pattern_in : P.PatternKind-F PatternKind → Faults
  pattern_in (P.Paren p) place = pattern_faults functions records p
  pattern_in (P.Tuple ps) place = faults_of_each (pattern_faults functions records) ps
  pattern_in (P.Cells ps tail) place = faults_of_each (pattern_faults functions records) ps ++ faults_of_optional (pattern_faults functions records) tail
  pattern_in (P.Map entries) place = faults_of_each (λ e. pattern_faults functions records e.kind.1) entries
  pattern_in (P.Rec name tag fields) place = declared_faults (find_record records name) place ++ record_faults (pattern_faults functions records) name fields
  pattern_in (P.Alias p q) place = pattern_faults functions records p ++ pattern_faults functions records q
  pattern_in _ place = []

  pattern-same : (l : P.PatternKind-F PatternKind) (place : Place) → pattern_layer functions records (map-PatternKind PatternKind Faults (pattern_kind_faults functions records) l) place ≡ pattern_in l place
  pattern-same (P.Tuple ps) place = faults-each (pattern_kind_faults functions records) node_faults ps
  pattern-same (P.Cells ps tail) place = λ j. faults-each (pattern_kind_faults functions records) node_faults ps j ++ tail-faults (pattern_kind_faults functions records) tail j
  pattern-same (P.Map entries) place = entries-values (pattern_kind_faults functions records) entries
  pattern-same (P.Rec name tag fields) place = λ j. declared_faults (find_record records name) place ++ (fields-names (pattern_kind_faults functions records) (find_record records name) [] fields j ++ fields-values (pattern_kind_faults functions records) fields j)
  pattern-same _ place = refl

  -- by the layer that a `match` sees
  pub pattern_faults-out : (p : PatternKind) (place : Place) → pattern_kind_faults functions records p place ≡ pattern_in (out-PatternKind p) place
  unfolding pattern_kind_faults
  pattern_faults-out p place = ap (λ (f : Faults). f place) (fold_out-PatternKind Faults (pattern_layer functions records) p) ∙ pattern-same (out-PatternKind p) place

  -- ---- expressions, and what stands inside them

  -- the faults of a clause
  abbrev pub faults_in_clause : Node ClauseKind → List PlacedFault
  faults_in_clause c = (clause_kind_faults functions records c.kind).faults

  -- those of a guard
  abbrev pub guard_faults : Node (List (List (Node ExprKind))) → List PlacedFault
  guard_faults g = faults_of_each (faults_of_each (expr_faults functions records)) g.kind

  -- those of a body
  abbrev pub body_faults : List (Node ItemKind) → List PlacedFault
  body_faults is = faults_of_each (item_faults functions records) is

  -- one layer of an expression, by the faults of its parts
  abbrev pub expr_in : Trees E.ExprKind-F → Faults
  expr_in (E.Paren e) place = expr_faults functions records e
  expr_in (E.Tuple es) place = faults_of_each (expr_faults functions records) es
  expr_in (E.Cells es tail) place = faults_of_each (expr_faults functions records) es ++ faults_of_optional (expr_faults functions records) tail
  expr_in (E.Comp e qs) place = expr_faults functions records e ++ faults_of_each (qualifier_faults functions records) qs
  expr_in (E.Unary op e) place = expr_faults functions records e
  expr_in (E.Binary op a b) place = expr_faults functions records a ++ expr_faults functions records b
  expr_in (E.Call prefix name args) place = call_faults functions records prefix (of_function name (length args)) place ++ faults_of_each (expr_faults functions records) args
  expr_in (E.Apply f args) place = expr_faults functions records f ++ faults_of_each (expr_faults functions records) args
  expr_in (E.MapNew assocs) place = faults_of_each (assoc_faults functions records) assocs
  expr_in (E.MapChange e assocs) place = expr_faults functions records e ++ faults_of_each (assoc_faults functions records) assocs
  expr_in (E.RecNew name tag fields) place = declared_faults (find_record records name) place ++ record_faults (expr_faults functions records) name fields
  expr_in (E.RecChange e name tag fields) place = expr_faults functions records e ++ (declared_faults (find_record records name) place ++ record_faults (expr_faults functions records) name fields)
  expr_in (E.RecGet e name tag field) place = expr_faults functions records e ++ get_faults (find_record records name) field place
  expr_in (E.Begin is) place = body_faults is
  expr_in (E.Case e cs) place = expr_faults functions records e ++ faults_of_each faults_in_clause cs
  expr_in (E.If cs) place = faults_of_each faults_in_clause cs
  expr_in (E.FunName name n) place = unless (is_defined_at functions records name n) NoSuchFunction place
  expr_in (E.Fun cs) place = clauses_faults (map (clause_node functions records) cs)
  expr_in (E.Try is cs catches after) place = body_faults is ++ (faults_of_each faults_in_clause cs ++ (faults_of_each (catch_faults functions records) catches ++ faults_of_optional body_faults after))
  expr_in _ place = []

  -- one layer of an element of a body
  abbrev pub item_in : Trees E.ItemKind-F → List PlacedFault
  item_in (E.Value e) = expr_faults functions records e
  item_in (E.Match p e) = pattern_faults functions records p ++ expr_faults functions records e

  -- one layer of a qualifier
  abbrev pub qualifier_in : Trees E.QualifierKind-F → List PlacedFault
  qualifier_in (E.Generator p e) = pattern_faults functions records p ++ expr_faults functions records e
  qualifier_in (E.Filter e) = expr_faults functions records e

  -- one layer of an association
  abbrev pub assoc_in : Trees E.AssocKind-F → List PlacedFault
  assoc_in a = expr_faults functions records a.key ++ expr_faults functions records a.value

  -- one layer of a clause
  abbrev pub clause_in : Trees E.ClauseKind-F → ClauseFaults
  clause_in c = record {
    arity = length c.patterns;
    faults = faults_of_each (pattern_faults functions records) c.patterns ++ (faults_of_optional guard_faults c.guard ++ body_faults c.body);
  }

  -- one layer of a clause of a `catch` part
  abbrev pub catch_in : Trees E.CatchKind-F → List PlacedFault
  catch_in c = faults_of_optional (pattern_faults functions records) c.class ++ faults_in_clause c.clause

  -- clauses, each with its number of patterns and its faults
  clause_nodes : (cs : List (Node ClauseKind)) → S.former-ExprKind-Tuple-0.map ClauseKind ClauseFaults (clause_kind_faults functions records) cs ≡ map (clause_node functions records) cs
  clause_nodes [] = refl
  clause_nodes (c ∷ cs) = ap (λ ns. clause_node functions records c ∷ ns) (clause_nodes cs)

  args-same : (es : List (Node ExprKind)) → faults_of_each node_faults (S.former-ExprKind-Tuple-0.map ExprKind Faults (expr_kind_faults functions records) es) ≡ faults_of_each (expr_faults functions records) es
  args-same es = faults-each (expr_kind_faults functions records) node_faults es

  clauses-same : (cs : List (Node ClauseKind)) → faults_of_each clause_faults (S.former-ExprKind-Tuple-0.map ClauseKind ClauseFaults (clause_kind_faults functions records) cs) ≡ faults_of_each faults_in_clause cs
  clauses-same cs = faults-each (clause_kind_faults functions records) clause_faults cs

  items-same : (is : List (Node ItemKind)) → faults_of_each kind_faults (S.former-ExprKind-Tuple-0.map ItemKind (List PlacedFault) (item_kind_faults functions records) is) ≡ body_faults is
  items-same is = faults-each (item_kind_faults functions records) kind_faults is

  assocs-same : (assocs : List (Node AssocKind)) → faults_of_each kind_faults (S.former-ExprKind-Tuple-0.map AssocKind (List PlacedFault) (assoc_kind_faults functions records) assocs) ≡ faults_of_each (assoc_faults functions records) assocs
  assocs-same assocs = faults-each (assoc_kind_faults functions records) kind_faults assocs

  expr-same : (l : Trees E.ExprKind-F) (place : Place) → expr_layer functions records (map-ExprKind ExprKind ItemKind QualifierKind AssocKind CatchKind ClauseKind Faults (List PlacedFault) (List PlacedFault) (List PlacedFault) (List PlacedFault) ClauseFaults (expr_kind_faults functions records) (item_kind_faults functions records) (qualifier_kind_faults functions records) (assoc_kind_faults functions records) (catch_kind_faults functions records) (clause_kind_faults functions records) l) place ≡ expr_in l place
  expr-same (E.Tuple es) place = args-same es
  expr-same (E.Cells es tail) place = λ j. args-same es j ++ tail-faults (expr_kind_faults functions records) tail j
  expr-same (E.Comp e qs) place = ap (λ fs. expr_faults functions records e ++ fs) (faults-each (qualifier_kind_faults functions records) kind_faults qs)
  expr-same (E.Call prefix name args) place = λ j. call_faults functions records prefix (of_function name (nodes-count (expr_kind_faults functions records) args j)) place ++ args-same args j
  expr-same (E.Apply f args) place = ap (λ fs. expr_faults functions records f ++ fs) (args-same args)
  expr-same (E.MapNew assocs) place = assocs-same assocs
  expr-same (E.MapChange e assocs) place = ap (λ fs. expr_faults functions records e ++ fs) (assocs-same assocs)
  expr-same (E.RecNew name tag fields) place = λ j. declared_faults (find_record records name) place ++ (fields-names (expr_kind_faults functions records) (find_record records name) [] fields j ++ fields-values (expr_kind_faults functions records) fields j)
  expr-same (E.RecChange e name tag fields) place = λ j. expr_faults functions records e ++ (declared_faults (find_record records name) place ++ (fields-names (expr_kind_faults functions records) (find_record records name) [] fields j ++ fields-values (expr_kind_faults functions records) fields j))
  expr-same (E.Begin is) place = items-same is
  expr-same (E.Case e cs) place = ap (λ fs. expr_faults functions records e ++ fs) (clauses-same cs)
  expr-same (E.If cs) place = clauses-same cs
  expr-same (E.Fun cs) place = ap clauses_faults (clause_nodes cs)
  expr-same (E.Try is cs catches after) place = λ j. items-same is j ++ (clauses-same cs j ++ (faults-each (catch_kind_faults functions records) kind_faults catches j ++ after-faults (item_kind_faults functions records) after j))
  expr-same _ place = refl

  item-same : (l : Trees E.ItemKind-F) → item_layer functions records (map-ItemKind ExprKind ItemKind QualifierKind AssocKind CatchKind ClauseKind Faults (List PlacedFault) (List PlacedFault) (List PlacedFault) (List PlacedFault) ClauseFaults (expr_kind_faults functions records) (item_kind_faults functions records) (qualifier_kind_faults functions records) (assoc_kind_faults functions records) (catch_kind_faults functions records) (clause_kind_faults functions records) l) ≡ item_in l
  item-same (E.Value e) = refl
  item-same (E.Match p e) = refl

  qualifier-same : (l : Trees E.QualifierKind-F) → qualifier_layer functions records (map-QualifierKind ExprKind ItemKind QualifierKind AssocKind CatchKind ClauseKind Faults (List PlacedFault) (List PlacedFault) (List PlacedFault) (List PlacedFault) ClauseFaults (expr_kind_faults functions records) (item_kind_faults functions records) (qualifier_kind_faults functions records) (assoc_kind_faults functions records) (catch_kind_faults functions records) (clause_kind_faults functions records) l) ≡ qualifier_in l
  qualifier-same (E.Generator p e) = refl
  qualifier-same (E.Filter e) = refl

  clause-same : (c : Trees E.ClauseKind-F) → clause_layer functions records (map-ClauseKind ExprKind ItemKind QualifierKind AssocKind CatchKind ClauseKind Faults (List PlacedFault) (List PlacedFault) (List PlacedFault) (List PlacedFault) ClauseFaults (expr_kind_faults functions records) (item_kind_faults functions records) (qualifier_kind_faults functions records) (assoc_kind_faults functions records) (catch_kind_faults functions records) (clause_kind_faults functions records) c) ≡ clause_in c
  clause-same c = λ j. record {
    arity = length c.patterns;
    faults = faults_of_each (pattern_faults functions records) c.patterns ++ (guard-faults (expr_kind_faults functions records) c.guard j ++ items-same c.body j);
  }

  -- by the layer that a `match` sees
  pub expr_faults-out : (e : ExprKind) (place : Place) → expr_kind_faults functions records e place ≡ expr_in (out-ExprKind e) place
  unfolding expr_kind_faults item_kind_faults qualifier_kind_faults assoc_kind_faults catch_kind_faults clause_kind_faults
  expr_faults-out e place = ap (λ (f : Faults). f place) (fold_out-ExprKind Faults (List PlacedFault) (List PlacedFault) (List PlacedFault) (List PlacedFault) ClauseFaults (expr_layer functions records) (item_layer functions records) (qualifier_layer functions records) (assoc_layer functions records) (catch_layer functions records) (clause_layer functions records) e) ∙ expr-same (out-ExprKind e) place

  pub item_faults-out : (i : ItemKind) → item_kind_faults functions records i ≡ item_in (out-ItemKind i)
  unfolding expr_kind_faults item_kind_faults qualifier_kind_faults assoc_kind_faults catch_kind_faults clause_kind_faults
  item_faults-out i = fold_out-ItemKind Faults (List PlacedFault) (List PlacedFault) (List PlacedFault) (List PlacedFault) ClauseFaults (expr_layer functions records) (item_layer functions records) (qualifier_layer functions records) (assoc_layer functions records) (catch_layer functions records) (clause_layer functions records) i ∙ item-same (out-ItemKind i)

  pub qualifier_faults-out : (q : QualifierKind) → qualifier_kind_faults functions records q ≡ qualifier_in (out-QualifierKind q)
  unfolding expr_kind_faults item_kind_faults qualifier_kind_faults assoc_kind_faults catch_kind_faults clause_kind_faults
  qualifier_faults-out q = fold_out-QualifierKind Faults (List PlacedFault) (List PlacedFault) (List PlacedFault) (List PlacedFault) ClauseFaults (expr_layer functions records) (item_layer functions records) (qualifier_layer functions records) (assoc_layer functions records) (catch_layer functions records) (clause_layer functions records) q ∙ qualifier-same (out-QualifierKind q)

  pub assoc_faults-out : (a : AssocKind) → assoc_kind_faults functions records a ≡ assoc_in (out-AssocKind a)
  unfolding expr_kind_faults item_kind_faults qualifier_kind_faults assoc_kind_faults catch_kind_faults clause_kind_faults
  assoc_faults-out a = fold_out-AssocKind Faults (List PlacedFault) (List PlacedFault) (List PlacedFault) (List PlacedFault) ClauseFaults (expr_layer functions records) (item_layer functions records) (qualifier_layer functions records) (assoc_layer functions records) (catch_layer functions records) (clause_layer functions records) a

  pub catch_faults-out : (c : CatchKind) → catch_kind_faults functions records c ≡ catch_in (out-CatchKind c)
  unfolding expr_kind_faults item_kind_faults qualifier_kind_faults assoc_kind_faults catch_kind_faults clause_kind_faults
  catch_faults-out c = fold_out-CatchKind Faults (List PlacedFault) (List PlacedFault) (List PlacedFault) (List PlacedFault) ClauseFaults (expr_layer functions records) (item_layer functions records) (qualifier_layer functions records) (assoc_layer functions records) (catch_layer functions records) (clause_layer functions records) c

  pub clause_faults-out : (c : ClauseKind) → clause_kind_faults functions records c ≡ clause_in (out-ClauseKind c)
  unfolding expr_kind_faults item_kind_faults qualifier_kind_faults assoc_kind_faults catch_kind_faults clause_kind_faults
  clause_faults-out c = fold_out-ClauseKind Faults (List PlacedFault) (List PlacedFault) (List PlacedFault) (List PlacedFault) ClauseFaults (expr_layer functions records) (item_layer functions records) (qualifier_layer functions records) (assoc_layer functions records) (catch_layer functions records) (clause_layer functions records) c ∙ clause-same (out-ClauseKind c)

  -- by the form of a pattern
  pub pattern_faults-Atom : (a : Name) (place : Place) → pattern_kind_faults functions records (Y.Atom a) place ≡ []
  pattern_faults-Atom a place = pattern_faults-out (Y.Atom a) place ∙ ap (λ l. pattern_in l place) (Y.outs-Atom a)

  pub pattern_faults-Int : (n : ℤ) (place : Place) → pattern_kind_faults functions records (Y.Int n) place ≡ []
  pattern_faults-Int n place = pattern_faults-out (Y.Int n) place ∙ ap (λ l. pattern_in l place) (Y.outs-Int n)

  pub pattern_faults-NegInt : (n : ℤ) (place : Place) → pattern_kind_faults functions records (Y.NegInt n) place ≡ []
  pattern_faults-NegInt n place = pattern_faults-out (Y.NegInt n) place ∙ ap (λ l. pattern_in l place) (Y.outs-NegInt n)

  pub pattern_faults-Char : (c : ℕ) (place : Place) → pattern_kind_faults functions records (Y.Char c) place ≡ []
  pattern_faults-Char c place = pattern_faults-out (Y.Char c) place ∙ ap (λ l. pattern_in l place) (Y.outs-Char c)

  pub pattern_faults-Str : (s : List ℕ) (place : Place) → pattern_kind_faults functions records (Y.Str s) place ≡ []
  pattern_faults-Str s place = pattern_faults-out (Y.Str s) place ∙ ap (λ l. pattern_in l place) (Y.outs-Str s)

  pub pattern_faults-Var : (x : Name) (place : Place) → pattern_kind_faults functions records (Y.Var x) place ≡ []
  pattern_faults-Var x place = pattern_faults-out (Y.Var x) place ∙ ap (λ l. pattern_in l place) (Y.outs-Var x)

  pub pattern_faults-Paren : (p : Node PatternKind) (place : Place) → pattern_kind_faults functions records (Y.Paren p) place ≡ pattern_faults functions records p
  pattern_faults-Paren p place = pattern_faults-out (Y.Paren p) place ∙ ap (λ l. pattern_in l place) (Y.outs-Paren p)

  pub pattern_faults-Tuple : (ps : List (Node PatternKind)) (place : Place) → pattern_kind_faults functions records (Y.Tuple ps) place ≡ faults_of_each (pattern_faults functions records) ps
  pattern_faults-Tuple ps place = pattern_faults-out (Y.Tuple ps) place ∙ ap (λ l. pattern_in l place) (Y.outs-Tuple ps)

  pub pattern_faults-Cells : (ps : List (Node PatternKind)) (tail : Option (Node PatternKind)) (place : Place) → pattern_kind_faults functions records (Y.Cells ps tail) place ≡ faults_of_each (pattern_faults functions records) ps ++ faults_of_optional (pattern_faults functions records) tail
  pattern_faults-Cells ps tail place = pattern_faults-out (Y.Cells ps tail) place ∙ ap (λ l. pattern_in l place) (Y.outs-Cells ps tail)

  pub pattern_faults-Map : (entries : List (Node (Node LiteralKind × Node PatternKind))) (place : Place) → pattern_kind_faults functions records (Y.Map entries) place ≡ faults_of_each (λ e. pattern_faults functions records e.kind.1) entries
  pattern_faults-Map entries place = pattern_faults-out (Y.Map entries) place ∙ ap (λ l. pattern_in l place) (Y.outs-Map entries)

  pub pattern_faults-Rec : (name tag : Name) (fields : List (Node (Name × Node PatternKind))) (place : Place) → pattern_kind_faults functions records (Y.Rec name tag fields) place ≡ declared_faults (find_record records name) place ++ record_faults (pattern_faults functions records) name fields
  pattern_faults-Rec name tag fields place = pattern_faults-out (Y.Rec name tag fields) place ∙ ap (λ l. pattern_in l place) (Y.outs-Rec name tag fields)

  pub pattern_faults-Alias : (p q : Node PatternKind) (place : Place) → pattern_kind_faults functions records (Y.Alias p q) place ≡ pattern_faults functions records p ++ pattern_faults functions records q
  pattern_faults-Alias p q place = pattern_faults-out (Y.Alias p q) place ∙ ap (λ l. pattern_in l place) (Y.outs-Alias p q)

  -- by the form of an expression
  pub expr_faults-Atom : (a : Name) (place : Place) → expr_kind_faults functions records (X.Atom a) place ≡ []
  expr_faults-Atom a place = expr_faults-out (X.Atom a) place ∙ ap (λ l. expr_in l place) (X.outs-Atom a)

  pub expr_faults-Int : (n : ℤ) (place : Place) → expr_kind_faults functions records (X.Int n) place ≡ []
  expr_faults-Int n place = expr_faults-out (X.Int n) place ∙ ap (λ l. expr_in l place) (X.outs-Int n)

  pub expr_faults-Char : (c : ℕ) (place : Place) → expr_kind_faults functions records (X.Char c) place ≡ []
  expr_faults-Char c place = expr_faults-out (X.Char c) place ∙ ap (λ l. expr_in l place) (X.outs-Char c)

  pub expr_faults-Str : (s : List ℕ) (place : Place) → expr_kind_faults functions records (X.Str s) place ≡ []
  expr_faults-Str s place = expr_faults-out (X.Str s) place ∙ ap (λ l. expr_in l place) (X.outs-Str s)

  pub expr_faults-Var : (x : Name) (place : Place) → expr_kind_faults functions records (X.Var x) place ≡ []
  expr_faults-Var x place = expr_faults-out (X.Var x) place ∙ ap (λ l. expr_in l place) (X.outs-Var x)

  pub expr_faults-Paren : (e : Node ExprKind) (place : Place) → expr_kind_faults functions records (X.Paren e) place ≡ expr_faults functions records e
  expr_faults-Paren e place = expr_faults-out (X.Paren e) place ∙ ap (λ l. expr_in l place) (X.outs-Paren e)

  pub expr_faults-Tuple : (es : List (Node ExprKind)) (place : Place) → expr_kind_faults functions records (X.Tuple es) place ≡ faults_of_each (expr_faults functions records) es
  expr_faults-Tuple es place = expr_faults-out (X.Tuple es) place ∙ ap (λ l. expr_in l place) (X.outs-Tuple es)

  pub expr_faults-Cells : (es : List (Node ExprKind)) (tail : Option (Node ExprKind)) (place : Place) → expr_kind_faults functions records (X.Cells es tail) place ≡ faults_of_each (expr_faults functions records) es ++ faults_of_optional (expr_faults functions records) tail
  expr_faults-Cells es tail place = expr_faults-out (X.Cells es tail) place ∙ ap (λ l. expr_in l place) (X.outs-Cells es tail)

  pub expr_faults-Comp : (e : Node ExprKind) (qs : List (Node QualifierKind)) (place : Place) → expr_kind_faults functions records (X.Comp e qs) place ≡ expr_faults functions records e ++ faults_of_each (qualifier_faults functions records) qs
  expr_faults-Comp e qs place = expr_faults-out (X.Comp e qs) place ∙ ap (λ l. expr_in l place) (X.outs-Comp e qs)

  pub expr_faults-Unary : (op : UnaryOp) (e : Node ExprKind) (place : Place) → expr_kind_faults functions records (X.Unary op e) place ≡ expr_faults functions records e
  expr_faults-Unary op e place = expr_faults-out (X.Unary op e) place ∙ ap (λ l. expr_in l place) (X.outs-Unary op e)

  pub expr_faults-Binary : (op : BinaryOp) (a b : Node ExprKind) (place : Place) → expr_kind_faults functions records (X.Binary op a b) place ≡ expr_faults functions records a ++ expr_faults functions records b
  expr_faults-Binary op a b place = expr_faults-out (X.Binary op a b) place ∙ ap (λ l. expr_in l place) (X.outs-Binary op a b)

  pub expr_faults-Call : (prefix : Option Name) (name : Name) (args : List (Node ExprKind)) (place : Place) → expr_kind_faults functions records (X.Call prefix name args) place ≡ call_faults functions records prefix (of_function name (length args)) place ++ faults_of_each (expr_faults functions records) args
  expr_faults-Call prefix name args place = expr_faults-out (X.Call prefix name args) place ∙ ap (λ l. expr_in l place) (X.outs-Call prefix name args)

  pub expr_faults-Apply : (f : Node ExprKind) (args : List (Node ExprKind)) (place : Place) → expr_kind_faults functions records (X.Apply f args) place ≡ expr_faults functions records f ++ faults_of_each (expr_faults functions records) args
  expr_faults-Apply f args place = expr_faults-out (X.Apply f args) place ∙ ap (λ l. expr_in l place) (X.outs-Apply f args)

  pub expr_faults-MapNew : (assocs : List (Node AssocKind)) (place : Place) → expr_kind_faults functions records (X.MapNew assocs) place ≡ faults_of_each (assoc_faults functions records) assocs
  expr_faults-MapNew assocs place = expr_faults-out (X.MapNew assocs) place ∙ ap (λ l. expr_in l place) (X.outs-MapNew assocs)

  pub expr_faults-MapChange : (e : Node ExprKind) (assocs : List (Node AssocKind)) (place : Place) → expr_kind_faults functions records (X.MapChange e assocs) place ≡ expr_faults functions records e ++ faults_of_each (assoc_faults functions records) assocs
  expr_faults-MapChange e assocs place = expr_faults-out (X.MapChange e assocs) place ∙ ap (λ l. expr_in l place) (X.outs-MapChange e assocs)

  pub expr_faults-RecNew : (name tag : Name) (fields : List (Node (Name × Node ExprKind))) (place : Place) → expr_kind_faults functions records (X.RecNew name tag fields) place ≡ declared_faults (find_record records name) place ++ record_faults (expr_faults functions records) name fields
  expr_faults-RecNew name tag fields place = expr_faults-out (X.RecNew name tag fields) place ∙ ap (λ l. expr_in l place) (X.outs-RecNew name tag fields)

  pub expr_faults-RecChange : (e : Node ExprKind) (name tag : Name) (fields : List (Node (Name × Node ExprKind))) (place : Place) → expr_kind_faults functions records (X.RecChange e name tag fields) place ≡ expr_faults functions records e ++ (declared_faults (find_record records name) place ++ record_faults (expr_faults functions records) name fields)
  expr_faults-RecChange e name tag fields place = expr_faults-out (X.RecChange e name tag fields) place ∙ ap (λ l. expr_in l place) (X.outs-RecChange e name tag fields)

  pub expr_faults-RecGet : (e : Node ExprKind) (name tag field : Name) (place : Place) → expr_kind_faults functions records (X.RecGet e name tag field) place ≡ expr_faults functions records e ++ get_faults (find_record records name) field place
  expr_faults-RecGet e name tag field place = expr_faults-out (X.RecGet e name tag field) place ∙ ap (λ l. expr_in l place) (X.outs-RecGet e name tag field)

  pub expr_faults-Begin : (is : List (Node ItemKind)) (place : Place) → expr_kind_faults functions records (X.Begin is) place ≡ body_faults is
  expr_faults-Begin is place = expr_faults-out (X.Begin is) place ∙ ap (λ l. expr_in l place) (X.outs-Begin is)

  pub expr_faults-Case : (e : Node ExprKind) (cs : List (Node ClauseKind)) (place : Place) → expr_kind_faults functions records (X.Case e cs) place ≡ expr_faults functions records e ++ faults_of_each faults_in_clause cs
  expr_faults-Case e cs place = expr_faults-out (X.Case e cs) place ∙ ap (λ l. expr_in l place) (X.outs-Case e cs)

  pub expr_faults-If : (cs : List (Node ClauseKind)) (place : Place) → expr_kind_faults functions records (X.If cs) place ≡ faults_of_each faults_in_clause cs
  expr_faults-If cs place = expr_faults-out (X.If cs) place ∙ ap (λ l. expr_in l place) (X.outs-If cs)

  pub expr_faults-FunName : (name : Name) (n : ℤ) (place : Place) → expr_kind_faults functions records (X.FunName name n) place ≡ unless (is_defined_at functions records name n) NoSuchFunction place
  expr_faults-FunName name n place = expr_faults-out (X.FunName name n) place ∙ ap (λ l. expr_in l place) (X.outs-FunName name n)

  pub expr_faults-Fun : (cs : List (Node ClauseKind)) (place : Place) → expr_kind_faults functions records (X.Fun cs) place ≡ clauses_faults (map (clause_node functions records) cs)
  expr_faults-Fun cs place = expr_faults-out (X.Fun cs) place ∙ ap (λ l. expr_in l place) (X.outs-Fun cs)

  pub expr_faults-Try : (is : List (Node ItemKind)) (cs : List (Node ClauseKind)) (catches : List (Node CatchKind)) (after : Option (List (Node ItemKind))) (place : Place) → expr_kind_faults functions records (X.Try is cs catches after) place ≡ body_faults is ++ (faults_of_each faults_in_clause cs ++ (faults_of_each (catch_faults functions records) catches ++ faults_of_optional body_faults after))
  expr_faults-Try is cs catches after place = expr_faults-out (X.Try is cs catches after) place ∙ ap (λ l. expr_in l place) (X.outs-Try is cs catches after)

  -- by the form of an element of a body, a qualifier, an association and a clause
  pub item_faults-Value : (e : Node ExprKind) → item_kind_faults functions records (I.Value e) ≡ expr_faults functions records e
  item_faults-Value e = item_faults-out (I.Value e) ∙ ap (λ l. item_in l) (I.outs-Value e)

  pub item_faults-Match : (p : Node PatternKind) (e : Node ExprKind) → item_kind_faults functions records (I.Match p e) ≡ pattern_faults functions records p ++ expr_faults functions records e
  item_faults-Match p e = item_faults-out (I.Match p e) ∙ ap (λ l. item_in l) (I.outs-Match p e)

  pub qualifier_faults-Generator : (p : Node PatternKind) (e : Node ExprKind) → qualifier_kind_faults functions records (Q.Generator p e) ≡ pattern_faults functions records p ++ expr_faults functions records e
  qualifier_faults-Generator p e = qualifier_faults-out (Q.Generator p e) ∙ ap (λ l. qualifier_in l) (Q.outs-Generator p e)

  pub qualifier_faults-Filter : (e : Node ExprKind) → qualifier_kind_faults functions records (Q.Filter e) ≡ expr_faults functions records e
  qualifier_faults-Filter e = qualifier_faults-out (Q.Filter e) ∙ ap (λ l. qualifier_in l) (Q.outs-Filter e)

  pub assoc_faults-roll : (l : Trees E.AssocKind-F) → assoc_kind_faults functions records (roll-AssocKind l) ≡ assoc_in l
  assoc_faults-roll l = assoc_faults-out (roll-AssocKind l) ∙ ap (λ (k : Trees E.AssocKind-F). assoc_in k) (out-roll-AssocKind l)

  pub catch_faults-roll : (l : Trees E.CatchKind-F) → catch_kind_faults functions records (roll-CatchKind l) ≡ catch_in l
  catch_faults-roll l = catch_faults-out (roll-CatchKind l) ∙ ap (λ (k : Trees E.CatchKind-F). catch_in k) (out-roll-CatchKind l)

  pub clause_faults-roll : (l : Trees E.ClauseKind-F) → clause_kind_faults functions records (roll-ClauseKind l) ≡ clause_in l
  clause_faults-roll l = clause_faults-out (roll-ClauseKind l) ∙ ap (λ (k : Trees E.ClauseKind-F). clause_in k) (out-roll-ClauseKind l)

  -- the faults of a clause, and the number of its patterns
  pub clause_faults-in : (c : ClauseKind) → (clause_kind_faults functions records c).faults ≡ (clause_in (out-ClauseKind c)).faults
  clause_faults-in c = ap (λ (f : ClauseFaults). f.faults) (clause_faults-out c)

  pub clause_arity-in : (c : ClauseKind) → (clause_kind_faults functions records c).arity ≡ length (out-ClauseKind c).patterns
  clause_arity-in c = ap (λ (f : ClauseFaults). f.arity) (clause_faults-out c)

  pub clause_faults-rolled : (l : Trees E.ClauseKind-F) → (clause_kind_faults functions records (roll-ClauseKind l)).faults ≡ (clause_in l).faults
  clause_faults-rolled l = ap (λ (f : ClauseFaults). f.faults) (clause_faults-roll l)

  pub clause_arity-rolled : (l : Trees E.ClauseKind-F) → (clause_kind_faults functions records (roll-ClauseKind l)).arity ≡ length l.patterns
  clause_arity-rolled l = ap (λ (f : ClauseFaults). f.arity) (clause_faults-roll l)

pub ruleset pattern_fault_equations = (pattern_faults-Atom, pattern_faults-Int, pattern_faults-NegInt, pattern_faults-Char, pattern_faults-Str, pattern_faults-Var, pattern_faults-Paren, pattern_faults-Tuple, pattern_faults-Cells, pattern_faults-Map, pattern_faults-Rec, pattern_faults-Alias)

pub ruleset fault_equations = (expr_faults-Atom, expr_faults-Int, expr_faults-Char, expr_faults-Str, expr_faults-Var, expr_faults-Paren, expr_faults-Tuple, expr_faults-Cells, expr_faults-Comp, expr_faults-Unary, expr_faults-Binary, expr_faults-Call, expr_faults-Apply, expr_faults-MapNew, expr_faults-MapChange, expr_faults-RecNew, expr_faults-RecChange, expr_faults-RecGet, expr_faults-Begin, expr_faults-Case, expr_faults-If, expr_faults-FunName, expr_faults-Fun, expr_faults-Try, item_faults-Value, item_faults-Match, qualifier_faults-Generator, qualifier_faults-Filter, assoc_faults-roll, catch_faults-roll, clause_faults-roll, clause_faults-rolled, clause_arity-rolled)

-- the same, and where the form isn't known, by the layer: for code that looks at a pattern or a tree
pub ruleset pattern_fault_laws = (pattern_faults-Atom, pattern_faults-Int, pattern_faults-NegInt, pattern_faults-Char, pattern_faults-Str, pattern_faults-Var, pattern_faults-Paren, pattern_faults-Tuple, pattern_faults-Cells, pattern_faults-Map, pattern_faults-Rec, pattern_faults-Alias, pattern_faults-out)

pub ruleset fault_laws = (expr_faults-Atom, expr_faults-Int, expr_faults-Char, expr_faults-Str, expr_faults-Var, expr_faults-Paren, expr_faults-Tuple, expr_faults-Cells, expr_faults-Comp, expr_faults-Unary, expr_faults-Binary, expr_faults-Call, expr_faults-Apply, expr_faults-MapNew, expr_faults-MapChange, expr_faults-RecNew, expr_faults-RecChange, expr_faults-RecGet, expr_faults-Begin, expr_faults-Case, expr_faults-If, expr_faults-FunName, expr_faults-Fun, expr_faults-Try, item_faults-Value, item_faults-Match, qualifier_faults-Generator, qualifier_faults-Filter, assoc_faults-roll, catch_faults-roll, clause_faults-roll, clause_faults-rolled, clause_arity-rolled, expr_faults-out, item_faults-out, qualifier_faults-out, assoc_faults-out, catch_faults-out, clause_faults-out, clause_faults-in, clause_arity-in)
