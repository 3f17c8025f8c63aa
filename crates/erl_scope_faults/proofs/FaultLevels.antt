-- What is wrong with the names of one level of a pattern or an expression, by the view of a kind that a `match` has.
use Rattle.std.proofs.Common.{◌≡◌, refl, ap, ap₂, sym, ◌∙◌, ℕ, suc, List, [], ◌∷◌, ◌++◌, map, length, nat_eq, true, arith, append_assoc, append-nil}
use Rattle.std.specs.Prelude.{Option, Some, None}
use Rattle.std.proofs.lemmas.Bool.Decides.{nat_tests}
use Rattle.type_terms.specs.Keys.{Name}
use Rattle.erl_tree.specs.declared.token.Place.{Place}
use Rattle.erl_tree.specs.declared.token.Node.{Node}
use Rattle.erl_tree.specs.declared.pattern.LiteralKind.{LiteralKind}
use Rattle.erl_tree.specs.declared.pattern.PatternKind.{PatternKind, out-PatternKind, map-PatternKind, fold_out-PatternKind}
use Rattle.erl_tree.specs.declared.pattern.PatternKind.TheOpen as P
use Rattle.erl_tree.specs.declared.pattern.PatternKind.TheShapes as R
use Rattle.erl_tree.specs.declared.expr.ExprKind.{ExprKind, out-ExprKind, map-ExprKind, fold_out-ExprKind}
use Rattle.erl_tree.specs.declared.expr.ItemKind.{ItemKind, out-ItemKind, map-ItemKind, fold-ItemKind, fold_out-ItemKind}
use Rattle.erl_tree.specs.declared.expr.QualifierKind.{QualifierKind, out-QualifierKind, map-QualifierKind, fold-QualifierKind, fold_out-QualifierKind}
use Rattle.erl_tree.specs.declared.expr.AssocKind.{AssocKind, out-AssocKind, fold-AssocKind, fold_out-AssocKind}
use Rattle.erl_tree.specs.declared.expr.CatchKind.{CatchKind, out-CatchKind, fold-CatchKind, fold_out-CatchKind}
use Rattle.erl_tree.specs.declared.expr.ClauseKind.{ClauseKind, out-ClauseKind, fold_out-ClauseKind}
use Rattle.erl_tree.specs.declared.expr.ExprKind.TheOpen as E
use Rattle.erl_tree.specs.declared.expr.ExprKind.TheShapes as S
use Rattle.erl_tree.specs.declared.form.RecDefKind.{RecDefKind}
use Rattle.erl_tree.specs.Functions.{FunctionId, of_function}
use Rattle.erl_runs.specs.Records.{find_record}
use Rattle.erl_scope_rules.specs.declared.fault.PlacedFault.{PlacedFault}
use Rattle.erl_scope_rules.specs.declared.fault.NameFault.TheVariants.{NoSuchFunction, ArityDiffers}
use Rattle.erl_scope_rules.specs.ScopeFaults.{unless, faults_of_each, faults_of_optional, declared_faults, fields_faults, get_faults, field_faults, Faults, node_faults, kind_faults, ClauseFaults, arities_differ, clauses_faults, is_defined_at, call_faults, pattern_layer, pattern_kind_faults, pattern_faults, expr_layer, item_layer, qualifier_layer, assoc_layer, catch_layer, clause_layer, expr_kind_faults, clause_kind_faults, clause_node}
use Rattle.erl_scope_rules.specs.ScopeFaults as G
use Rattle.erl_scope_faults.specs.PartFaults.{ExprLevel, clause_arity, other_arity, expr_faults, optional_expr_faults, guard_faults, item_level_faults, item_faults, qualifier_level_faults, qualifier_faults, assoc_faults, clause_level_faults, clause_faults, function_clauses_faults, catch_faults, value_faults, entry_faults, field_pattern_faults, plain_level_faults, construct_level_faults}

eq-itself : (n : ℕ) → nat_eq n n ≡ true
eq-itself n = grind (arith, nat_tests)

-- the same for each
each-alike : {A : Type 0} (f g : A → List PlacedFault) → ((x : A) → f x ≡ g x) → (xs : List A) → faults_of_each f xs ≡ faults_of_each g xs
each-alike f g h [] = refl
each-alike f g h (x ∷ xs) = ap₂ ◌++◌ (h x) (each-alike f g h xs)

module _ (functions : List FunctionId) (records : List RecDefKind) where
  -- ---- patterns

  -- one level of a pattern
  abbrev pub pattern_level_faults : P.PatternKind-F PatternKind → Faults
  pattern_level_faults (P.Paren p) place = pattern_faults functions records p
  pattern_level_faults (P.Tuple ps) place = faults_of_each (pattern_faults functions records) ps
  pattern_level_faults (P.Cells ps tail) place = faults_of_each (pattern_faults functions records) ps ++ faults_of_optional (pattern_faults functions records) tail
  pattern_level_faults (P.Map entries) place = faults_of_each (entry_faults functions records) entries
  pattern_level_faults (P.Rec name tag fields) place = declared_faults (find_record records name) place ++ (fields_faults (find_record records name) [] fields ++ faults_of_each (field_pattern_faults functions records) fields)
  pattern_level_faults (P.Alias p q) place = pattern_faults functions records p ++ pattern_faults functions records q
  pattern_level_faults _ place = []

  patterns-are : (ps : List (Node PatternKind)) → faults_of_each node_faults (R.former-PatternKind-Tuple-0.map PatternKind Faults (pattern_kind_faults functions records) ps) ≡ faults_of_each (pattern_faults functions records) ps
  patterns-are [] = refl
  patterns-are (p ∷ ps) = ap (λ fs. pattern_faults functions records p ++ fs) (patterns-are ps)

  tail-pattern-is : (o : Option (Node PatternKind)) → faults_of_optional node_faults (R.former-PatternKind-Cells-1.map PatternKind Faults (pattern_kind_faults functions records) o) ≡ faults_of_optional (pattern_faults functions records) o
  tail-pattern-is None = refl
  tail-pattern-is (Some p) = refl

  entries-are : (es : List (Node (Node LiteralKind × Node PatternKind))) → faults_of_each (λ e. node_faults e.kind.1) (R.former-PatternKind-Map-0.map PatternKind Faults (pattern_kind_faults functions records) es) ≡ faults_of_each (entry_faults functions records) es
  entries-are [] = refl
  entries-are (e ∷ es) = ap (λ fs. pattern_faults functions records e.kind.1 ++ fs) (entries-are es)

  field-patterns-are : (fs : List (Node (Name × Node PatternKind))) → faults_of_each (λ f. node_faults f.kind.1) (R.former-PatternKind-Rec-2.map PatternKind Faults (pattern_kind_faults functions records) fs) ≡ faults_of_each (field_pattern_faults functions records) fs
  field-patterns-are [] = refl
  field-patterns-are (f ∷ fs) = ap (λ gs. pattern_faults functions records f.kind.1 ++ gs) (field-patterns-are fs)

  pattern-names-are : (declared : Option RecDefKind) (before : List Name) (fs : List (Node (Name × Node PatternKind))) → fields_faults declared before (R.former-PatternKind-Rec-2.map PatternKind Faults (pattern_kind_faults functions records) fs) ≡ fields_faults declared before fs
  pattern-names-are declared before [] = refl
  pattern-names-are declared before (f ∷ fs) = ap (λ gs. field_faults declared f.kind.0 before f.place ++ gs) (pattern-names-are declared (f.kind.0 ∷ before) fs)

  pattern-same : (o : P.PatternKind-F PatternKind) → pattern_layer functions records (map-PatternKind PatternKind Faults (pattern_kind_faults functions records) o) ≡ pattern_level_faults o
  pattern-same (P.Tuple ps) = λ j place. patterns-are ps j
  pattern-same (P.Cells ps tail) = λ j place. patterns-are ps j ++ tail-pattern-is tail j
  pattern-same (P.Map entries) = λ j place. entries-are entries j
  pattern-same (P.Rec name tag fields) = λ j place. declared_faults (find_record records name) place ++ (pattern-names-are (find_record records name) [] fields j ++ field-patterns-are fields j)
  pattern-same _ = refl

  pub pattern-out : (k : PatternKind) → pattern_kind_faults functions records k ≡ pattern_level_faults (out-PatternKind k)
  unfolding pattern_kind_faults
  pattern-out k = fold_out-PatternKind Faults (pattern_layer functions records) k ∙ pattern-same (out-PatternKind k)

  -- ---- expressions

  abbrev exprs : ExprKind → Faults
  exprs = expr_kind_faults functions records

  items : ItemKind → List PlacedFault
  items i = fold-ItemKind Faults (List PlacedFault) (List PlacedFault) (List PlacedFault) (List PlacedFault) ClauseFaults (expr_layer functions records) (item_layer functions records) (qualifier_layer functions records) (assoc_layer functions records) (catch_layer functions records) (clause_layer functions records) i

  qualifiers : QualifierKind → List PlacedFault
  qualifiers q = fold-QualifierKind Faults (List PlacedFault) (List PlacedFault) (List PlacedFault) (List PlacedFault) ClauseFaults (expr_layer functions records) (item_layer functions records) (qualifier_layer functions records) (assoc_layer functions records) (catch_layer functions records) (clause_layer functions records) q

  assocs : AssocKind → List PlacedFault
  assocs a = fold-AssocKind Faults (List PlacedFault) (List PlacedFault) (List PlacedFault) (List PlacedFault) ClauseFaults (expr_layer functions records) (item_layer functions records) (qualifier_layer functions records) (assoc_layer functions records) (catch_layer functions records) (clause_layer functions records) a

  catches : CatchKind → List PlacedFault
  catches c = fold-CatchKind Faults (List PlacedFault) (List PlacedFault) (List PlacedFault) (List PlacedFault) ClauseFaults (expr_layer functions records) (item_layer functions records) (qualifier_layer functions records) (assoc_layer functions records) (catch_layer functions records) (clause_layer functions records) c

  abbrev clauses : ClauseKind → ClauseFaults
  clauses = clause_kind_faults functions records

  -- rows of parts, each with its faults in the place of its kind
  exprs-are : (es : List (Node ExprKind)) → faults_of_each node_faults (S.former-ExprKind-Tuple-0.map ExprKind Faults exprs es) ≡ faults_of_each (expr_faults functions records) es
  exprs-are [] = refl
  exprs-are (e ∷ es) = ap (λ fs. expr_faults functions records e ++ fs) (exprs-are es)

  expr-count : (es : List (Node ExprKind)) → length (S.former-ExprKind-Tuple-0.map ExprKind Faults exprs es) ≡ length es
  expr-count [] = refl
  expr-count (e ∷ es) = ap suc (expr-count es)

  tail-expr-is : (o : Option (Node ExprKind)) → faults_of_optional node_faults (S.former-ExprKind-Cells-1.map ExprKind Faults exprs o) ≡ optional_expr_faults functions records o
  tail-expr-is None = refl
  tail-expr-is (Some e) = refl

  values-are : (fs : List (Node (Name × Node ExprKind))) → faults_of_each (λ f. node_faults f.kind.1) (S.former-ExprKind-RecNew-2.map ExprKind Faults exprs fs) ≡ faults_of_each (value_faults functions records) fs
  values-are [] = refl
  values-are (f ∷ fs) = ap (λ gs. expr_faults functions records f.kind.1 ++ gs) (values-are fs)

  value-names-are : (declared : Option RecDefKind) (before : List Name) (fs : List (Node (Name × Node ExprKind))) → fields_faults declared before (S.former-ExprKind-RecNew-2.map ExprKind Faults exprs fs) ≡ fields_faults declared before fs
  value-names-are declared before [] = refl
  value-names-are declared before (f ∷ fs) = ap (λ gs. field_faults declared f.kind.0 before f.place ++ gs) (value-names-are declared (f.kind.0 ∷ before) fs)

  item-same : (o : E.ItemKind-F ExprKind ItemKind QualifierKind AssocKind CatchKind ClauseKind) →
      item_layer functions records (map-ItemKind ExprKind ItemKind QualifierKind AssocKind CatchKind ClauseKind Faults (List PlacedFault) (List PlacedFault) (List PlacedFault) (List PlacedFault) ClauseFaults exprs items qualifiers assocs catches clauses o) ≡ item_level_faults functions records o
  item-same (E.Value e) = refl
  item-same (E.Match p e) = refl

  item-out : (k : ItemKind) → items k ≡ item_level_faults functions records (out-ItemKind k)
  unfolding items qualifiers assocs catches expr_kind_faults clause_kind_faults
  item-out k =
      fold_out-ItemKind Faults (List PlacedFault) (List PlacedFault) (List PlacedFault) (List PlacedFault) ClauseFaults (expr_layer functions records) (item_layer functions records) (qualifier_layer functions records) (assoc_layer functions records) (catch_layer functions records) (clause_layer functions records) k
      ∙ item-same (out-ItemKind k)

  qualifier-same : (o : E.QualifierKind-F ExprKind ItemKind QualifierKind AssocKind CatchKind ClauseKind) →
      qualifier_layer functions records (map-QualifierKind ExprKind ItemKind QualifierKind AssocKind CatchKind ClauseKind Faults (List PlacedFault) (List PlacedFault) (List PlacedFault) (List PlacedFault) ClauseFaults exprs items qualifiers assocs catches clauses o) ≡ qualifier_level_faults functions records o
  qualifier-same (E.Generator p e) = refl
  qualifier-same (E.Filter e) = refl

  qualifier-out : (k : QualifierKind) → qualifiers k ≡ qualifier_level_faults functions records (out-QualifierKind k)
  unfolding items qualifiers assocs catches expr_kind_faults clause_kind_faults
  qualifier-out k =
      fold_out-QualifierKind Faults (List PlacedFault) (List PlacedFault) (List PlacedFault) (List PlacedFault) ClauseFaults (expr_layer functions records) (item_layer functions records) (qualifier_layer functions records) (assoc_layer functions records) (catch_layer functions records) (clause_layer functions records) k
      ∙ qualifier-same (out-QualifierKind k)

  assoc-out : (k : AssocKind) → assocs k ≡ expr_faults functions records (out-AssocKind k).key ++ expr_faults functions records (out-AssocKind k).value
  unfolding items qualifiers assocs catches expr_kind_faults clause_kind_faults
  assoc-out k =
      fold_out-AssocKind Faults (List PlacedFault) (List PlacedFault) (List PlacedFault) (List PlacedFault) ClauseFaults (expr_layer functions records) (item_layer functions records) (qualifier_layer functions records) (assoc_layer functions records) (catch_layer functions records) (clause_layer functions records) k

  items-are : (is : List (Node ItemKind)) → faults_of_each kind_faults (S.former-ExprKind-Begin-0.map ItemKind (List PlacedFault) items is) ≡ faults_of_each (item_faults functions records) is
  items-are [] = refl
  items-are (i ∷ is) = ap₂ ◌++◌ (item-out i.kind) (items-are is)

  optional-items-are : (o : Option (List (Node ItemKind))) → faults_of_optional (faults_of_each kind_faults) (S.former-ExprKind-Try-3.map ItemKind (List PlacedFault) items o) ≡ faults_of_optional (faults_of_each (item_faults functions records)) o
  optional-items-are None = refl
  optional-items-are (Some is) = items-are is

  qualifiers-are : (qs : List (Node QualifierKind)) → faults_of_each kind_faults (S.former-ExprKind-Comp-1.map QualifierKind (List PlacedFault) qualifiers qs) ≡ faults_of_each (qualifier_faults functions records) qs
  qualifiers-are [] = refl
  qualifiers-are (q ∷ qs) = ap₂ ◌++◌ (qualifier-out q.kind) (qualifiers-are qs)

  assocs-are : (as' : List (Node AssocKind)) → faults_of_each kind_faults (S.former-ExprKind-MapNew-0.map AssocKind (List PlacedFault) assocs as') ≡ faults_of_each (assoc_faults functions records) as'
  assocs-are [] = refl
  assocs-are (a ∷ as') = ap₂ ◌++◌ (assoc-out a.kind) (assocs-are as')

  guard-is : (g : Option (Node (List (List (Node ExprKind))))) → faults_of_optional (λ n. faults_of_each (faults_of_each node_faults) n.kind) (S.former-ClauseKind-guard.map ExprKind Faults exprs g) ≡ faults_of_optional (guard_faults functions records) g
  guard-is None = refl
  guard-is (Some g) = alternatives-are g.kind
    where
      alternatives-are : (gs : List (List (Node ExprKind))) → faults_of_each (faults_of_each node_faults) (S.former-ClauseKind-guard-at-8.map ExprKind Faults exprs gs) ≡ faults_of_each (faults_of_each (expr_faults functions records)) gs
      alternatives-are [] = refl
      alternatives-are (tests ∷ gs) = ap₂ ◌++◌ (exprs-are tests) (alternatives-are gs)

  -- a clause, with its arity
  abbrev clause_level : E.ClauseKind-F ExprKind ItemKind QualifierKind AssocKind CatchKind ClauseKind → ClauseFaults
  clause_level c = record { arity = length c.patterns; faults = clause_level_faults functions records c }

  clause-out : (k : ClauseKind) → clause_kind_faults functions records k ≡ clause_level (out-ClauseKind k)
  unfolding items qualifiers assocs catches expr_kind_faults clause_kind_faults
  clause-out k =
      fold_out-ClauseKind Faults (List PlacedFault) (List PlacedFault) (List PlacedFault) (List PlacedFault) ClauseFaults (expr_layer functions records) (item_layer functions records) (qualifier_layer functions records) (assoc_layer functions records) (catch_layer functions records) (clause_layer functions records) k
      ∙ (λ j. record {
        arity = length (out-ClauseKind k).patterns;
        faults = faults_of_each (pattern_faults functions records) (out-ClauseKind k).patterns ++ (guard-is (out-ClauseKind k).guard j ++ items-are (out-ClauseKind k).body j);
      })

  clauses-are : (cs : List (Node ClauseKind)) → faults_of_each G.clause_faults (S.former-ExprKind-Case-1.map ClauseKind ClauseFaults clauses cs) ≡ faults_of_each (clause_faults functions records) cs
  clauses-are [] = refl
  clauses-are (c ∷ cs) = ap₂ ◌++◌ (ap (λ (f : ClauseFaults). f.faults) (clause-out c.kind)) (clauses-are cs)

  clause-nodes-are : (cs : List (Node ClauseKind)) → S.former-ExprKind-Case-1.map ClauseKind ClauseFaults clauses cs ≡ map (clause_node functions records) cs
  clause-nodes-are [] = refl
  clause-nodes-are (c ∷ cs) = ap (λ ns. clause_node functions records c ∷ ns) (clause-nodes-are cs)

  catch-out : (k : CatchKind) → catches k ≡ faults_of_optional (pattern_faults functions records) (out-CatchKind k).class ++ clause_faults functions records (out-CatchKind k).clause
  unfolding items qualifiers assocs catches expr_kind_faults clause_kind_faults
  catch-out k =
      fold_out-CatchKind Faults (List PlacedFault) (List PlacedFault) (List PlacedFault) (List PlacedFault) ClauseFaults (expr_layer functions records) (item_layer functions records) (qualifier_layer functions records) (assoc_layer functions records) (catch_layer functions records) (clause_layer functions records) k
      ∙ ap (λ (f : ClauseFaults). faults_of_optional (pattern_faults functions records) (out-CatchKind k).class ++ f.faults) (clause-out (out-CatchKind k).clause.kind)

  catches-are : (cs : List (Node CatchKind)) → faults_of_each kind_faults (S.former-ExprKind-Try-2.map CatchKind (List PlacedFault) catches cs) ≡ faults_of_each (catch_faults functions records) cs
  catches-are [] = refl
  catches-are (c ∷ cs) = ap₂ ◌++◌ (catch-out c.kind) (catches-are cs)

  -- the clauses of a function, which all have the first one's number of patterns
  arities-are : (n : ℕ) (cs : List (Node ClauseKind)) → arities_differ n (map (clause_node functions records) cs) ≡ faults_of_each (other_arity n) cs
  arities-are n [] = refl
  arities-are n (c ∷ cs) = ap₂ ◌++◌ (ap (λ (f : ClauseFaults). unless (nat_eq f.arity n) ArityDiffers c.place) (clause-out c.kind)) (arities-are n cs)

  node-clauses-are : (cs : List (Node ClauseKind)) → faults_of_each G.clause_faults (map (clause_node functions records) cs) ≡ faults_of_each (clause_faults functions records) cs
  node-clauses-are cs = ap (faults_of_each G.clause_faults) (sym (clause-nodes-are cs)) ∙ clauses-are cs

  pub function-clauses-are : (cs : List (Node ClauseKind)) → clauses_faults (map (clause_node functions records) cs) ≡ function_clauses_faults functions records cs
  function-clauses-are [] = refl
  function-clauses-are (c ∷ cs) =
      ap₂ ◌++◌
      (ap (λ (f : ClauseFaults). arities_differ f.arity (map (clause_node functions records) cs)) (clause-out c.kind)
      ∙ (arities-are (clause_arity c) cs ∙ sym (ap (λ b. unless b ArityDiffers c.place ++ faults_of_each (other_arity (clause_arity c)) cs) (eq-itself (clause_arity c)))))
      (node-clauses-are (c ∷ cs))

  -- ---- one level of an expression

  level : ExprLevel → Faults
  level o place = plain_level_faults functions records o place ++ construct_level_faults functions records o place

  mapped : ExprLevel → E.ExprKind-F Faults (List PlacedFault) (List PlacedFault) (List PlacedFault) (List PlacedFault) ClauseFaults
  mapped o = map-ExprKind ExprKind ItemKind QualifierKind AssocKind CatchKind ClauseKind Faults (List PlacedFault) (List PlacedFault) (List PlacedFault) (List PlacedFault) ClauseFaults exprs items qualifiers assocs catches clauses o

  expr-same : (o : ExprLevel) (place : Place) → expr_layer functions records (mapped o) place ≡ level o place
  unfolding mapped level
  expr-same (E.Paren e) place = sym (append-nil (expr_faults functions records e))
  expr-same (E.Tuple es) place = exprs-are es ∙ sym (append-nil (faults_of_each (expr_faults functions records) es))
  expr-same (E.Cells es tail) place = (λ j. exprs-are es j ++ tail-expr-is tail j) ∙ sym (append-nil (faults_of_each (expr_faults functions records) es ++ optional_expr_faults functions records tail))
  expr-same (E.Comp e qs) place = λ j. expr_faults functions records e ++ qualifiers-are qs j
  expr-same (E.Unary op e) place = sym (append-nil (expr_faults functions records e))
  expr-same (E.Binary op a b) place = sym (append-nil (expr_faults functions records a ++ expr_faults functions records b))
  expr-same (E.Call prefix name args) place =
      (λ j. call_faults functions records prefix (of_function name (expr-count args j)) place ++ exprs-are args j)
      ∙ sym (append-nil (call_faults functions records prefix (of_function name (length args)) place ++ faults_of_each (expr_faults functions records) args))
  expr-same (E.Apply f args) place = (λ j. expr_faults functions records f ++ exprs-are args j) ∙ sym (append-nil (expr_faults functions records f ++ faults_of_each (expr_faults functions records) args))
  expr-same (E.MapNew assocs) place = assocs-are assocs ∙ sym (append-nil (faults_of_each (assoc_faults functions records) assocs))
  expr-same (E.MapChange e assocs) place = (λ j. expr_faults functions records e ++ assocs-are assocs j) ∙ sym (append-nil (expr_faults functions records e ++ faults_of_each (assoc_faults functions records) assocs))
  expr-same (E.RecNew name tag fields) place =
      (λ j. declared_faults (find_record records name) place ++ (value-names-are (find_record records name) [] fields j ++ values-are fields j))
      ∙ sym (append_assoc (declared_faults (find_record records name) place) (fields_faults (find_record records name) [] fields) (faults_of_each (value_faults functions records) fields))
  expr-same (E.RecChange e name tag fields) place =
      ap (λ fs. expr_faults functions records e ++ fs)
      ((λ j. declared_faults (find_record records name) place ++ (value-names-are (find_record records name) [] fields j ++ values-are fields j))
      ∙ sym (append_assoc (declared_faults (find_record records name) place) (fields_faults (find_record records name) [] fields) (faults_of_each (value_faults functions records) fields)))
  expr-same (E.Begin is) place = items-are is
  expr-same (E.Case e cs) place = λ j. expr_faults functions records e ++ clauses-are cs j
  expr-same (E.If cs) place = clauses-are cs
  expr-same (E.FunName name n) place = sym (append-nil (unless (is_defined_at functions records name n) NoSuchFunction place))
  expr-same (E.Fun cs) place = ap clauses_faults (clause-nodes-are cs) ∙ function-clauses-are cs
  expr-same (E.Try body of_clauses catches after) place = λ j. items-are body j ++ (clauses-are of_clauses j ++ (catches-are catches j ++ optional-items-are after j))
  expr-same _ place = refl

  pub expr-out : (k : ExprKind) (place : Place) → expr_kind_faults functions records k place ≡ plain_level_faults functions records (out-ExprKind k) place ++ construct_level_faults functions records (out-ExprKind k) place
  unfolding items qualifiers assocs catches expr_kind_faults clause_kind_faults mapped level
  expr-out k place =
      (λ j. fold_out-ExprKind Faults (List PlacedFault) (List PlacedFault) (List PlacedFault) (List PlacedFault) ClauseFaults (expr_layer functions records) (item_layer functions records) (qualifier_layer functions records) (assoc_layer functions records) (catch_layer functions records) (clause_layer functions records) k j place)
      ∙ expr-same (out-ExprKind k) place

pub ruleset pattern_laws = (pattern-out)
