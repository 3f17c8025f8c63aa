-- Where no variable of a flat function is at fault, each that its expression uses is bound in its head.
use Rattle.std.proofs.Common.{◌≡◌, refl, ap, sym, subst, ◌∙◌, List, [], ◌∷◌, ◌++◌, map, ◌⊎◌, inl, inr, Bool, true, false, append-nil}
use Rattle.std.specs.Prelude.{Option, Some, None, cond, if◌then◌else◌}
use Rattle.std.proofs.lemmas.List.{map-append}
use Rattle.type_terms.specs.Keys.{Name, same_name}
use Rattle.type_terms.proofs.KeyLaws.{name-is}
use Rattle.erl_tree.specs.Lists.{Every, Among}
use Rattle.erl_tree.specs.declared.token.Place.{Place}
use Rattle.erl_tree.specs.declared.token.Node.{Node}
use Rattle.erl_tree.specs.declared.pattern.PatternKind.{PatternKind, out-PatternKind}
use Rattle.erl_tree.specs.declared.pattern.PatternKind.TheVariants as V
use Rattle.erl_tree.specs.declared.expr.BinaryOp.{BinaryOp}
use Rattle.erl_tree.specs.declared.expr.BinaryOp.TheVariants.{Mul}
use Rattle.erl_tree.specs.declared.expr.ExprKind.{ExprKind}
use Rattle.erl_tree.specs.declared.expr.ExprKind.TheVariants as X
use Rattle.erl_tree.specs.declared.expr.ExprKind.TheOpen as E
use Rattle.erl_tree.specs.declared.expr.ItemKind.{ItemKind, out-ItemKind}
use Rattle.erl_tree.specs.declared.expr.ItemKind.TheVariants as I
use Rattle.erl_tree.specs.declared.expr.ClauseKind.{ClauseKind, out-roll-ClauseKind}
use Rattle.erl_tree.specs.declared.expr.QualifierKind.{QualifierKind}
use Rattle.erl_tree.specs.declared.expr.AssocKind.{AssocKind}
use Rattle.erl_tree.specs.declared.expr.CatchKind.{CatchKind}
use Rattle.erl_tree.specs.declared.form.Function.{Function}
use Rattle.erl_grammar.specs.Grammar.{clause_of}
use Rattle.erl_runs.specs.Names.{is_wildcard}
use Rattle.erl_scope_rules.specs.declared.fault.NameFault.{NameFault}
use Rattle.erl_scope_rules.specs.declared.role.Role.TheVariants.{Used, Met}
use Rattle.erl_scope_rules.specs.Occurrences.{Mark, names_of, Occurrence, Part, body, seeing, behind, in_turn, variables_of, row_variables, mark_behind, marks_behind, row, row_marks, use_at, expr_part, clause_kind_part, function_occurrences}
use Rattle.erl_scope_rules.specs.Bindings.{bound_by_role, innermost}
use Rattle.erl_scope_rules.specs.ScopeFaults.{at, faults_of_each, faults_of_optional, stands_among, role_fault, occurrence_faults}
use Rattle.erl_scope_rules.proofs.OccurrenceLaws.{variables-Var, part-Var, part-Paren, part-Binary, part-Call, step-Value, body_in, part-roll_clause}
use Rattle.erl_scope_rules.proofs.OccurrenceLists.{seeing-append, behind-append, behind-behind, faults_of_each-append}
use Rattle.flat_modules.specs.FlatNames.{bound_layer, bound_by, used_in, used_item_layer, used_by, IsScoped}
use Rattle.flat_modules.specs.Grammar.{node, IsPattern, IsExpr, one_product, sum, IsProduct, one_operand, product, IsOperand, integer, atom, variable, parens, call, AreArguments, no_arguments, last_argument, more_arguments, IsFunction}
use Rattle.flat_modules.proofs.FlatNameEquations.{all_used, used_in-Int, used_in-Atom, used_in-Var, used_in-Paren, used_in-Binary, used_in-Call}
use Rattle.flat_modules.proofs.Lists.{every-so}
use Rattle.flat_modules.proofs.Shapes.{PatternShape, pattern_shape, FunctionShape, function, function_shape}
use Rattle.flat_modules.proofs.Shapes as S

-- ---- lists

-- a list is empty only where both its parts are
pub append-none : {A : Type 0} (xs ys : List A) → xs ++ ys ≡ [] → (xs ≡ []) × (ys ≡ [])
append-none [] ys h = (refl, h)
append-none (x ∷ xs) ys h = absurd (cc)

pub every-join : {A : Type 0} (Q : A → Type 0) (xs ys : List A) → Every Q xs → Every Q ys → Every Q (xs ++ ys)
every-join Q [] ys h k = k
every-join Q (x ∷ xs) ys h k = (h.0, every-join Q xs ys h.1 k)

-- ---- one occurrence

-- a name with a binding is one of those that are seen
seen-named : (x : Name) (marks : List Mark) → (innermost x marks ≡ None → ⊥) → Among x (names_of marks)
seen-named x [] h = absurd (h refl)
seen-named x (m ∷ ms) h = go (same_name m.name x) refl h (seen-named x ms)
  where
    go : (same : Bool) → same_name m.name x ≡ same → (cond same (bound_by_role m.role m (innermost x ms)) (innermost x ms) ≡ None → ⊥) → ((innermost x ms ≡ None → ⊥) → Among x (names_of ms)) → (x ≡ m.name) ⊎ Among x (names_of ms)
    go true e h more = inl (sym (name-is m.name x e))
    go false e h more = inr (more h)

-- a use that isn't at fault has a binding
use-bound : (outer : Option Mark) (ended : Bool) (place : Place) → faults_of_optional (λ (fault : NameFault). at fault place) (role_fault Used outer ended) ≡ [] → outer ≡ None → ⊥
use-bound None true place h e = cc
use-bound None false place h e = cc
use-bound (Some b) ended place h e = cc

-- ---- expressions that see some variables

module _ (seen : List Mark) where
  -- none of these occurrences is at fault, where they see the variables, behind constructs with these names inside
  abbrev AreFaultless : List Name → List Occurrence → Type 0
  AreFaultless ended os = faults_of_each occurrence_faults (seeing seen (behind ended os)) ≡ []

  abbrev IsSeen : Name → Type 0
  IsSeen x = Among x (names_of seen)

  both-faultless : (ended : List Name) (os ps : List Occurrence) → AreFaultless ended (os ++ ps) → AreFaultless ended os × AreFaultless ended ps
  both-faultless ended os ps h =
      let both : seeing seen (behind ended (os ++ ps)) ≡ seeing seen (behind ended os) ++ seeing seen (behind ended ps) = ap (seeing seen) (behind-append ended os ps) ∙ seeing-append seen (behind ended os) (behind ended ps) in
      append-none _ _ (sym (ap (faults_of_each occurrence_faults) both ∙ faults_of_each-append occurrence_faults (seeing seen (behind ended os)) (seeing seen (behind ended ps))) ∙ h)

  turn-faultless : (p : Part) (ps : List Part) (ended : List Name) → AreFaultless ended (in_turn (p ∷ ps)).occurrences → AreFaultless ended p.occurrences × AreFaultless (p.left ++ ended) (in_turn ps).occurrences
  turn-faultless p ps ended h =
      let both : AreFaultless ended p.occurrences × AreFaultless ended (behind p.left (in_turn ps).occurrences) = both-faultless ended p.occurrences (behind p.left (in_turn ps).occurrences) h in
      (both.0, subst (λ os. faults_of_each occurrence_faults (seeing seen os) ≡ []) (behind-behind ended p.left (in_turn ps).occurrences) both.1)

  use-seen : (x : Name) (place : Place) (ended : List Name) → AreFaultless ended (use_at x place).occurrences → IsSeen x
  use-seen x place ended h = seen-named x seen (use-bound (innermost x seen) (stands_among x ended) place (append-none _ _ h).0)

  -- what an expression comes to whose occurrences aren't at fault
  abbrev SeesAll : Node ExprKind → Type 0
  SeesAll e = (ended : List Name) → AreFaultless ended (expr_part e).occurrences → Every IsSeen (used_in e.kind)

  two-seen : (op : BinaryOp) (a b : Node ExprKind) (p : Place) (ms : List Place) → SeesAll a → SeesAll b → SeesAll (node p ms (X.Binary op a b))
  two-seen op a b p ms f g ended r =
      let turns : AreFaultless ended (in_turn (expr_part a ∷ expr_part b ∷ [])).occurrences = subst (λ (q : Part). AreFaultless ended q.occurrences) (part-Binary op a b p) r in
      let left : AreFaultless ended (expr_part a).occurrences × AreFaultless ((expr_part a).left ++ ended) (in_turn (expr_part b ∷ [])).occurrences = turn-faultless (expr_part a) (expr_part b ∷ []) ended turns in
      let right : AreFaultless ((expr_part a).left ++ ended) (expr_part b).occurrences × AreFaultless ((expr_part b).left ++ ((expr_part a).left ++ ended)) [] = turn-faultless (expr_part b) [] ((expr_part a).left ++ ended) left.1 in
      subst (Every IsSeen) (sym (used_in-Binary op a b)) (every-join IsSeen (used_in a.kind) (used_in b.kind) (f ended left.0) (g ((expr_part a).left ++ ended) right.0))

  call-seen : (name : Name) (args : List (Node ExprKind)) (p : Place) (ms : List Place) → ((ended : List Name) → AreFaultless ended (in_turn (map expr_part args)).occurrences → Every IsSeen (all_used args)) → SeesAll (node p ms (X.Call None name args))
  call-seen name args p ms f ended r = subst (Every IsSeen) (sym (used_in-Call name args)) (f ended (subst (λ (q : Part). AreFaultless ended q.occurrences) (part-Call None name args p) r))

  mutual
    expr-seen : (e : Node ExprKind) → IsExpr e → SeesAll e
    expr-seen _ (one_product e h) = product-seen e h
    expr-seen _ (sum op a b m o h k) = two-seen op a b a.place (m ∷ []) (expr-seen a h) (product-seen b k)

    product-seen : (e : Node ExprKind) → IsProduct e → SeesAll e
    product-seen _ (one_operand e h) = operand-seen e h
    product-seen _ (product a b m h k) = two-seen Mul a b a.place (m ∷ []) (product-seen a h) (operand-seen b k)

    operand-seen : (e : Node ExprKind) → IsOperand e → SeesAll e
    operand-seen _ (integer p n) = λ ended r. subst (Every IsSeen) (sym (used_in-Int n)) tt
    operand-seen _ (atom p a) = λ ended r. subst (Every IsSeen) (sym (used_in-Atom a)) tt
    operand-seen _ (variable p x) = λ ended r. subst (Every IsSeen) (sym (used_in-Var x)) (use-seen x p ended (subst (λ (q : Part). AreFaultless ended q.occurrences) (part-Var x p) r), tt)
    operand-seen _ (parens o c e h) = λ ended r. subst (Every IsSeen) (sym (used_in-Paren e)) (expr-seen e h ended (subst (λ (q : Part). AreFaultless ended q.occurrences) (part-Paren e o) r))
    operand-seen _ (call n o ms name args h) = call-seen name args n (n ∷ o ∷ ms) (args-seen args ms h)

    args-seen : (args : List (Node ExprKind)) (ms : List Place) → AreArguments args ms → (ended : List Name) → AreFaultless ended (in_turn (map expr_part args)).occurrences → Every IsSeen (all_used args)
    args-seen _ _ (no_arguments c) ended r = tt
    args-seen _ _ (last_argument e c h) ended r = every-join IsSeen (used_in e.kind) [] (expr-seen e h ended (turn-faultless (expr_part e) [] ended r).0) tt
    args-seen _ _ (more_arguments e f es m ms h k) ended r =
        let turns : AreFaultless ended (expr_part e).occurrences × AreFaultless ((expr_part e).left ++ ended) (in_turn (map expr_part (f ∷ es))).occurrences = turn-faultless (expr_part e) (map expr_part (f ∷ es)) ended r in
        every-join IsSeen (used_in e.kind) (all_used (f ∷ es)) (expr-seen e h ended turns.0) (args-seen (f ∷ es) ms k ((expr_part e).left ++ ended) turns.1)

-- ---- heads

-- the names that are seen of a row stood before it or stand in it
row-named : (before : List Mark) (vs : List (Name × Place)) (x : Name) → Among x (names_of (marks_behind Met before vs)) → Among x (names_of before) ⊎ Among x (map (λ v. v.0) vs)
row-named before [] x h = inl h
row-named before (v ∷ vs) x h = go (row-named (mark_behind Met before v ∷ before) vs x h)
  where
    go : Among x (names_of (mark_behind Met before v ∷ before)) ⊎ Among x (map (λ (w : Name × Place). w.0) vs) → Among x (names_of before) ⊎ ((x ≡ v.0) ⊎ Among x (map (λ (w : Name × Place). w.0) vs))
    go (inl (inl e)) = inr (inl e)
    go (inl (inr i)) = inl i
    go (inr i) = inr (inr i)

pattern-names : (p : Node PatternKind) → PatternShape p → map (λ v. v.0) (variables_of p) ≡ bound_layer (out-PatternKind p.kind)
pattern-names _ (S.variable v p) = ap (map (λ (w : Name × Place). w.0)) (variables-Var v p) ∙ (go (is_wildcard v) ∙ sym (ap bound_layer (V.outs-Var v)))
  where
    go : (wild : Bool) → map (λ (w : Name × Place). w.0) (if wild then [] else (v, p) ∷ []) ≡ (if wild then [] else v ∷ [])
    go true = refl
    go false = refl

head-names : (ps : List (Node PatternKind)) → Every IsPattern ps → map (λ v. v.0) (row_variables ps) ≡ bound_by ps
head-names [] h = refl
head-names (p ∷ ps) h =
    map-append (λ (w : Name × Place). w.0) (variables_of p) (row_variables ps)
    ∙ (ap (λ xs. xs ++ map (λ (w : Name × Place). w.0) (row_variables ps)) (pattern-names p (pattern_shape p h.0)) ∙ ap (λ xs. bound_layer (out-PatternKind p.kind) ++ xs) (head-names ps h.1))

head-bound : (ps : List (Node PatternKind)) → Every IsPattern ps → (x : Name) → Among x (names_of (row_marks Met ps)) → Among x (bound_by ps)
head-bound ps h x i = elim (row-named [] (row_variables ps) x i) [ inl n ↦ absurd n | inr j ↦ subst (Among x) (head-names ps h) j ]

-- ---- functions

-- an element of a body that is an expression
abbrev value_node : Node ExprKind → Node ItemKind
value_node e = node e.place [] (I.Value e)

body-occurrences : (e : Node ExprKind) → (body_in (value_node e ∷ [])).occurrences ≡ (expr_part e).occurrences
body-occurrences e = ap (λ s. (body (s ∷ [])).occurrences) (step-Value e) ∙ append-nil (expr_part e).occurrences

-- what stands in a function whose body is an expression
function-parts : (name : Name) (n o d : Place) (ps : List (Node PatternKind)) (ms : List Place) (e : Node ExprKind) → function_occurrences (S.function_node name n o d ps ms (value_node e ∷ [])) ≡ row Met ps ++ seeing (row_marks Met ps) (behind [] (expr_part e).occurrences)
function-parts name n o d ps ms e =
    append-nil (clause_kind_part (clause_of ps None (value_node e ∷ [])) Met []).occurrences
    ∙ (ap (λ (p : Part). p.occurrences) (part-roll_clause (record { patterns = ps; guard = None; body = value_node e ∷ [] }) Met [])
    ∙ ap (λ os. row Met ps ++ seeing (row_marks Met ps) (behind [] os)) (body-occurrences e))

used-body : (e : Node ExprKind) → used_by (value_node e ∷ []) ≡ used_in e.kind
used-body e = append-nil (used_item_layer (out-ItemKind (I.Value e))) ∙ ap used_item_layer (I.outs-Value e)

abbrev IsScopedLayer : E.ClauseKind-F ExprKind ItemKind QualifierKind AssocKind CatchKind ClauseKind → Type 0
IsScopedLayer l = Every (λ x. Among x (bound_by l.patterns)) (used_by l.body)

function_scoped : (f : Function) → FunctionShape f → faults_of_each occurrence_faults (function_occurrences f) ≡ [] → IsScoped f
function_scoped _ (function name n o d ps ms _ h i j (S.value e k)) r =
    let both : (faults_of_each occurrence_faults (row Met ps) ≡ []) × AreFaultless (row_marks Met ps) [] (expr_part e).occurrences
    = append-none _ _ (sym (ap (faults_of_each occurrence_faults) (function-parts name n o d ps ms e) ∙ faults_of_each-append occurrence_faults (row Met ps) (seeing (row_marks Met ps) (behind [] (expr_part e).occurrences))) ∙ r) in
    let bound : Every (λ x. Among x (bound_by ps)) (used_in e.kind) = every-so (IsSeen (row_marks Met ps)) (λ x. Among x (bound_by ps)) (used_in e.kind) (head-bound ps h) (expr-seen (row_marks Met ps) e k [] both.1) in
    (subst IsScopedLayer (sym (out-roll-ClauseKind (record { patterns = ps; guard = None; body = value_node e ∷ [] }))) (subst (Every (λ x. Among x (bound_by ps))) (sym (used-body e)) bound), tt)

pub function-scoped : (f : Function) → IsFunction f → faults_of_each occurrence_faults (function_occurrences f) ≡ [] → IsScoped f
function-scoped f h r = function_scoped f (function_shape f h) r
