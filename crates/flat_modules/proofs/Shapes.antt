-- The well-formed nodes of flat modules, each as a node that is made of its parts.
use Rattle.std.proofs.Common.{◌≡◌, ℕ, List, [], ◌∷◌, ◌++◌, map, length, None, refl, ap, sym, subst, ◌∙◌}
use Rattle.std.specs.Prelude.{codes}
use Rattle.erl_tree.specs.Lists.{Every}
use Rattle.erl_tree.specs.declared.token.Place.{Place}
use Rattle.erl_tree.specs.declared.token.Node.{Node}
use Rattle.erl_tree.specs.declared.token.Token.TheVariants as T
use Rattle.erl_tree.specs.declared.pattern.PatternKind.{PatternKind, out-PatternKind, roll-PatternKind, roll-out-PatternKind}
use Rattle.erl_tree.specs.declared.pattern.PatternKind.TheVariants as P
use Rattle.erl_tree.specs.declared.pattern.PatternKind.TheOpen as OP
use Rattle.erl_tree.specs.declared.type_expr.TypeKind.{TypeKind}
use Rattle.erl_tree.specs.declared.expr.ExprKind.{ExprKind}
use Rattle.erl_tree.specs.declared.expr.ExprKind.TheOpen as OE
use Rattle.erl_tree.specs.declared.expr.ItemKind.{ItemKind, out-ItemKind, roll-ItemKind, roll-out-ItemKind}
use Rattle.erl_tree.specs.declared.expr.ItemKind.TheVariants as I
use Rattle.erl_tree.specs.declared.expr.ClauseKind.{ClauseKind, out-ClauseKind, roll-ClauseKind, roll-out-ClauseKind, out-roll-ClauseKind}
use Rattle.erl_tree.specs.declared.expr.QualifierKind.{QualifierKind}
use Rattle.erl_tree.specs.declared.expr.AssocKind.{AssocKind}
use Rattle.erl_tree.specs.declared.expr.CatchKind.{CatchKind}
use Rattle.erl_tree.specs.declared.form.SpecKind.{SpecKind}
use Rattle.erl_tree.specs.declared.form.SpecClauseKind.{SpecClauseKind}
use Rattle.erl_tree.specs.declared.form.Function.{Function}
use Rattle.flat_modules.specs.Spelling.{at, atom, mark, params_tokens, pattern_tokens, expr_tokens, body_tokens, function_tokens, clause_layer}
use Rattle.flat_modules.specs.Grammar.{node, IsType, is_pattern_layer, IsPattern, IsExpr, is_item_layer, IsBody, IsArity, AreParamMarks, is_clause_layer, is_function_layer, IsFunction, is_spec_clause_layer, IsSpecClause, is_spec_layer, IsSpec}
use Rattle.erl_grammar.specs.Grammar.{clause_of}

-- where the place and the kind are those of another node
shape_as : {K : Type 0} (Shape : Node K → Type 0) (p q : Place) (ms : List Place) (k l : K) → p ≡ q → k ≡ l → Shape (node q ms l) → Shape (node p ms k)
shape_as Shape p q ms k l e f h = subst Shape (sym (ap (λ x. node x ms k) e ∙ ap (λ x. node q ms x) f)) h

-- ---- patterns

pub data PatternShape : Node PatternKind → Type 0 where
  variable : (v : List ℕ) (p : Place) → PatternShape (node p (p ∷ []) (P.Var v))

pattern_shape_by : (k : PatternKind) (o : OP.PatternKind-F PatternKind) (p : Place) (ms : List Place) → out-PatternKind k ≡ o → is_pattern_layer o p ms → PatternShape (node p ms k)
pattern_shape_by k (OP.Var v) p (q ∷ []) e h = shape_as PatternShape p q (q ∷ []) k (P.Var v) h (sym (roll-out-PatternKind k) ∙ (ap roll-PatternKind e ∙ P.rolls-Var v)) (variable v q)
pattern_shape_by k _ p ms e h = absurd h

pub pattern_shape : (x : Node PatternKind) → IsPattern x → PatternShape x
pattern_shape x h = pattern_shape_by x.kind (out-PatternKind x.kind) x.place x.marks refl h

-- ---- bodies

pub data BodyShape : List (Node ItemKind) → Type 0 where
  value : (e : Node ExprKind) → IsExpr e → BodyShape (node e.place [] (I.Value e) ∷ [])

item_shape_by : (k : ItemKind) (o : OE.ItemKind-F ExprKind ItemKind QualifierKind AssocKind CatchKind ClauseKind) (p : Place) (ms : List Place) → out-ItemKind k ≡ o → is_item_layer o p ms → BodyShape (node p ms k ∷ [])
item_shape_by k (OE.Value e) p [] f h = shape_as (λ i. BodyShape (i ∷ [])) p e.place [] k (I.Value e) h.0 (sym (roll-out-ItemKind k) ∙ (ap roll-ItemKind f ∙ I.rolls-Value e)) (value e h.1)
item_shape_by k _ p ms e h = absurd h

pub body_shape : (b : List (Node ItemKind)) → IsBody b → BodyShape b
body_shape [] h = absurd h
body_shape (i ∷ []) h = item_shape_by i.kind (out-ItemKind i.kind) i.place i.marks refl h
body_shape (i ∷ j ∷ is) h = absurd h

pub body_tokens-value : (e : Node ExprKind) → body_tokens (node e.place [] (I.Value e) ∷ []) ≡ expr_tokens e
body_tokens-value e = rw (I.outs-Value e) refl

-- ---- functions

abbrev pub function_node : List ℕ → Place → Place → Place → List (Node PatternKind) → List Place → List (Node ItemKind) → Function
function_node name n o d ps ms b = record { name = name; place = n; marks = d ∷ []; clauses = node n (n ∷ o ∷ ms) (clause_of ps None b) ∷ [] }

pub data FunctionShape : Function → Type 0 where
  function : (name : List ℕ) (n o d : Place) (ps : List (Node PatternKind)) (ms : List Place) (b : List (Node ItemKind)) → Every IsPattern ps → IsArity (length ps) → AreParamMarks (length ps) ms → BodyShape b → FunctionShape (function_node name n o d ps ms b)

clause_is : (k : ClauseKind) → (out-ClauseKind k).guard ≡ None → k ≡ clause_of (out-ClauseKind k).patterns None (out-ClauseKind k).body
clause_is k e = sym (roll-out-ClauseKind k) ∙ ap (λ g. roll-ClauseKind (record { patterns = (out-ClauseKind k).patterns; guard = g; body = (out-ClauseKind k).body })) e

abbrev function_at : List ℕ → Place → Place → Place → Place → List Place → ClauseKind → Place → Function
function_at name p q n o ms k d = record { name = name; place = p; marks = d ∷ []; clauses = node q (n ∷ o ∷ ms) k ∷ [] }

function_shape_by : (name : List ℕ) (k : ClauseKind) (p q : Place) (ms : List Place) (d : Place) → p ≡ q → is_clause_layer (out-ClauseKind k) q ms → FunctionShape (record { name = name; place = p; marks = d ∷ []; clauses = node q ms k ∷ [] })
function_shape_by name k p q [] d e h = absurd h
function_shape_by name k p q (n ∷ []) d e h = absurd h
function_shape_by name k p q (n ∷ o ∷ ms) d e h =
    let c = out-ClauseKind k in
    let whole : record { name = name; place = p; marks = d ∷ []; clauses = node q (n ∷ o ∷ ms) k ∷ [] } ≡ function_node name n o d c.patterns ms c.body =
    ap (λ x. function_at name x q n o ms k d) (e ∙ h.0) ∙ (ap (λ x. function_at name n x n o ms k d) h.0 ∙ ap (λ x. function_at name n n n o ms x d) (clause_is k h.1)) in
    subst FunctionShape (sym whole) (function name n o d c.patterns ms c.body h.2 h.3 h.4 (body_shape c.body h.5))

function_shape_of : (name : List ℕ) (cs : List (Node ClauseKind)) (p : Place) (ms : List Place) → is_function_layer cs p ms → FunctionShape (record { name = name; place = p; marks = ms; clauses = cs })
function_shape_of name (c ∷ []) p (d ∷ []) h = function_shape_by name c.kind p c.place c.marks d h.0 h.1
function_shape_of name cs p ms h = absurd h

pub function_shape : (f : Function) → IsFunction f → FunctionShape f
function_shape f h = function_shape_of f.name f.clauses f.place f.marks h

pub function_tokens-node : (name : List ℕ) (n o d : Place) (ps : List (Node PatternKind)) (ms : List Place) (b : List (Node ItemKind))
    → function_tokens (function_node name n o d ps ms b) ≡ (atom name n ∷ mark (codes "(") o ∷ params_tokens (map pattern_tokens ps) ms (body_tokens b)) ++ at T.Dot d ∷ []
function_tokens-node name n o d ps ms b = ap (λ c. clause_layer name c (n ∷ o ∷ ms) ++ at T.Dot d ∷ []) (out-roll-ClauseKind (record { patterns = ps; guard = None; body = b }))

-- ---- specs

abbrev pub spec_clause_node : Place → List (Node TypeKind) → List Place → Node TypeKind → Node SpecClauseKind
spec_clause_node o ts ms t = node o (o ∷ ms) (record { params = ts; result = t; bounds = [] })

pub data SpecClauseShape : Node SpecClauseKind → Type 0 where
  spec_clause : (o : Place) (ts : List (Node TypeKind)) (ms : List Place) (t : Node TypeKind) → Every IsType ts → IsArity (length ts) → AreParamMarks (length ts) ms → IsType t → SpecClauseShape (spec_clause_node o ts ms t)

spec_clause_shape_by : (ts : List (Node TypeKind)) (t : Node TypeKind) (bs : List (List ℕ × Node TypeKind)) (p : Place) (ms : List Place) → is_spec_clause_layer (record { params = ts; result = t; bounds = bs }) p ms → SpecClauseShape (node p ms (record { params = ts; result = t; bounds = bs }))
spec_clause_shape_by ts t bs p [] h = absurd h
spec_clause_shape_by ts t bs p (o ∷ ms) h =
    shape_as SpecClauseShape p o (o ∷ ms) (record { params = ts; result = t; bounds = bs }) (record { params = ts; result = t; bounds = [] }) h.0 (ap (λ b. record { params = ts; result = t; bounds = b }) h.5) (spec_clause o ts ms t h.1 h.2 h.3 h.4)

pub spec_clause_shape : (c : Node SpecClauseKind) → IsSpecClause c → SpecClauseShape c
spec_clause_shape c h = spec_clause_shape_by c.kind.params c.kind.result c.kind.bounds c.place c.marks h

abbrev pub spec_node : Place → Place → Place → Place → List ℕ → Node SpecClauseKind → Node SpecKind
spec_node h s n d name c = node h (h ∷ s ∷ n ∷ d ∷ []) (record { name = name; clauses = c ∷ [] })

pub data SpecShape : Node SpecKind → Type 0 where
  spec : (h s n d : Place) (name : List ℕ) (c : Node SpecClauseKind) → SpecClauseShape c → SpecShape (spec_node h s n d name c)

spec_shape_by : (name : List ℕ) (cs : List (Node SpecClauseKind)) (p : Place) (ms : List Place) → is_spec_layer cs p ms → SpecShape (node p ms (record { name = name; clauses = cs }))
spec_shape_by name (c ∷ []) p (h ∷ s ∷ n ∷ d ∷ []) i = subst (λ x. SpecShape (node x (h ∷ s ∷ n ∷ d ∷ []) (record { name = name; clauses = c ∷ [] }))) (sym i.0) (spec h s n d name c (spec_clause_shape c i.1))
spec_shape_by name cs p ms i = absurd i

pub spec_shape : (s : Node SpecKind) → IsSpec s → SpecShape s
spec_shape s h = spec_shape_by s.kind.name s.kind.clauses s.place s.marks h
