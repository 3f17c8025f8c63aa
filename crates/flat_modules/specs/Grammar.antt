-- The grammar of flat modules, a part of the grammar of all modules (Erlang Reference Manual, "Expressions", "Functions", "Types and Function Specifications"). Each node has the parts and the number of marks of a production of the grammar and the place of its first token, and each operand binds as tightly as its place asks.
use Rattle.std.specs.Prelude.{◌≡◌, ℕ, ℤ, zero, suc, List, [], ◌∷◌, ◌≤◌, length, None}
use Rattle.erl_tree.specs.Lists.{Every}
use Rattle.type_terms.specs.Keys.{Name}
use Rattle.erl_tree.specs.declared.token.Place.{Place}
use Rattle.erl_tree.specs.declared.token.Node.{Node}
use Rattle.erl_tree.specs.declared.pattern.LiteralKind.{LiteralKind}
use Rattle.erl_tree.specs.declared.pattern.LiteralKind.TheVariants as L
use Rattle.erl_tree.specs.declared.pattern.PatternKind.{PatternKind, out-PatternKind}
use Rattle.erl_tree.specs.declared.pattern.PatternKind.TheOpen as P
use Rattle.erl_tree.specs.declared.type_expr.TypeKind.{TypeKind}
use Rattle.erl_tree.specs.declared.type_expr.TypeKind.TheVariants as Y
use Rattle.erl_tree.specs.declared.expr.BinaryOp.{BinaryOp}
use Rattle.erl_tree.specs.declared.expr.BinaryOp.TheVariants.{Add, Sub, Mul}
use Rattle.erl_tree.specs.declared.expr.ExprKind.{ExprKind}
use Rattle.erl_tree.specs.declared.expr.ExprKind.TheVariants as X
use Rattle.erl_tree.specs.declared.expr.ItemKind.{ItemKind, out-ItemKind}
use Rattle.erl_tree.specs.declared.expr.ClauseKind.{ClauseKind, out-ClauseKind}
use Rattle.erl_tree.specs.declared.expr.QualifierKind.{QualifierKind}
use Rattle.erl_tree.specs.declared.expr.AssocKind.{AssocKind}
use Rattle.erl_tree.specs.declared.expr.CatchKind.{CatchKind}
use Rattle.erl_tree.specs.declared.expr.ExprKind.TheOpen as E
use Rattle.erl_tree.specs.declared.form.SpecKind.{SpecKind}
use Rattle.erl_tree.specs.declared.form.SpecClauseKind.{SpecClauseKind}
use Rattle.erl_tree.specs.declared.form.Function.{Function}
use Rattle.erl_tree.specs.declared.form.TreeForm.{TreeForm}
use Rattle.erl_tree.specs.declared.form.TreeForm.TheVariants as F
use Rattle.erl_tree.specs.declared.form.Module.{Module}

-- a node of a tree: its place, its marks and what stands in it
abbrev pub node : {K : Type 0} → Place → List Place → K → Node K
node p ms k = record { place = p; marks = ms; kind = k }

-- ---- types

-- an end of a range: `1`, `-1`
abbrev pub is_end_layer : LiteralKind → Place → List Place → Type 0
is_end_layer (L.Int n) p (q ∷ []) = p ≡ q
is_end_layer (L.NegInt n) p (h ∷ q ∷ []) = p ≡ h
is_end_layer _ p ms = ⊥

-- an end of a range
abbrev pub IsEnd : Node LiteralKind → Type 0
IsEnd l = is_end_layer l.kind l.place l.marks

mutual
  -- a type: types with a bar between them, which group to the right
  pub data IsType : Node TypeKind → Type 0 where
    one_type : (t : Node TypeKind) → IsSimpleType t → IsType t
    union : (t u : Node TypeKind) (m : Place) → IsSimpleType t → IsType u → IsType (node t.place (m ∷ []) (Y.Or t u))

  -- a type without a bar outside of parentheses: `a`, `1`, `-1`, `1..2`, `integer()`, `(T)`
  pub data IsSimpleType : Node TypeKind → Type 0 where
    atom_type : (p : Place) (a : Name) → IsSimpleType (node p (p ∷ []) (Y.Atom a))
    integer_type : (p : Place) (n : ℤ) → IsSimpleType (node p (p ∷ []) (Y.Int n))
    negative_type : (h p : Place) (n : ℤ) → IsSimpleType (node h (h ∷ p ∷ []) (Y.NegInt n))
    range_type : (low high : Node LiteralKind) (m : Place) → IsEnd low → IsEnd high → IsSimpleType (node low.place (m ∷ []) (Y.Range low high))
    use_type : (p o c : Place) (name : Name) → IsSimpleType (node p (p ∷ o ∷ c ∷ []) (Y.Use None name []))
    paren_type : (o c : Place) (t : Node TypeKind) → IsType t → IsSimpleType (node o (o ∷ c ∷ []) (Y.Paren t))

-- ---- patterns

-- one level of a pattern: `X`, `_`
abbrev pub is_pattern_layer : P.PatternKind-F PatternKind → Place → List Place → Type 0
is_pattern_layer (P.Var x) p (q ∷ []) = p ≡ q
is_pattern_layer _ p ms = ⊥

-- a pattern of this part
abbrev pub IsPattern : Node PatternKind → Type 0
IsPattern p = is_pattern_layer (out-PatternKind p.kind) p.place p.marks

-- ---- expressions

-- `+` and `-`, which bind less tightly
abbrev pub IsAdditive : BinaryOp → Type 0
IsAdditive Add = Unit {0}
IsAdditive Sub = Unit {0}
IsAdditive _ = ⊥

mutual
  -- an expression: products with `+` or `-` between them, which group to the left
  pub data IsExpr : Node ExprKind → Type 0 where
    one_product : (e : Node ExprKind) → IsProduct e → IsExpr e
    sum : (op : BinaryOp) (a b : Node ExprKind) (m : Place) → IsAdditive op → IsExpr a → IsProduct b → IsExpr (node a.place (m ∷ []) (X.Binary op a b))

  -- operands with `*` between them, which group to the left
  pub data IsProduct : Node ExprKind → Type 0 where
    one_operand : (e : Node ExprKind) → IsOperand e → IsProduct e
    product : (a b : Node ExprKind) (m : Place) → IsProduct a → IsOperand b → IsProduct (node a.place (m ∷ []) (X.Binary Mul a b))

  -- `1`, `a`, `X`, `(E)`, `f(E, ..)`
  pub data IsOperand : Node ExprKind → Type 0 where
    integer : (p : Place) (n : ℤ) → IsOperand (node p (p ∷ []) (X.Int n))
    atom : (p : Place) (a : Name) → IsOperand (node p (p ∷ []) (X.Atom a))
    variable : (p : Place) (x : Name) → IsOperand (node p (p ∷ []) (X.Var x))
    parens : (o c : Place) (e : Node ExprKind) → IsExpr e → IsOperand (node o (o ∷ c ∷ []) (X.Paren e))
    call : (n o : Place) (ms : List Place) (name : Name) (args : List (Node ExprKind)) → AreArguments args ms → IsOperand (node n (n ∷ o ∷ ms) (X.Call None name args))

  -- arguments, with the marks behind the opening parenthesis: a comma between two of them, and the closing parenthesis
  pub data AreArguments : List (Node ExprKind) → List Place → Type 0 where
    no_arguments : (c : Place) → AreArguments [] (c ∷ [])
    last_argument : (e : Node ExprKind) (c : Place) → IsExpr e → AreArguments (e ∷ []) (c ∷ [])
    more_arguments : (e f : Node ExprKind) (es : List (Node ExprKind)) (m : Place) (ms : List Place) → IsExpr e → AreArguments (f ∷ es) ms → AreArguments (e ∷ f ∷ es) (m ∷ ms)

-- ---- bodies, clauses and forms

-- one level of an element of a body: an expression, at its place
abbrev pub is_item_layer : E.ItemKind-F ExprKind ItemKind QualifierKind AssocKind CatchKind ClauseKind → Place → List Place → Type 0
is_item_layer (E.Value e) p [] = (p ≡ e.place) × IsExpr e
is_item_layer _ p ms = ⊥

-- an element of a body
abbrev pub IsItem : Node ItemKind → Type 0
IsItem i = is_item_layer (out-ItemKind i.kind) i.place i.marks

-- a body of one element
abbrev pub IsBody : List (Node ItemKind) → Type 0
IsBody (i ∷ []) = IsItem i
IsBody _ = ⊥

-- a function, a spec and a fun have at most 255 parameters
abbrev pub IsArity : ℕ → Type 0
IsArity n = n ≤ 255

-- the marks behind an opening parenthesis: a comma between two of so many parameters, a closing parenthesis and an arrow
abbrev pub AreParamMarks : ℕ → List Place → Type 0
AreParamMarks zero (c ∷ a ∷ []) = Unit {0}
AreParamMarks (suc zero) (c ∷ a ∷ []) = Unit {0}
AreParamMarks (suc (suc n)) (m ∷ ms) = AreParamMarks (suc n) ms
AreParamMarks _ _ = ⊥

-- one level of a function's clause: `name(P, ..) -> E`
abbrev pub is_clause_layer : E.ClauseKind-F ExprKind ItemKind QualifierKind AssocKind CatchKind ClauseKind → Place → List Place → Type 0
is_clause_layer c p (n ∷ o ∷ ms) = (p ≡ n) × (c.guard ≡ None) × Every IsPattern c.patterns × IsArity (length c.patterns) × AreParamMarks (length c.patterns) ms × IsBody c.body
is_clause_layer c p _ = ⊥

-- a clause without a guard
abbrev pub IsClause : Node ClauseKind → Type 0
IsClause c = is_clause_layer (out-ClauseKind c.kind) c.place c.marks

-- the clauses of a function: `name(P, ..) -> E.`
abbrev pub is_function_layer : List (Node ClauseKind) → Place → List Place → Type 0
is_function_layer (c ∷ []) p (d ∷ []) = (p ≡ c.place) × IsClause c
is_function_layer _ p _ = ⊥

-- a function of one clause
abbrev pub IsFunction : Function → Type 0
IsFunction f = is_function_layer f.clauses f.place f.marks

-- one level of a spec's clause: `(T, ..) -> T`
abbrev pub is_spec_clause_layer : SpecClauseKind → Place → List Place → Type 0
is_spec_clause_layer c p (o ∷ ms) = (p ≡ o) × Every IsType c.params × IsArity (length c.params) × AreParamMarks (length c.params) ms × IsType c.result × (c.bounds ≡ [])
is_spec_clause_layer c p _ = ⊥

-- a clause without bounds
abbrev pub IsSpecClause : Node SpecClauseKind → Type 0
IsSpecClause c = is_spec_clause_layer c.kind c.place c.marks

-- the clauses of a spec: `-spec name(T, ..) -> T.`
abbrev pub is_spec_layer : List (Node SpecClauseKind) → Place → List Place → Type 0
is_spec_layer (c ∷ []) p (h ∷ s ∷ n ∷ d ∷ []) = (p ≡ h) × IsSpecClause c
is_spec_layer _ p _ = ⊥

-- a spec of one clause
abbrev pub IsSpec : Node SpecKind → Type 0
IsSpec s = is_spec_layer s.kind.clauses s.place s.marks

-- a form of this part
abbrev pub IsForm : TreeForm → Type 0
IsForm (F.Spec s) = IsSpec s
IsForm (F.Function f) = IsFunction f
IsForm _ = ⊥

-- the forms of a module, behind `-module(name).`
abbrev pub is_module_layer : List TreeForm → List Place → Type 0
is_module_layer forms (h ∷ m ∷ o ∷ n ∷ c ∷ d ∷ e ∷ []) = Every IsForm forms
is_module_layer forms _ = ⊥

-- a well-formed module
unfoldable pub IsWellFormed : Module → Type 0
IsWellFormed m = is_module_layer m.forms m.marks
