-- Which patterns and expressions are well formed: the grammar of the Erlang Reference Manual ("Patterns", "Expressions") in the profile. Each node has the parts and the number of marks of a production of the grammar and the place of its first token, and each operand binds as tightly as its place asks.
use Rattle.std.specs.Prelude.{◌≡◌, ℕ, ℤ, List, [], ◌∷◌, ◌++◌, ◌≤◌, length, Option, Some, None, Bool, true, false, codes}
use Rattle.type_terms.specs.Keys.{Name}
use Rattle.erl_tree.specs.Lists.{Among}
use Rattle.erl_tree.specs.declared.token.Place.{Place}
use Rattle.erl_tree.specs.declared.token.Node.{Node}
use Rattle.erl_tree.specs.declared.pattern.LiteralKind.{LiteralKind}
use Rattle.erl_tree.specs.declared.pattern.LiteralKind.TheVariants as L
use Rattle.erl_tree.specs.declared.pattern.PatternKind.{PatternKind}
use Rattle.erl_tree.specs.declared.pattern.PatternKind.TheVariants as P
use Rattle.erl_tree.specs.declared.expr.UnaryOp.{UnaryOp}
use Rattle.erl_tree.specs.declared.expr.BinaryOp.{BinaryOp}
use Rattle.erl_tree.specs.declared.expr.ExprKind.{ExprKind}
use Rattle.erl_tree.specs.declared.expr.ExprKind.TheVariants as X
use Rattle.erl_tree.specs.declared.expr.ItemKind.{ItemKind}
use Rattle.erl_tree.specs.declared.expr.ItemKind.TheVariants as I
use Rattle.erl_tree.specs.declared.expr.ClauseKind.{ClauseKind, roll-ClauseKind}
use Rattle.erl_tree.specs.declared.expr.QualifierKind.{QualifierKind}
use Rattle.erl_tree.specs.declared.expr.QualifierKind.TheVariants as Q
use Rattle.erl_tree.specs.declared.expr.AssocKind.{AssocKind, roll-AssocKind}
use Rattle.erl_tree.specs.declared.expr.CatchKind.{CatchKind, roll-CatchKind}
use Rattle.erl_grammar.specs.declared.head.Head.{Head}
use Rattle.erl_grammar.specs.declared.head.Head.TheVariants.{Plain, OfMap, OfRecord, OfCall}
use Rattle.erl_grammar.specs.Operators.{unary_priority, priority, left_priority, right_priority}
use Rattle.erl_grammar.specs.Guards.{is_call_in_profile, IsGuardExpr}

-- a node of a tree: its place, its marks and what stands in it
abbrev pub node : {K : Type 0} → Place → List Place → K → Node K
node p ms k = record { place = p; marks = ms; kind = k }

-- a place between each two of some parts that stand in turn
abbrev pub AreSeparators : {A : Type 0} → List A → List Place → Type 0
AreSeparators [] [] = Unit {0}
AreSeparators (x ∷ []) [] = Unit {0}
AreSeparators (x ∷ y ∷ ys) (m ∷ ms) = AreSeparators (y ∷ ys) ms
AreSeparators _ _ = ⊥

-- ---- patterns

-- a key of a map pattern: `a`, `1`, `-1`, `$c`
pub data IsKey : Node LiteralKind → Type 0 where
  atom_key : (p : Place) (a : Name) → IsKey (node p (p ∷ []) (L.Atom a))
  integer_key : (p : Place) (n : ℤ) → IsKey (node p (p ∷ []) (L.Int n))
  negative_key : (h p : Place) (n : ℤ) → IsKey (node h (h ∷ p ∷ []) (L.NegInt n))
  character_key : (p : Place) (c : ℕ) → IsKey (node p (p ∷ []) (L.Char c))

mutual
  -- a pattern: patterns with `=` between them, which group to the right
  pub data IsPattern : Node PatternKind → Type 0 where
    one_pattern : (p : Node PatternKind) → IsSimplePattern p → IsPattern p
    alias : (p q : Node PatternKind) (m : Place) → IsSimplePattern p → IsPattern q → IsPattern (node p.place (m ∷ []) (P.Alias p q))

  -- a pattern without `=` outside of brackets
  pub data IsSimplePattern : Node PatternKind → Type 0 where
    atom_pattern : (p : Place) (a : Name) → IsSimplePattern (node p (p ∷ []) (P.Atom a))
    integer_pattern : (p : Place) (n : ℤ) → IsSimplePattern (node p (p ∷ []) (P.Int n))
    negative_pattern : (h p : Place) (n : ℤ) → IsSimplePattern (node h (h ∷ p ∷ []) (P.NegInt n))
    character_pattern : (p : Place) (c : ℕ) → IsSimplePattern (node p (p ∷ []) (P.Char c))
    string_pattern : (p : Place) (s : Name) → IsSimplePattern (node p (p ∷ []) (P.Str s))
    variable_pattern : (p : Place) (x : Name) → IsSimplePattern (node p (p ∷ []) (P.Var x))
    paren_pattern : (o c : Place) (p : Node PatternKind) → IsPattern p → IsSimplePattern (node o (o ∷ c ∷ []) (P.Paren p))
    tuple_pattern : (o c : Place) (ms : List Place) (ps : List (Node PatternKind)) → AreSeparators ps ms → ((p : Node PatternKind) → Among p ps → IsPattern p) → IsSimplePattern (node o (o ∷ (ms ++ c ∷ [])) (P.Tuple ps))
    list_pattern : (o c : Place) (ms : List Place) (ps : List (Node PatternKind)) → AreSeparators ps ms → ((p : Node PatternKind) → Among p ps → IsPattern p) → IsSimplePattern (node o (o ∷ (ms ++ c ∷ [])) (P.Cells ps None))
    cells_pattern : (o b c : Place) (ms : List Place) (p t : Node PatternKind) (ps : List (Node PatternKind)) → AreSeparators (p ∷ ps) ms → ((q : Node PatternKind) → Among q (p ∷ ps) → IsPattern q) → IsPattern t → IsSimplePattern (node o (o ∷ (ms ++ b ∷ c ∷ [])) (P.Cells (p ∷ ps) (Some t)))
    map_pattern : (h o c : Place) (ms : List Place) (entries : List (Node (Node LiteralKind × Node PatternKind))) → AreSeparators entries ms → ((n : Node (Node LiteralKind × Node PatternKind)) → Among n entries → IsEntry n) → IsSimplePattern (node h (h ∷ o ∷ (ms ++ c ∷ [])) (P.Map entries))
    record_pattern : (h n o c : Place) (ms : List Place) (name : Name) (fields : List (Node (Name × Node PatternKind))) → AreSeparators fields ms → ((f : Node (Name × Node PatternKind)) → Among f fields → IsFieldPattern f) → IsSimplePattern (node h (h ∷ n ∷ o ∷ (ms ++ c ∷ [])) (P.Rec name name fields))

  -- `K := P`
  pub data IsEntry : Node (Node LiteralKind × Node PatternKind) → Type 0 where
    entry : (k : Node LiteralKind) (p : Node PatternKind) (m : Place) → IsKey k → IsPattern p → IsEntry (node k.place (m ∷ []) (k, p))

  -- `field = P`
  pub data IsFieldPattern : Node (Name × Node PatternKind) → Type 0 where
    field_pattern : (n m : Place) (field : Name) (p : Node PatternKind) → IsPattern p → IsFieldPattern (node n (n ∷ m ∷ []) (field, p))

-- ---- expressions

-- a map's associations may follow
abbrev pub takes_map : Head → Bool
takes_map Plain = true
takes_map OfMap = true
takes_map _ = false

-- a record's fields or one of its fields may follow
abbrev pub takes_record : Head → Bool
takes_record Plain = true
takes_record OfRecord = true
takes_record _ = false

-- all tests of some alternatives, in turn
abbrev pub all_of : {A : Type 0} → List (List A) → List A
all_of [] = []
all_of (xs ∷ xss) = xs ++ all_of xss

-- no list of them is empty
abbrev pub NoneEmpty : {A : Type 0} → List (List A) → Type 0
NoneEmpty [] = Unit {0}
NoneEmpty ([] ∷ xss) = ⊥
NoneEmpty ((x ∷ xs) ∷ xss) = NoneEmpty xss

-- a clause, by its patterns, its guard and its body
abbrev pub clause_of : List (Node PatternKind) → Option (Node (List (List (Node ExprKind)))) → List (Node ItemKind) → ClauseKind
clause_of patterns guard body = roll-ClauseKind (record { patterns = patterns; guard = guard; body = body })

-- an association, by its key, whether it is `:=`, and its value
abbrev pub assoc_of : Node ExprKind → Bool → Node ExprKind → AssocKind
assoc_of key exact value = roll-AssocKind (record { key = key; exact = exact; value = value })

-- a clause of a `catch` part, by its class and its clause
abbrev pub catch_of : Option (Node PatternKind) → Node ClauseKind → CatchKind
catch_of class clause = roll-CatchKind (record { class = class; clause = clause })

-- the class of an exception: `a`, `X`
pub data IsClass : Node PatternKind → Type 0 where
  atom_class : (p : Place) (a : Name) → IsClass (node p (p ∷ []) (P.Atom a))
  variable_class : (p : Place) (x : Name) → IsClass (node p (p ∷ []) (P.Var x))

-- at most 255 parameters
abbrev pub IsArity : {A : Type 0} → List A → Type 0
IsArity patterns = length patterns ≤ 255

-- the marks of a part that may be left out: its word, and those between its clauses
abbrev pub HavePartMarks : {A : Type 0} → List A → List Place → Type 0
HavePartMarks [] [] = Unit {0}
HavePartMarks (c ∷ cs) (w ∷ ms) = AreSeparators (c ∷ cs) ms
HavePartMarks _ _ = ⊥

-- the same of an `after` part, which has an element at least
abbrev pub HasAfterMarks : {A : Type 0} → Option (List A) → List Place → Type 0
HasAfterMarks None [] = Unit {0}
HasAfterMarks (Some (i ∷ is)) (w ∷ ms) = AreSeparators (i ∷ is) ms
HasAfterMarks _ _ = ⊥

-- the elements of an `after` part
abbrev pub items_of : {A : Type 0} → Option (List A) → List A
items_of None = []
items_of (Some items) = items

-- a `try` has a `catch` part or an `after` part
abbrev pub HasCatchOrAfter : {A B : Type 0} → List A → Option B → Type 0
HasCatchOrAfter [] None = ⊥
HasCatchOrAfter _ _ = Unit {0}

mutual
  -- an expression that binds at least as tightly as an operator of this priority
  pub data IsExpr : ℕ → Node ExprKind → Type 0 where
    operation : (least : ℕ) (op : BinaryOp) (a b : Node ExprKind) (m : Place) → least ≤ priority op → IsExpr (left_priority op) a → IsExpr (right_priority op) b → IsExpr least (node a.place (m ∷ []) (X.Binary op a b))
    unary : (least : ℕ) (op : UnaryOp) (p : Place) (e : Node ExprKind) → least ≤ unary_priority → IsExpr unary_priority e → IsExpr least (node p (p ∷ []) (X.Unary op e))
    postfix : (least : ℕ) (head : Head) (e : Node ExprKind) → IsPostfix head e → IsExpr least e

  -- a postfix expression: a primary, a call, a changed map, a changed record or a record's field; and what it is as a left side
  pub data IsPostfix : Head → Node ExprKind → Type 0 where
    atom : (p : Place) (a : Name) → IsPostfix Plain (node p (p ∷ []) (X.Atom a))
    integer : (p : Place) (n : ℤ) → IsPostfix Plain (node p (p ∷ []) (X.Int n))
    character : (p : Place) (c : ℕ) → IsPostfix Plain (node p (p ∷ []) (X.Char c))
    string : (p : Place) (s : Name) → IsPostfix Plain (node p (p ∷ []) (X.Str s))
    variable : (p : Place) (x : Name) → IsPostfix Plain (node p (p ∷ []) (X.Var x))
    parens : (o c : Place) (e : Node ExprKind) → IsExpr 0 e → IsPostfix Plain (node o (o ∷ c ∷ []) (X.Paren e))
    tuple : (o c : Place) (ms : List Place) (es : List (Node ExprKind)) → AreSeparators es ms → ((e : Node ExprKind) → Among e es → IsExpr 0 e) → IsPostfix Plain (node o (o ∷ (ms ++ c ∷ [])) (X.Tuple es))
    list : (o c : Place) (ms : List Place) (es : List (Node ExprKind)) → AreSeparators es ms → ((e : Node ExprKind) → Among e es → IsExpr 0 e) → IsPostfix Plain (node o (o ∷ (ms ++ c ∷ [])) (X.Cells es None))
    cells : (o b c : Place) (ms : List Place) (e t : Node ExprKind) (es : List (Node ExprKind)) → AreSeparators (e ∷ es) ms → ((f : Node ExprKind) → Among f (e ∷ es) → IsExpr 0 f) → IsExpr 0 t → IsPostfix Plain (node o (o ∷ (ms ++ b ∷ c ∷ [])) (X.Cells (e ∷ es) (Some t)))
    comprehension : (o b c : Place) (ms : List Place) (e : Node ExprKind) (q : Node QualifierKind) (qs : List (Node QualifierKind)) → IsExpr 0 e → AreSeparators (q ∷ qs) ms → ((r : Node QualifierKind) → Among r (q ∷ qs) → IsQualifier r) → IsPostfix Plain (node o (o ∷ b ∷ (ms ++ c ∷ [])) (X.Comp e (q ∷ qs)))
    call : (n o c : Place) (ms : List Place) (name : Name) (args : List (Node ExprKind)) → is_call_in_profile name args ≡ true → AreSeparators args ms → ((e : Node ExprKind) → Among e args → IsExpr 0 e) → IsPostfix OfCall (node n (n ∷ o ∷ (ms ++ c ∷ [])) (X.Call None name args))
    prefixed_call : (p d n o c : Place) (ms : List Place) (name : Name) (args : List (Node ExprKind)) → is_call_in_profile name args ≡ true → AreSeparators args ms → ((e : Node ExprKind) → Among e args → IsExpr 0 e) → IsPostfix OfCall (node p (p ∷ d ∷ n ∷ o ∷ (ms ++ c ∷ [])) (X.Call (Some (codes "erlang")) name args))
    variable_applied : (p o c : Place) (ms : List Place) (x : Name) (args : List (Node ExprKind)) → AreSeparators args ms → ((e : Node ExprKind) → Among e args → IsExpr 0 e) → IsPostfix OfCall (node p (o ∷ (ms ++ c ∷ [])) (X.Apply (node p (p ∷ []) (X.Var x)) args))
    parens_applied : (p q o c : Place) (ms : List Place) (f : Node ExprKind) (args : List (Node ExprKind)) → IsExpr 0 f → AreSeparators args ms → ((e : Node ExprKind) → Among e args → IsExpr 0 e) → IsPostfix OfCall (node p (o ∷ (ms ++ c ∷ [])) (X.Apply (node p (p ∷ q ∷ []) (X.Paren f)) args))
    new_map : (h o c : Place) (ms : List Place) (assocs : List (Node AssocKind)) → AreSeparators assocs ms → ((a : Node AssocKind) → Among a assocs → IsAssoc false a) → IsPostfix OfMap (node h (h ∷ o ∷ (ms ++ c ∷ [])) (X.MapNew assocs))
    changed_map : (head : Head) (h o c : Place) (ms : List Place) (e : Node ExprKind) (assocs : List (Node AssocKind)) → takes_map head ≡ true → IsPostfix head e → AreSeparators assocs ms → ((a : Node AssocKind) → Among a assocs → IsAssoc true a) → IsPostfix OfMap (node e.place (h ∷ o ∷ (ms ++ c ∷ [])) (X.MapChange e assocs))
    new_record : (h n o c : Place) (ms : List Place) (name : Name) (fields : List (Node (Name × Node ExprKind))) → AreSeparators fields ms → ((f : Node (Name × Node ExprKind)) → Among f fields → IsField f) → IsPostfix OfRecord (node h (h ∷ n ∷ o ∷ (ms ++ c ∷ [])) (X.RecNew name name fields))
    changed_record : (head : Head) (h n o c : Place) (ms : List Place) (e : Node ExprKind) (name : Name) (fields : List (Node (Name × Node ExprKind))) → takes_record head ≡ true → IsPostfix head e → AreSeparators fields ms → ((f : Node (Name × Node ExprKind)) → Among f fields → IsField f) → IsPostfix OfRecord (node e.place (h ∷ n ∷ o ∷ (ms ++ c ∷ [])) (X.RecChange e name name fields))
    record_field : (head : Head) (h n d f : Place) (e : Node ExprKind) (name field : Name) → takes_record head ≡ true → IsPostfix head e → IsPostfix OfRecord (node e.place (h ∷ n ∷ d ∷ f ∷ []) (X.RecGet e name name field))
    begin_end : (b e : Place) (ms : List Place) (i : Node ItemKind) (is : List (Node ItemKind)) → AreSeparators (i ∷ is) ms → ((j : Node ItemKind) → Among j (i ∷ is) → IsItem j) → IsPostfix Plain (node b (b ∷ (ms ++ e ∷ [])) (X.Begin (i ∷ is)))
    case_of : (p o e : Place) (ms : List Place) (subject : Node ExprKind) (c : Node ClauseKind) (cs : List (Node ClauseKind)) → IsExpr 0 subject → AreSeparators (c ∷ cs) ms → ((d : Node ClauseKind) → Among d (c ∷ cs) → IsCaseClause d) → IsPostfix Plain (node p (p ∷ o ∷ (ms ++ e ∷ [])) (X.Case subject (c ∷ cs)))
    if_end : (p e : Place) (ms : List Place) (c : Node ClauseKind) (cs : List (Node ClauseKind)) → AreSeparators (c ∷ cs) ms → ((d : Node ClauseKind) → Among d (c ∷ cs) → IsIfClause d) → IsPostfix Plain (node p (p ∷ (ms ++ e ∷ [])) (X.If (c ∷ cs)))
    fun_name : (p n s a : Place) (name : Name) (arity : ℤ) → IsPostfix Plain (node p (p ∷ n ∷ s ∷ a ∷ []) (X.FunName name arity))
    fun_end : (p e : Place) (ms : List Place) (c : Node ClauseKind) (cs : List (Node ClauseKind)) → AreSeparators (c ∷ cs) ms → ((d : Node ClauseKind) → Among d (c ∷ cs) → IsFunClause d) → IsPostfix Plain (node p (p ∷ (ms ++ e ∷ [])) (X.Fun (c ∷ cs)))
    try_end : (p e : Place) (ms os cs ns : List Place) (i : Node ItemKind) (body : List (Node ItemKind)) (of_clauses : List (Node ClauseKind)) (catches : List (Node CatchKind)) (after : Option (List (Node ItemKind)))
        → AreSeparators (i ∷ body) ms → ((j : Node ItemKind) → Among j (i ∷ body) → IsItem j)
        → HavePartMarks of_clauses os → ((c : Node ClauseKind) → Among c of_clauses → IsCaseClause c)
        → HavePartMarks catches cs → ((c : Node CatchKind) → Among c catches → IsCatch c)
        → HasAfterMarks after ns → ((j : Node ItemKind) → Among j (items_of after) → IsItem j)
        → HasCatchOrAfter catches after
        → IsPostfix Plain (node p (p ∷ (ms ++ (os ++ (cs ++ (ns ++ e ∷ []))))) (X.Try (i ∷ body) of_clauses catches after))

  -- an element of a body: `E`, `P = E`
  pub data IsItem : Node ItemKind → Type 0 where
    value : (e : Node ExprKind) → IsExpr 0 e → IsItem (node e.place [] (I.Value e))
    match_item : (p : Node PatternKind) (e : Node ExprKind) (m : Place) → IsPattern p → IsExpr 0 e → IsItem (node p.place (m ∷ []) (I.Match p e))

  -- `P <- E`, `E`
  pub data IsQualifier : Node QualifierKind → Type 0 where
    generator : (p : Node PatternKind) (e : Node ExprKind) (m : Place) → IsPattern p → IsExpr 0 e → IsQualifier (node p.place (m ∷ []) (Q.Generator p e))
    filter : (e : Node ExprKind) → IsExpr 0 e → IsQualifier (node e.place [] (Q.Filter e))

  -- `K => V`, and `K := V` where that may stand
  pub data IsAssoc : Bool → Node AssocKind → Type 0 where
    added : (may_be_exact : Bool) (k v : Node ExprKind) (m : Place) → IsExpr 0 k → IsExpr 0 v → IsAssoc may_be_exact (node k.place (m ∷ []) (assoc_of k false v))
    exact : (k v : Node ExprKind) (m : Place) → IsExpr 0 k → IsExpr 0 v → IsAssoc true (node k.place (m ∷ []) (assoc_of k true v))

  -- `field = E`
  pub data IsField : Node (Name × Node ExprKind) → Type 0 where
    field : (n m : Place) (name : Name) (e : Node ExprKind) → IsExpr 0 e → IsField (node n (n ∷ m ∷ []) (name, e))

  -- a guard: alternatives, each of them tests
  pub data IsGuard : Node (List (List (Node ExprKind))) → Type 0 where
    guard : (ms : List Place) (t : Node ExprKind) (ts : List (Node ExprKind)) (alternatives : List (List (Node ExprKind)))
        → NoneEmpty alternatives → AreSeparators (all_of ((t ∷ ts) ∷ alternatives)) ms
        → ((e : Node ExprKind) → Among e (all_of ((t ∷ ts) ∷ alternatives)) → IsExpr 0 e)
        → ((e : Node ExprKind) → Among e (all_of ((t ∷ ts) ∷ alternatives)) → IsGuardExpr e)
        → IsGuard (node t.place ms ((t ∷ ts) ∷ alternatives))

  -- a guard behind patterns with the mark of its `when`, or none
  pub data IsWhen : Option (Node (List (List (Node ExprKind)))) → List Place → Type 0 where
    no_guard : IsWhen None []
    when_guard : (w : Place) (g : Node (List (List (Node ExprKind)))) → IsGuard g → IsWhen (Some g) (w ∷ [])

  -- `P when G -> I, ..`
  pub data IsCaseClause : Node ClauseKind → Type 0 where
    case_clause : (p : Node PatternKind) (w : Option (Node (List (List (Node ExprKind))))) (a : Place) (ws ms : List Place) (i : Node ItemKind) (is : List (Node ItemKind))
        → IsPattern p → IsWhen w ws → AreSeparators (i ∷ is) ms → ((j : Node ItemKind) → Among j (i ∷ is) → IsItem j)
        → IsCaseClause (node p.place (ws ++ a ∷ ms) (clause_of (p ∷ []) w (i ∷ is)))

  -- `G -> I, ..`
  pub data IsIfClause : Node ClauseKind → Type 0 where
    if_clause : (g : Node (List (List (Node ExprKind)))) (a : Place) (ms : List Place) (i : Node ItemKind) (is : List (Node ItemKind))
        → IsGuard g → AreSeparators (i ∷ is) ms → ((j : Node ItemKind) → Among j (i ∷ is) → IsItem j)
        → IsIfClause (node g.place (a ∷ ms) (clause_of [] (Some g) (i ∷ is)))

  -- `(P, ..) when G -> I, ..`
  pub data IsFunClause : Node ClauseKind → Type 0 where
    fun_clause : (o c a : Place) (ps : List (Node PatternKind)) (w : Option (Node (List (List (Node ExprKind))))) (ns ws ms : List Place) (i : Node ItemKind) (is : List (Node ItemKind))
        → IsArity ps → AreSeparators ps ns → ((p : Node PatternKind) → Among p ps → IsPattern p) → IsWhen w ws → AreSeparators (i ∷ is) ms → ((j : Node ItemKind) → Among j (i ∷ is) → IsItem j)
        → IsFunClause (node o (o ∷ (ns ++ c ∷ (ws ++ a ∷ ms))) (clause_of ps w (i ∷ is)))

  -- a clause of a `catch` part, with or without a class
  pub data IsCatch : Node CatchKind → Type 0 where
    thrown : (c : Node ClauseKind) → IsCaseClause c → IsCatch (node c.place [] (catch_of None c))
    of_class : (p : Node PatternKind) (m : Place) (c : Node ClauseKind) → IsClass p → IsCaseClause c → IsCatch (node p.place (m ∷ []) (catch_of (Some p) c))
