-- The tokens of patterns and expressions, as functions of their trees (Erlang Reference Manual, "Patterns" and "Expressions"). A name that ends in `_pieces` says what stands in a node of one level of the tree, or in a part of it.
use Rattle.std.specs.Prelude.{ℕ, List, [], ◌∷◌, ◌++◌, map, Option, Some, None, Bool, true, false, codes}
use Rattle.erl_tree.specs.declared.token.Place.{Place}
use Rattle.erl_tree.specs.declared.token.Placed.{Placed}
use Rattle.erl_tree.specs.declared.token.Node.{Node}
use Rattle.erl_tree.specs.declared.token.Token.TheVariants as T
use Rattle.erl_tree.specs.declared.pattern.LiteralKind.{LiteralKind}
use Rattle.erl_tree.specs.declared.pattern.LiteralKind.TheVariants as L
use Rattle.erl_tree.specs.declared.pattern.PatternKind.{PatternKind, fold-PatternKind}
use Rattle.erl_tree.specs.declared.pattern.PatternKind.TheOpen as P
use Rattle.erl_tree.specs.declared.expr.ExprKind.{ExprKind, fold-ExprKind}
use Rattle.erl_tree.specs.declared.expr.ItemKind.{ItemKind, fold-ItemKind}
use Rattle.erl_tree.specs.declared.expr.ClauseKind.{ClauseKind, fold-ClauseKind}
use Rattle.erl_tree.specs.declared.expr.QualifierKind.{QualifierKind, fold-QualifierKind}
use Rattle.erl_tree.specs.declared.expr.AssocKind.{AssocKind, fold-AssocKind}
use Rattle.erl_tree.specs.declared.expr.CatchKind.{CatchKind, fold-CatchKind}
use Rattle.erl_tree.specs.declared.expr.ExprKind.TheOpen as E
use Rattle.erl_grammar.specs.Pieces.{Piece, own, inner, fill, mark, word, name, between, commas, semicolons}
use Rattle.erl_grammar.specs.Operators.{unary_token, operator_token}

-- the tokens of what stands in a node, at the node's marks
abbrev pub Shown : Type 0
Shown = List Place → List Placed

-- the tokens of a node
abbrev pub shown : Node Shown → List Placed
shown n = n.kind n.marks

-- ---- patterns

-- a literal: `a`, `1`, `-1`, `$c`
abbrev pub literal_pieces : LiteralKind → List Piece
literal_pieces (L.Atom a) = name a ∷ []
literal_pieces (L.Int n) = own (T.Int n) ∷ []
literal_pieces (L.NegInt n) = mark (codes "-") ∷ own (T.Int n) ∷ []
literal_pieces (L.Char c) = own (T.Char c) ∷ []

-- the tokens of a literal
abbrev pub literal_tokens : Node LiteralKind → List Placed
literal_tokens l = fill (literal_pieces l.kind) l.marks

-- an entry of a map pattern: `K := P`
abbrev pub entry_tokens : {A : Type 0} → (A → List Placed) → Node (Node LiteralKind × A) → List Placed
entry_tokens tokens n = fill (inner (literal_tokens n.kind.0) ∷ mark (codes ":=") ∷ inner (tokens n.kind.1) ∷ []) n.marks

-- a field of a record: `field = P`, `field = E`
abbrev pub field_tokens : {A : Type 0} → (A → List Placed) → Node (List ℕ × A) → List Placed
field_tokens tokens n = fill (name n.kind.0 ∷ mark (codes "=") ∷ inner (tokens n.kind.1) ∷ []) n.marks

-- what closes a list: `]`, `| T]`
abbrev pub tail_pieces : {A : Type 0} → (A → List Placed) → Option A → List Piece
tail_pieces tokens None = mark (codes "]") ∷ []
tail_pieces tokens (Some t) = mark (codes "|") ∷ inner (tokens t) ∷ mark (codes "]") ∷ []

-- the entries of a map pattern, the associations of a map: `#{K := P, ..}`, `#{K => V, ..}`
abbrev pub map_pieces : List (List Placed) → List Piece
map_pieces entries = mark (codes "#") ∷ mark (codes "{") ∷ (commas entries ++ mark (codes "}") ∷ [])

-- the fields of a record: `#name{field = P, ..}`, `#name{field = E, ..}`
abbrev pub record_pieces : List ℕ → List (List Placed) → List Piece
record_pieces record_name fields = mark (codes "#") ∷ name record_name ∷ mark (codes "{") ∷ (commas fields ++ mark (codes "}") ∷ [])

-- one level of a pattern
abbrev pub pattern_pieces : P.PatternKind-F Shown → List Piece
pattern_pieces (P.Atom a) = name a ∷ []
pattern_pieces (P.Int n) = own (T.Int n) ∷ []
pattern_pieces (P.NegInt n) = mark (codes "-") ∷ own (T.Int n) ∷ []
pattern_pieces (P.Char c) = own (T.Char c) ∷ []
pattern_pieces (P.Str s) = own (T.Str s) ∷ []
pattern_pieces (P.Var x) = own (T.Var x) ∷ []
pattern_pieces (P.Paren p) = mark (codes "(") ∷ inner (shown p) ∷ mark (codes ")") ∷ []
pattern_pieces (P.Tuple ps) = mark (codes "{") ∷ (commas (map shown ps) ++ mark (codes "}") ∷ [])
pattern_pieces (P.Cells ps tail) = mark (codes "[") ∷ (commas (map shown ps) ++ tail_pieces shown tail)
pattern_pieces (P.Map entries) = map_pieces (map (entry_tokens shown) entries)
pattern_pieces (P.Rec record_name tag fields) = record_pieces record_name (map (field_tokens shown) fields)
pattern_pieces (P.Alias p q) = inner (shown p) ∷ mark (codes "=") ∷ inner (shown q) ∷ []

-- the tokens of what stands in a pattern's node
unfoldable pub pattern_shown : PatternKind → Shown
pattern_shown p = fold-PatternKind Shown (λ layer. fill (pattern_pieces layer)) p

-- the tokens of a pattern
abbrev pub pattern_tokens : Node PatternKind → List Placed
pattern_tokens p = pattern_shown p.kind p.marks

-- ---- clauses

-- what stands in a clause's node, which is written as its construct asks: in a `case`, an `if` or a fun
pub record ClauseText : Type 0 where
  pub patterns : List (List Placed)
  pub guard : Option (List Placed)
  pub body : List (List Placed)

-- the tokens of a guard: tests with commas between them, and alternatives of such with semicolons between them
abbrev pub guard_tokens : {A : Type 0} → (A → List Placed) → Node (List (List A)) → List Placed
guard_tokens tokens g = fill (between (T.Mark (codes ";")) (map (λ tests. commas (map tokens tests)) g.kind)) g.marks

-- the tokens of a guard, where there is one
abbrev pub optional_guard : {A : Type 0} → (A → List Placed) → Option (Node (List (List A))) → Option (List Placed)
optional_guard tokens None = None
optional_guard tokens (Some g) = Some (guard_tokens tokens g)

-- one level of a clause
abbrev pub clause_text : E.ClauseKind-F Shown Shown Shown Shown Shown ClauseText → ClauseText
clause_text c = record { patterns = map pattern_tokens c.patterns; guard = optional_guard shown c.guard; body = map shown c.body }

-- a guard behind patterns: `when G`, or nothing
abbrev pub when_pieces : Option (List Placed) → List Piece
when_pieces None = []
when_pieces (Some g) = word (codes "when") ∷ inner g ∷ []

-- a guard alone
abbrev pub guard_pieces : Option (List Placed) → List Piece
guard_pieces None = []
guard_pieces (Some g) = inner g ∷ []

-- a body: `-> I, ..`
abbrev pub body_pieces : List (List Placed) → List Piece
body_pieces items = mark (codes "->") ∷ commas items

-- a clause of a `case`, an `of` or a `catch` part: `P when G -> I, ..`
abbrev pub case_clause_shown : Node ClauseText → List Placed
case_clause_shown c = fill (commas c.kind.patterns ++ (when_pieces c.kind.guard ++ body_pieces c.kind.body)) c.marks

-- a clause of an `if`: `G -> I, ..`
abbrev pub if_clause_shown : Node ClauseText → List Placed
if_clause_shown c = fill (guard_pieces c.kind.guard ++ body_pieces c.kind.body) c.marks

-- parameters, a guard and a body: `(P, ..) when G -> I, ..`
abbrev pub parameters_pieces : ClauseText → List Piece
parameters_pieces c = mark (codes "(") ∷ (commas c.patterns ++ mark (codes ")") ∷ (when_pieces c.guard ++ body_pieces c.body))

-- a clause of a fun: `(P, ..) when G -> I, ..`
abbrev pub fun_clause_shown : Node ClauseText → List Placed
fun_clause_shown c = fill (parameters_pieces c.kind) c.marks

-- ---- expressions

-- the `of` part of a `try`, where there is one
abbrev pub of_pieces : List (List Placed) → List Piece
of_pieces [] = []
of_pieces (c ∷ cs) = word (codes "of") ∷ semicolons (c ∷ cs)

-- the `catch` part of a `try`, where there is one
abbrev pub catch_pieces : List (List Placed) → List Piece
catch_pieces [] = []
catch_pieces (c ∷ cs) = word (codes "catch") ∷ semicolons (c ∷ cs)

-- the `after` part of a `try`, where there is one
abbrev pub after_pieces : {A : Type 0} → (A → List Placed) → Option (List A) → List Piece
after_pieces tokens None = []
after_pieces tokens (Some items) = word (codes "after") ∷ commas (map tokens items)

-- the module in front of a function's name, where there is one: `m:`
abbrev pub prefix_pieces : Option (List ℕ) → List Piece
prefix_pieces None = []
prefix_pieces (Some prefix) = name prefix ∷ mark (codes ":") ∷ []

-- arguments in parentheses
abbrev pub argument_pieces : List (List Placed) → List Piece
argument_pieces args = mark (codes "(") ∷ (commas args ++ mark (codes ")") ∷ [])

-- one level of an expression
abbrev pub expr_pieces : E.ExprKind-F Shown Shown Shown Shown Shown ClauseText → List Piece
expr_pieces (E.Atom a) = name a ∷ []
expr_pieces (E.Int n) = own (T.Int n) ∷ []
expr_pieces (E.Char c) = own (T.Char c) ∷ []
expr_pieces (E.Str s) = own (T.Str s) ∷ []
expr_pieces (E.Var x) = own (T.Var x) ∷ []
expr_pieces (E.Paren e) = mark (codes "(") ∷ inner (shown e) ∷ mark (codes ")") ∷ []
expr_pieces (E.Tuple es) = mark (codes "{") ∷ (commas (map shown es) ++ mark (codes "}") ∷ [])
expr_pieces (E.Cells es tail) = mark (codes "[") ∷ (commas (map shown es) ++ tail_pieces shown tail)
expr_pieces (E.Comp e qualifiers) = mark (codes "[") ∷ inner (shown e) ∷ mark (codes "||") ∷ (commas (map shown qualifiers) ++ mark (codes "]") ∷ [])
expr_pieces (E.Unary op e) = own (unary_token op) ∷ inner (shown e) ∷ []
expr_pieces (E.Binary op a b) = inner (shown a) ∷ own (operator_token op) ∷ inner (shown b) ∷ []
expr_pieces (E.Call prefix called args) = prefix_pieces prefix ++ name called ∷ argument_pieces (map shown args)
expr_pieces (E.Apply f args) = inner (shown f) ∷ argument_pieces (map shown args)
expr_pieces (E.MapNew assocs) = map_pieces (map shown assocs)
expr_pieces (E.MapChange e assocs) = inner (shown e) ∷ map_pieces (map shown assocs)
expr_pieces (E.RecNew record_name tag fields) = record_pieces record_name (map (field_tokens shown) fields)
expr_pieces (E.RecChange e record_name tag fields) = inner (shown e) ∷ record_pieces record_name (map (field_tokens shown) fields)
expr_pieces (E.RecGet e record_name tag field) = inner (shown e) ∷ mark (codes "#") ∷ name record_name ∷ mark (codes ".") ∷ name field ∷ []
expr_pieces (E.Begin items) = word (codes "begin") ∷ (commas (map shown items) ++ word (codes "end") ∷ [])
expr_pieces (E.Case e clauses) = word (codes "case") ∷ inner (shown e) ∷ word (codes "of") ∷ (semicolons (map case_clause_shown clauses) ++ word (codes "end") ∷ [])
expr_pieces (E.If clauses) = word (codes "if") ∷ (semicolons (map if_clause_shown clauses) ++ word (codes "end") ∷ [])
expr_pieces (E.FunName named arity) = word (codes "fun") ∷ name named ∷ mark (codes "/") ∷ own (T.Int arity) ∷ []
expr_pieces (E.Fun clauses) = word (codes "fun") ∷ (semicolons (map fun_clause_shown clauses) ++ word (codes "end") ∷ [])
expr_pieces (E.Try body of_clauses catches after) = word (codes "try") ∷ (commas (map shown body) ++ (of_pieces (map case_clause_shown of_clauses) ++ (catch_pieces (map shown catches) ++ (after_pieces shown after ++ word (codes "end") ∷ []))))

-- one level of an element of a body: `E`, `P = E`
abbrev pub item_pieces : E.ItemKind-F Shown Shown Shown Shown Shown ClauseText → List Piece
item_pieces (E.Value e) = inner (shown e) ∷ []
item_pieces (E.Match p e) = inner (pattern_tokens p) ∷ mark (codes "=") ∷ inner (shown e) ∷ []

-- one level of a qualifier: `P <- E`, `E`
abbrev pub qualifier_pieces : E.QualifierKind-F Shown Shown Shown Shown Shown ClauseText → List Piece
qualifier_pieces (E.Generator p e) = inner (pattern_tokens p) ∷ mark (codes "<-") ∷ inner (shown e) ∷ []
qualifier_pieces (E.Filter e) = inner (shown e) ∷ []

-- what stands between a key and its value
abbrev pub association_text : Bool → List ℕ
association_text true = codes ":="
association_text false = codes "=>"

-- one level of an association: `K => V`, `K := V`
abbrev pub assoc_pieces : E.AssocKind-F Shown Shown Shown Shown Shown ClauseText → List Piece
assoc_pieces a = inner (shown a.key) ∷ mark (association_text a.exact) ∷ inner (shown a.value) ∷ []

-- the class in front of a clause of a `catch` part, where there is one: `C:`
abbrev pub class_pieces : Option (Node PatternKind) → List Piece
class_pieces None = []
class_pieces (Some p) = inner (pattern_tokens p) ∷ mark (codes ":") ∷ []

-- one level of a clause of a `catch` part
abbrev pub caught_pieces : E.CatchKind-F Shown Shown Shown Shown Shown ClauseText → List Piece
caught_pieces c = class_pieces c.class ++ inner (case_clause_shown c.clause) ∷ []

-- what takes one level of each kind of node, as the folds do
abbrev pub OfLayers : Type 0 → Type 0
OfLayers R = (E.ExprKind-F Shown Shown Shown Shown Shown ClauseText → Shown)
    → (E.ItemKind-F Shown Shown Shown Shown Shown ClauseText → Shown)
    → (E.QualifierKind-F Shown Shown Shown Shown Shown ClauseText → Shown)
    → (E.AssocKind-F Shown Shown Shown Shown Shown ClauseText → Shown)
    → (E.CatchKind-F Shown Shown Shown Shown Shown ClauseText → Shown)
    → (E.ClauseKind-F Shown Shown Shown Shown Shown ClauseText → ClauseText)
    → R

-- the levels as they are written
abbrev pub by_layers : {R : Type 0} → OfLayers R → R
by_layers of = of (λ l. fill (expr_pieces l)) (λ l. fill (item_pieces l)) (λ l. fill (qualifier_pieces l)) (λ l. fill (assoc_pieces l)) (λ l. fill (caught_pieces l)) clause_text

-- the tokens of what stands in the nodes of expressions, elements of bodies, qualifiers, associations and clauses
unfoldable pub expr_shown : ExprKind → Shown
expr_shown e = by_layers (fold-ExprKind Shown Shown Shown Shown Shown ClauseText) e

unfoldable pub item_shown : ItemKind → Shown
item_shown i = by_layers (fold-ItemKind Shown Shown Shown Shown Shown ClauseText) i

unfoldable pub qualifier_shown : QualifierKind → Shown
qualifier_shown q = by_layers (fold-QualifierKind Shown Shown Shown Shown Shown ClauseText) q

unfoldable pub assoc_shown : AssocKind → Shown
assoc_shown a = by_layers (fold-AssocKind Shown Shown Shown Shown Shown ClauseText) a

unfoldable pub catch_shown : CatchKind → Shown
catch_shown c = by_layers (fold-CatchKind Shown Shown Shown Shown Shown ClauseText) c

unfoldable pub clause_parts : ClauseKind → ClauseText
clause_parts c = by_layers (fold-ClauseKind Shown Shown Shown Shown Shown ClauseText) c

-- the tokens of an expression
abbrev pub expr_tokens : Node ExprKind → List Placed
expr_tokens e = expr_shown e.kind e.marks

-- the tokens of an element of a body
abbrev pub item_tokens : Node ItemKind → List Placed
item_tokens i = item_shown i.kind i.marks

-- the tokens of a qualifier
abbrev pub qualifier_tokens : Node QualifierKind → List Placed
qualifier_tokens q = qualifier_shown q.kind q.marks

-- the tokens of an association
abbrev pub assoc_tokens : Node AssocKind → List Placed
assoc_tokens a = assoc_shown a.kind a.marks

-- the tokens of a clause of a `catch` part
abbrev pub catch_tokens : Node CatchKind → List Placed
catch_tokens c = catch_shown c.kind c.marks

-- what stands in a clause's node, at its place and with its marks
abbrev pub clause_in_parts : Node ClauseKind → Node ClauseText
clause_in_parts c = record { place = c.place; marks = c.marks; kind = clause_parts c.kind }

-- the tokens of a clause of a `case`, an `of` or a `catch` part
abbrev pub case_clause_tokens : Node ClauseKind → List Placed
case_clause_tokens c = case_clause_shown (clause_in_parts c)

-- the tokens of a clause of an `if`
abbrev pub if_clause_tokens : Node ClauseKind → List Placed
if_clause_tokens c = if_clause_shown (clause_in_parts c)

-- the tokens of a clause of a fun
abbrev pub fun_clause_tokens : Node ClauseKind → List Placed
fun_clause_tokens c = fun_clause_shown (clause_in_parts c)

-- the tokens of an entry of a map pattern
abbrev pub pattern_entry_tokens : Node (Node LiteralKind × Node PatternKind) → List Placed
pattern_entry_tokens n = entry_tokens pattern_tokens n

-- the tokens of a field of a record pattern
abbrev pub pattern_field_tokens : Node (List ℕ × Node PatternKind) → List Placed
pattern_field_tokens n = field_tokens pattern_tokens n

-- the tokens of a field of a record
abbrev pub expr_field_tokens : Node (List ℕ × Node ExprKind) → List Placed
expr_field_tokens n = field_tokens expr_tokens n

-- the tokens of a guard
abbrev pub expr_guard_tokens : Node (List (List (Node ExprKind))) → List Placed
expr_guard_tokens g = guard_tokens expr_tokens g
