-- Reading expressions, bodies, clauses and everything inside them.
use Rattle.std.specs.Prelude.{ℕ, zero, suc, List, [], ◌∷◌, ◌++◌, length, map, Option, Some, None, Ok, Err, Bool, true, false, ◌&&◌, if◌then◌else◌, codes}
use Rattle.std.specs.Str.{bytes_eq}
use Rattle.type_terms.specs.Keys.{Name}
use Rattle.erl_tree.specs.declared.token.Place.{Place}
use Rattle.erl_tree.specs.declared.token.Placed.{Placed}
use Rattle.erl_tree.specs.declared.token.Node.{Node}
use Rattle.erl_tree.specs.declared.token.Token.{Token}
use Rattle.erl_tree.specs.declared.token.Token.TheVariants as T
use Rattle.erl_tree.specs.declared.expr.ExprKind.{ExprKind}
use Rattle.erl_tree.specs.declared.expr.ExprKind.TheVariants as X
use Rattle.erl_tree.specs.declared.expr.ItemKind.{ItemKind}
use Rattle.erl_tree.specs.declared.expr.ItemKind.TheVariants as I
use Rattle.erl_tree.specs.declared.expr.ClauseKind.{ClauseKind}
use Rattle.erl_tree.specs.declared.expr.QualifierKind.{QualifierKind}
use Rattle.erl_tree.specs.declared.expr.QualifierKind.TheVariants as Q
use Rattle.erl_tree.specs.declared.expr.AssocKind.{AssocKind}
use Rattle.erl_tree.specs.declared.expr.CatchKind.{CatchKind}
use Rattle.erl_grammar.specs.declared.head.Head.{Head}
use Rattle.erl_grammar.specs.declared.head.Head.TheVariants.{Plain, OfMap, OfRecord, OfCall}
use Rattle.erl_grammar.specs.declared.misfit.Misfit.{Misfit}
use Rattle.erl_grammar.specs.declared.misfit.Misfit.TheVariants as misfits
use Rattle.erl_grammar.specs.Guards.{misfit, is_call_in_profile}
use Rattle.erl_grammar.specs.Grammar.{node, takes_map, takes_record, clause_of, assoc_of, catch_of}
use Rattle.erl_parser_tokens.specs.declared.height.Height.{Height}
use Rattle.erl_parser_tokens.specs.declared.height.Measured.{Measured}
use Rattle.erl_parser_tokens.specs.declared.fault.ParseFault.TheVariants as faults
use Rattle.erl_parser_tokens.specs.Heights.{flat, higher, measured}
use Rattle.erl_parser_tokens.specs.Tokens.{Answer, Reads, ◌>>=◌, in_case, first_place, unexpected, outside, expect, is_mark, mark, word, atom, integer, string_next, end, wrong_word}
use Rattle.erl_parser_patterns.specs.Scan.{leads_to}
use Rattle.erl_parser_tokens.specs.Parts.{Several, no_parts, with_part, read_parts, read_closed, read_cells, read_field, built, within, read_parameters, read_arrow}
use Rattle.erl_parser_patterns.specs.Patterns.{Pattern, read_pattern, pattern_levels, read_left}
use Rattle.erl_parser_exprs.specs.Operations.{Expr, read_expr_with}

-- the readers of what stands at one level
pub record Level : Type 0 where
  pub expr : Reads (Measured Expr)
  pub pattern : Reads (Measured Pattern)
  pub left : Reads (Measured Pattern × Place)

-- ---- elements of bodies, qualifiers and associations

-- `E`, `P = E`
unfoldable pub read_item : Level → Reads (Measured (Node ItemKind))
read_item l ts = if leads_to (codes "=") ts
    then (l.left ts >>= λ p. l.expr p.1 >>= λ e. Ok (measured (node p.0.0.tree.place (p.0.1 ∷ []) (I.Match p.0.0.tree e.0.tree)) (higher p.0.0.height e.0.height), e.1))
    else (l.expr ts >>= λ e. Ok (measured (node e.0.tree.place [] (I.Value e.0.tree)) e.0.height, e.1))

-- `I, ..`
unfoldable pub read_body : Level → Reads (Several (Node ItemKind))
read_body l ts = read_parts (codes ",") (read_item l) ts

-- `P <- E`, `E`
unfoldable pub read_qualifier : Level → Reads (Measured (Node QualifierKind))
read_qualifier l ts = if leads_to (codes "<-") ts
    then (l.pattern ts >>= λ p. expect (mark (codes "<-")) p.1 >>= λ m. l.expr m.1 >>= λ e. Ok (measured (node p.0.tree.place (m.0 ∷ []) (Q.Generator p.0.tree e.0.tree)) (higher p.0.height e.0.height), e.1))
    else (l.expr ts >>= λ e. Ok (measured (node e.0.tree.place [] (Q.Filter e.0.tree)) e.0.height, e.1))

-- `K => V`, and `K := V` where it may stand
unfoldable pub read_assoc : Level → Bool → Reads (Measured (Node AssocKind))
read_assoc l may_be_exact ts = l.expr ts >>= λ k. read_arrow may_be_exact k.1 >>= λ a. l.expr a.1 >>= λ v. in_case (mark (codes "||") v.1)
    (Ok (measured (node k.0.tree.place (a.0.1 ∷ []) (assoc_of k.0.tree a.0.0 v.0.tree)) (higher k.0.height v.0.height), v.1))
    (λ m. outside (codes "map comprehension") m.0)

-- ---- guards

-- the alternatives of a guard that are complete, the tests of the one that is read, the marks and the greatest height
pub record Guarded : Type 0 where
  pub alternatives : List (List Expr)
  pub tests : List Expr
  pub marks : List Place
  pub height : Height

abbrev pub no_tests : Guarded
no_tests = record { alternatives = []; tests = []; marks = []; height = flat }

-- one more test
abbrev pub with_test : Guarded → Measured Expr → Guarded
with_test g e = record { alternatives = g.alternatives; tests = g.tests ++ e.tree ∷ []; marks = g.marks; height = higher g.height e.height }

-- a comma behind a test
abbrev pub with_comma : Guarded → Place → Guarded
with_comma g m = record { alternatives = g.alternatives; tests = g.tests; marks = g.marks ++ m ∷ []; height = g.height }

-- the alternative that was read is complete
abbrev pub completed : Guarded → List (List Expr)
completed g = g.alternatives ++ g.tests ∷ []

-- a semicolon behind an alternative
abbrev pub with_semicolon : Guarded → Place → Guarded
with_semicolon g m = record { alternatives = completed g; tests = []; marks = g.marks ++ m ∷ []; height = g.height }

-- what follows a test that may stand in a guard
abbrev pub fitting : {A : Type 0} → Option Misfit → Answer A → Answer A
fitting None answer = answer
fitting (Some (misfits.Call p)) answer = outside (codes "built-in") p
fitting (Some (misfits.Other p)) answer = Err (faults.Unexpected p)

-- a test
unfoldable pub read_test : Level → Reads (Measured Expr)
read_test l ts = l.expr ts >>= λ e. fitting (misfit e.0.tree) (Ok e)

-- tests and alternatives, behind those that were read
unfoldable pub read_tests : Level → ℕ → Guarded → Reads Guarded
read_tests l zero g ts = unexpected ts
read_tests l (suc k) g ts = read_test l ts >>= λ e. in_case (mark (codes ",") e.1)
    (in_case (mark (codes ";") e.1) (Ok (with_test g e.0, e.1)) (λ m. read_tests l k (with_semicolon (with_test g e.0) m.0) m.1))
    (λ m. read_tests l k (with_comma (with_test g e.0) m.0) m.1)

-- a guard
abbrev pub Guard : Type 0
Guard = Node (List (List Expr))

unfoldable pub read_guard : Level → Reads (Measured Guard)
read_guard l ts = read_tests l (suc (length ts)) no_tests ts >>= λ g. Ok (measured (node (first_place ts) g.0.marks (completed g.0)) g.0.height, g.1)

-- a guard that may be left out, with the mark of its `when`
pub record When : Type 0 where
  pub guard : Option Guard
  pub marks : List Place
  pub height : Height

-- `when G`, or nothing
unfoldable pub read_when : Level → Reads When
read_when l ts = in_case (word (codes "when") ts)
    (Ok (record { guard = None; marks = []; height = flat }, ts))
    (λ w. read_guard l w.1 >>= λ g. Ok (record { guard = Some g.0.tree; marks = w.0 ∷ []; height = g.0.height }, g.1))

-- ---- clauses

-- a clause, by its first place and the marks in front of its guard, its patterns and their height, its guard and its body
abbrev pub clause_built : Place → List Place → List Pattern → Height → When → Place → Several (Node ItemKind) → Measured (Node ClauseKind)
clause_built p front patterns h w a b = measured (node p (front ++ (w.marks ++ a ∷ b.marks)) (clause_of patterns w.guard b.items)) (higher h (higher w.height b.height))

-- what follows the patterns of a clause: `when G -> I, ..`
unfoldable pub read_behind_patterns : Level → Place → List Place → List Pattern → Height → Reads (Measured (Node ClauseKind))
read_behind_patterns l p front patterns h ts = read_when l ts >>= λ w. expect (mark (codes "->")) w.1 >>= λ a. read_body l a.1 >>= λ b. Ok (clause_built p front patterns h w.0 a.0 b.0, b.1)

-- `P when G -> I, ..`
unfoldable pub read_case_clause : Level → Reads (Measured (Node ClauseKind))
read_case_clause l ts = l.pattern ts >>= λ p. read_behind_patterns l p.0.tree.place [] (p.0.tree ∷ []) p.0.height p.1

-- `G -> I, ..`
unfoldable pub read_if_clause : Level → Reads (Measured (Node ClauseKind))
read_if_clause l ts = read_guard l ts >>= λ g. expect (mark (codes "->")) g.1 >>= λ a. read_body l a.1 >>= λ b. Ok (measured (node g.0.tree.place (a.0 ∷ b.0.marks) (clause_of [] (Some g.0.tree) b.0.items)) (higher g.0.height b.0.height), b.1)

-- `(P, ..) when G -> I, ..`
unfoldable pub read_fun_clause : Level → Reads (Measured (Node ClauseKind))
read_fun_clause l ts = expect (mark (codes "(")) ts >>= λ o. read_parameters l.pattern o.1 >>= λ s. read_behind_patterns l o.0 (o.0 ∷ s.0.marks) s.0.items s.0.height s.1

-- whether a token may be the class of an exception
abbrev pub may_be_class : Token → Bool
may_be_class (T.Atom a) = true
may_be_class (T.Var x) = true
may_be_class _ = false

-- the class of an exception and a colon come next
unfoldable pub class_next : List Placed → Bool
class_next (t ∷ u ∷ ts) = may_be_class t.token && is_mark (codes ":") u.token
class_next _ = false

-- a clause of a `catch` part behind its class: the class, its colon and a clause, in which no further colon stands
unfoldable pub read_caught : Level → Reads (Measured (Node CatchKind))
read_caught l ts = l.pattern ts >>= λ c. expect (mark (codes ":")) c.1 >>= λ d. l.pattern d.1 >>= λ p. in_case (mark (codes ":") p.1)
    (read_behind_patterns l p.0.tree.place [] (p.0.tree ∷ []) p.0.height p.1 >>= λ e. Ok (measured (node c.0.tree.place (d.0 ∷ []) (catch_of (Some c.0.tree) e.0.tree)) (higher c.0.height e.0.height), e.1))
    (λ m. outside (codes "stack trace") m.0)

-- a clause of a `catch` part
unfoldable pub read_catch : Level → Reads (Measured (Node CatchKind))
read_catch l ts = if class_next ts then read_caught l ts else (read_case_clause l ts >>= λ c. Ok (measured (node c.0.tree.place [] (catch_of None c.0.tree)) c.0.height, c.1))

-- ---- calls, maps and records

-- an expression, and what may follow it
abbrev pub Headed : Type 0
Headed = Measured Expr × Head

-- a call, by its prefix, its name, its place and the marks up to its opening parenthesis, behind which its arguments are read
unfoldable pub read_call : Level → Option Name → Name → Place → List Place → Reads Headed
read_call l prefix name p front ts = read_closed (codes ")") l.expr ts >>= λ s.
    (if is_call_in_profile name s.0.items then Ok ((built p (front ++ s.0.marks) (X.Call prefix name s.0.items) s.0.height, OfCall), s.1) else outside (codes "built-in") p)

-- a call of what an expression gives, behind the opening parenthesis; the expression stands so deep at most
unfoldable pub read_application : Level → ℕ → Measured Expr → Place → Reads Headed
read_application l levels f o ts = within levels f (read_closed (codes ")") l.expr ts >>= λ s. Ok ((built f.tree.place (o ∷ s.0.marks) (X.Apply f.tree s.0.items) (higher f.height s.0.height), OfCall), s.1))

-- an expression of one token that nothing but a map's or a record's parts may follow
abbrev pub plain_leaf : Place → ExprKind → List Placed → Answer (Headed × List Placed)
plain_leaf p kind ts = Ok ((built p (p ∷ []) kind flat, Plain), ts)

-- `erlang:f(E, ..)`, behind the colon
unfoldable pub read_prefixed : Level → (p d : Place) → Reads Headed
read_prefixed l p d ts = expect atom ts >>= λ n. expect (mark (codes "(")) n.1 >>= λ o. read_call l (Some (codes "erlang")) n.0.0 p (p ∷ d ∷ n.0.1 ∷ o.0 ∷ []) o.1

-- what begins with an atom: itself, or a call
unfoldable pub read_named : Level → Name → Place → Reads Headed
read_named l a p ts = in_case (mark (codes "(") ts)
    (in_case (mark (codes ":") ts) (plain_leaf p (X.Atom a) ts) (λ d. if bytes_eq a (codes "erlang") then read_prefixed l p d.0 d.1 else outside (codes "remote name") d.0))
    (λ o. read_call l None a p (p ∷ o.0 ∷ []) o.1)

-- what begins with a variable: itself, or a call of it
unfoldable pub read_variable : Level → ℕ → Name → Place → Reads Headed
read_variable l levels x p ts = in_case (mark (codes "(") ts)
    (in_case (mark (codes ":") ts) (plain_leaf p (X.Var x) ts) (λ d. outside (codes "remote name") d.0))
    (λ o. read_application l levels (built p (p ∷ []) (X.Var x) flat) o.0 o.1)

-- a string
unfoldable pub read_string : Name → Place → Reads Headed
read_string s p ts = if string_next ts then outside (codes "adjacent strings") p else plain_leaf p (X.Str s) ts

-- what begins with a parenthesis, behind it
unfoldable pub read_parens : Level → ℕ → Place → Reads Headed
read_parens l levels o ts = l.expr ts >>= λ e. expect (mark (codes ")")) e.1 >>= λ c. in_case (mark (codes "(") c.1)
    (Ok ((built o (o ∷ c.0 ∷ []) (X.Paren e.0.tree) e.0.height, Plain), c.1))
    (λ a. read_application l levels (built o (o ∷ c.0 ∷ []) (X.Paren e.0.tree) e.0.height) a.0 a.1)

-- `{E, ..}`, behind the opening brace
unfoldable pub read_tuple : Level → Place → Reads Headed
read_tuple l o ts = read_closed (codes "}") l.expr ts >>= λ s. Ok ((built o (o ∷ s.0.marks) (X.Tuple s.0.items) s.0.height, Plain), s.1)

-- the reader of expressions of each level
abbrev pub expr_readers : List Level → List (Reads (Measured Expr))
expr_readers levels = map (λ l. l.expr) levels

-- the qualifiers of a comprehension, behind its `||`
unfoldable pub read_comprehension : Level → Place → Measured Expr → Place → Reads Headed
read_comprehension l o e b ts = read_parts (codes ",") (read_qualifier l) ts >>= λ qs. expect (mark (codes "]")) qs.1 >>= λ c. Ok ((built o (o ∷ b ∷ (qs.0.marks ++ c.0 ∷ [])) (X.Comp e.tree qs.0.items) (higher e.height qs.0.height), Plain), c.1)

-- what begins with a bracket, behind it: a list or a comprehension
unfoldable pub read_list : List Level → Level → Place → Reads Headed
read_list deeper l o ts = in_case (mark (codes "]") ts)
    (l.expr ts >>= λ e. in_case (mark (codes "||") e.1)
    (read_cells (expr_readers deeper) l.expr zero (with_part no_parts e.0) e.1 >>= λ cs. Ok ((built o (o ∷ cs.0.marks) (X.Cells cs.0.items cs.0.tail) cs.0.height, Plain), cs.1))
    (λ b. read_comprehension l o e.0 b.0 b.1))
    (λ c. Ok ((built o (o ∷ c.0 ∷ []) (X.Cells [] None) flat, Plain), c.1))

-- a new record, behind `#`, or a field without a record in front
unfoldable pub read_new_record : Level → Place → Reads Headed
read_new_record l h ts = expect atom ts >>= λ a. in_case (mark (codes ".") a.1)
    (expect (mark (codes "{")) a.1 >>= λ o. read_closed (codes "}") (read_field l.expr) o.1 >>= λ s. Ok ((built h (h ∷ a.0.1 ∷ o.0 ∷ s.0.marks) (X.RecNew a.0.0 a.0.0 s.0.items) s.0.height, OfRecord), s.1))
    (λ d. outside (codes "record index") h)

-- a new map or record, behind `#`
unfoldable pub read_hash : Level → Place → Reads Headed
read_hash l h ts = in_case (mark (codes "{") ts) (read_new_record l h ts)
    (λ o. read_closed (codes "}") (read_assoc l false) o.1 >>= λ s. Ok ((built h (h ∷ o.0 ∷ s.0.marks) (X.MapNew s.0.items) s.0.height, OfMap), s.1))

-- a changed map, behind `{`
unfoldable pub read_map_change : Level → Measured Expr → (h o : Place) → Reads Headed
read_map_change l e h o ts = read_closed (codes "}") (read_assoc l true) ts >>= λ s. Ok ((built e.tree.place (h ∷ o ∷ s.0.marks) (X.MapChange e.tree s.0.items) (higher e.height s.0.height), OfMap), s.1)

-- a changed record, behind `{`
unfoldable pub read_record_change : Level → Measured Expr → (h : Place) → Name → (n o : Place) → Reads Headed
read_record_change l e h name n o ts = read_closed (codes "}") (read_field l.expr) ts >>= λ s. Ok ((built e.tree.place (h ∷ n ∷ o ∷ s.0.marks) (X.RecChange e.tree name name s.0.items) (higher e.height s.0.height), OfRecord), s.1)

-- a field of a record, behind `.`
unfoldable pub read_record_field : Measured Expr → (h : Place) → Name → (n d : Place) → Reads Headed
read_record_field e h name n d ts = expect atom ts >>= λ f. Ok ((built e.tree.place (h ∷ n ∷ d ∷ f.0.1 ∷ []) (X.RecGet e.tree name name f.0.0) e.height, OfRecord), f.1)

-- a record's fields or one of its fields, behind its name
unfoldable pub read_behind_record : Level → Measured Expr → (h : Place) → Name → Place → Reads Headed
read_behind_record l e h name n ts = in_case (mark (codes ".") ts)
    (expect (mark (codes "{")) ts >>= λ o. read_record_change l e h name n o.0 o.1)
    (λ d. read_record_field e h name n d.0 d.1)

-- what was read is the whole, or a map's or a record's parts follow; the expression in front of them stands so deep at most
pub data Tail : Type 0 where
  no_tail : Tail
  map_tail : (h o : Place) → List Placed → Tail
  record_tail : (h : Place) → Name → Place → List Placed → Tail

-- what follows `#` behind an expression with this head
abbrev pub tail_behind : Head → Place → List Placed → Tail
tail_behind head h ts = in_case (mark (codes "{") ts)
    (in_case (atom ts) no_tail (λ a. if takes_record head then record_tail h a.0.0 a.0.1 a.1 else no_tail))
    (λ o. if takes_map head then map_tail h o.0 o.1 else no_tail)

-- what follows an expression with this head
unfoldable pub tail_of : Head → List Placed → Tail
tail_of head ts = in_case (mark (codes "#") ts) no_tail (λ h. tail_behind head h.0 h.1)

-- one tail, where there is one
abbrev pub read_tail : Tail → Level → ℕ → Measured Expr → Answer (Headed × List Placed) → Answer (Headed × List Placed)
read_tail no_tail l levels e otherwise = otherwise
read_tail (map_tail h o ts) l levels e otherwise = within levels e (read_map_change l e h o ts)
read_tail (record_tail h name n ts) l levels e otherwise = within levels e (read_behind_record l e h name n ts)

-- whether there is one
abbrev pub is_tail : Tail → Bool
is_tail no_tail = false
is_tail _ = true

-- an expression and all its tails
unfoldable pub read_tails : ℕ → Level → ℕ → Headed → Reads (Measured Expr)
read_tails zero l levels e ts = unexpected ts
read_tails (suc k) l levels e ts = if is_tail (tail_of e.1 ts)
    then (read_tail (tail_of e.1 ts) l levels e.0 (Ok (e, ts)) >>= λ f. read_tails k l levels f.0 f.1)
    else Ok (e.0, ts)

-- ---- expressions between words

-- `begin I, .. end`, behind `begin`
unfoldable pub read_begin : Level → Place → Reads Headed
read_begin l b ts = read_body l ts >>= λ s. expect (word (codes "end")) s.1 >>= λ e. Ok ((built b (b ∷ (s.0.marks ++ e.0 ∷ [])) (X.Begin s.0.items) s.0.height, Plain), e.1)

-- `case E of C; .. end`, behind `case`
unfoldable pub read_case : Level → Place → Reads Headed
read_case l p ts = l.expr ts >>= λ e. expect (word (codes "of")) e.1 >>= λ o. read_parts (codes ";") (read_case_clause l) o.1 >>= λ s. expect (word (codes "end")) s.1 >>= λ d.
    Ok ((built p (p ∷ o.0 ∷ (s.0.marks ++ d.0 ∷ [])) (X.Case e.0.tree s.0.items) (higher e.0.height s.0.height), Plain), d.1)

-- `if C; .. end`, behind `if`
unfoldable pub read_if : Level → Place → Reads Headed
read_if l p ts = read_parts (codes ";") (read_if_clause l) ts >>= λ s. expect (word (codes "end")) s.1 >>= λ d. Ok ((built p (p ∷ (s.0.marks ++ d.0 ∷ [])) (X.If s.0.items) s.0.height, Plain), d.1)

-- `fun f/n`, behind the name
unfoldable pub read_fun_name : (p : Place) → Name → Place → Reads Headed
read_fun_name p name n ts = in_case (mark (codes ":") ts)
    (expect (mark (codes "/")) ts >>= λ s. expect integer s.1 >>= λ a. Ok ((built p (p ∷ n ∷ s.0 ∷ a.0.1 ∷ []) (X.FunName name a.0.0) flat, Plain), a.1))
    (λ d. outside (codes "remote name") d.0)

-- whether a token is a variable
abbrev pub is_any_variable : Token → Bool
is_any_variable (T.Var x) = true
is_any_variable _ = false

-- a variable comes next
unfoldable pub variable_next : List Placed → Bool
variable_next [] = false
variable_next (t ∷ ts) = is_any_variable t.token

-- `fun C; .. end`, behind `fun`
unfoldable pub read_fun_clauses : Level → Place → Reads Headed
read_fun_clauses l p ts = read_parts (codes ";") (read_fun_clause l) ts >>= λ s. expect (word (codes "end")) s.1 >>= λ d. Ok ((built p (p ∷ (s.0.marks ++ d.0 ∷ [])) (X.Fun s.0.items) s.0.height, Plain), d.1)

-- what begins with `fun`, behind it
unfoldable pub read_fun : Level → Place → Reads Headed
read_fun l p ts = if variable_next ts then outside (codes "named fun") p else in_case (atom ts) (read_fun_clauses l p ts) (λ a. read_fun_name p a.0.0 a.0.1 a.1)

-- a part of a `try` that may be left out: its word, and what the inner reader reads with semicolons between
unfoldable pub read_part : {A : Type 0} → List ℕ → Reads (Measured A) → Reads (Several A)
read_part text inner ts = in_case (word text ts) (Ok (no_parts, ts)) (λ w. read_parts (codes ";") inner w.1 >>= λ s. Ok (record { items = s.0.items; marks = w.0 ∷ s.0.marks; height = s.0.height }, s.1))

-- the `after` part of a `try`, with its marks, where there is one
pub record Ending : Type 0 where
  pub items : Option (List (Node ItemKind))
  pub marks : List Place
  pub height : Height

unfoldable pub read_after : Level → Reads Ending
read_after l ts = in_case (word (codes "after") ts) (Ok (record { items = None; marks = []; height = flat }, ts))
    (λ w. read_body l w.1 >>= λ s. Ok (record { items = Some s.0.items; marks = w.0 ∷ s.0.marks; height = s.0.height }, s.1))

-- whether there is a `catch` part or an `after` part
abbrev pub has_end : List (Node CatchKind) → Option (List (Node ItemKind)) → Bool
has_end [] None = false
has_end _ _ = true

-- the `try` with these parts
abbrev pub try_built : Place → Several (Node ItemKind) → Several (Node ClauseKind) → Several (Node CatchKind) → Ending → Place → Measured Expr
try_built p b o c a e = built p (p ∷ (b.marks ++ (o.marks ++ (c.marks ++ (a.marks ++ e ∷ []))))) (X.Try b.items o.items c.items a.items) (higher b.height (higher o.height (higher c.height a.height)))

-- `try I, .. of C; .. catch C; .. after I, .. end`, behind `try`
unfoldable pub read_try : Level → Place → Reads Headed
read_try l p ts = read_body l ts >>= λ b. read_part (codes "of") (read_case_clause l) b.1 >>= λ o. read_part (codes "catch") (read_catch l) o.1 >>= λ c. read_after l c.1 >>= λ a.
    (if has_end c.0.items a.0.items then (expect (word (codes "end")) a.1 >>= λ e. Ok ((try_built p b.0 o.0 c.0 a.0 e.0, Plain), e.1)) else unexpected a.1)

-- ---- expressions without operators

-- what begins with this punctuation
abbrev pub primary_from_mark : List ℕ → Place → List Level → Level → Reads Headed
primary_from_mark m p deeper l ts =
    if bytes_eq m (codes "(") then read_parens l (length deeper) p ts else
    if bytes_eq m (codes "{") then read_tuple l p ts else
    if bytes_eq m (codes "[") then read_list deeper l p ts else
    if bytes_eq m (codes "#") then read_hash l p ts else Err (faults.Unexpected p)

-- what begins with this reserved word
abbrev pub primary_from_word : List ℕ → Place → Level → Reads Headed
primary_from_word w p l ts =
    if bytes_eq w (codes "begin") then read_begin l p ts else
    if bytes_eq w (codes "case") then read_case l p ts else
    if bytes_eq w (codes "if") then read_if l p ts else
    if bytes_eq w (codes "fun") then read_fun l p ts else
    if bytes_eq w (codes "try") then read_try l p ts else wrong_word w p

-- what begins with this token
abbrev pub primary_from : Token → Place → List Level → Level → Reads Headed
primary_from (T.Int n) p deeper l ts = plain_leaf p (X.Int n) ts
primary_from (T.Char c) p deeper l ts = plain_leaf p (X.Char c) ts
primary_from (T.Str s) p deeper l ts = read_string s p ts
primary_from (T.Atom a) p deeper l ts = read_named l a p ts
primary_from (T.Var x) p deeper l ts = read_variable l (length deeper) x p ts
primary_from (T.Mark m) p deeper l ts = primary_from_mark m p deeper l ts
primary_from (T.Word w) p deeper l ts = primary_from_word w p l ts
primary_from _ p deeper l ts = Err (faults.Unexpected p)

-- an expression without operators outside of brackets, whose parts are read by the readers of these levels, each one deeper than the one before
unfoldable pub read_postfix : List Level → Reads (Measured Expr)
read_postfix levels [] = unexpected []
read_postfix [] (t ∷ ts) = Err (faults.TooDeep t.place)
read_postfix (l ∷ deeper) (t ∷ ts) = primary_from t.token t.place deeper l ts >>= λ e. read_tails (suc (length e.1)) l (length deeper) e.0 e.1

-- ---- expressions

-- the readers of what is nested at most so many levels deep
abbrev pub level_of : ℕ → List Level → Level
level_of d deeper = record { expr = read_expr_with read_postfix deeper; pattern = read_pattern d; left = read_left (pattern_levels d) }

-- the same of that many levels and of all fewer
unfoldable pub expr_levels : ℕ → List Level
expr_levels zero = []
expr_levels (suc d) = level_of d (expr_levels d) ∷ expr_levels d

-- an expression nested at most so many levels deep
abbrev pub read_expr : ℕ → Reads (Measured Expr)
read_expr d = read_expr_with read_postfix (expr_levels d)

-- one expression nested at most so many levels deep, and the end of the text
unfoldable pub read_whole_expr : ℕ → List Placed → Answer Expr
read_whole_expr d ts = read_expr d ts >>= λ e. in_case (end e.1) (unexpected e.1) (λ p. Ok e.0.tree)
