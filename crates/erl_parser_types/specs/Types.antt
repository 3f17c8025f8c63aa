-- Reading type expressions.
use Rattle.std.specs.Prelude.{ℕ, zero, suc, List, [], ◌∷◌, ◌++◌, length, Option, Some, None, Ok, Err, true, if◌then◌else◌, codes}
use Rattle.std.specs.Str.{bytes_eq}
use Rattle.type_terms.specs.Keys.{Name}
use Rattle.erl_tree.specs.declared.token.Place.{Place}
use Rattle.erl_tree.specs.declared.token.Placed.{Placed}
use Rattle.erl_tree.specs.declared.token.Node.{Node}
use Rattle.erl_tree.specs.declared.token.Token.{Token}
use Rattle.erl_tree.specs.declared.token.Token.TheVariants as T
use Rattle.erl_tree.specs.declared.pattern.LiteralKind.{LiteralKind}
use Rattle.erl_tree.specs.declared.pattern.LiteralKind.TheVariants as L
use Rattle.erl_tree.specs.declared.type_expr.TypeKind.{TypeKind}
use Rattle.erl_tree.specs.declared.type_expr.TypeKind.TheVariants as Y
use Rattle.erl_tree.specs.declared.type_expr.MapPart.{MapPart}
use Rattle.erl_grammar.specs.Grammar.{node}
use Rattle.erl_grammar.specs.TypeGrammar.{map_part_of, is_set_operation}
use Rattle.erl_parser_tokens.specs.declared.height.Measured.{Measured}
use Rattle.erl_parser_tokens.specs.declared.fault.ParseFault.TheVariants as faults
use Rattle.erl_parser_tokens.specs.Heights.{flat, higher, measured}
use Rattle.erl_parser_tokens.specs.Tokens.{Answer, Reads, Accepts, ◌>>=◌, in_case, unexpected, outside, expect, mark, atom, integer, end, outside_behind_type, wrong_word}
use Rattle.erl_parser_tokens.specs.Parts.{built, within, read_closed, read_arrow, read_parameters}

-- a type
abbrev pub TypeExpr : Type 0
TypeExpr = Node TypeKind

-- a type of one token
abbrev pub leaf : Place → TypeKind → List Placed → Answer (Measured TypeExpr × List Placed)
leaf p kind ts = Ok (built p (p ∷ []) kind flat, ts)

-- ---- integers, characters and ranges

-- the end of a range whose first token this is
abbrev pub range_end_from : Token → Place → Reads (Node LiteralKind)
range_end_from (T.Int n) p ts = Ok (node p (p ∷ []) (L.Int n), ts)
range_end_from (T.Char c) p ts = Ok (node p (p ∷ []) (L.Char c), ts)
range_end_from (T.Mark m) p ts = if bytes_eq m (codes "-") then (expect integer ts >>= λ n. Ok (node p (p ∷ n.0.1 ∷ []) (L.NegInt n.0.0), n.1)) else Err (faults.Unexpected p)
range_end_from t p ts = Err (faults.Unexpected p)

-- `1`, `-1`, `$c`
unfoldable pub read_range_end : Reads (Node LiteralKind)
read_range_end [] = unexpected []
read_range_end (t ∷ ts) = range_end_from t.token t.place ts

-- a literal as a type
abbrev pub literal_type : LiteralKind → TypeKind
literal_type (L.Atom a) = Y.Atom a
literal_type (L.Int n) = Y.Int n
literal_type (L.NegInt n) = Y.NegInt n
literal_type (L.Char c) = Y.Char c

-- what begins with this literal: itself, or a range
unfoldable pub read_behind_literal : Node LiteralKind → Reads (Measured TypeExpr)
read_behind_literal l ts = in_case (mark (codes "..") ts) (Ok (built l.place l.marks (literal_type l.kind) flat, ts)) (λ m. read_range_end m.1 >>= λ h. Ok (built l.place (m.0 ∷ []) (Y.Range l h.0) flat, h.1))

-- an integer or a range, behind a minus sign
unfoldable pub read_negative : Place → Reads (Measured TypeExpr)
read_negative p ts = expect integer ts >>= λ n. read_behind_literal (node p (p ∷ n.0.1 ∷ []) (L.NegInt n.0.0)) n.1

-- ---- names

-- `ety:f(T, ..)`, behind the colon, which stands at this place
unfoldable pub read_set_operation : Reads (Measured TypeExpr) → (p d : Place) → Reads (Measured TypeExpr)
read_set_operation inner p d ts = expect atom ts >>= λ n. expect (mark (codes "(")) n.1 >>= λ o. read_closed (codes ")") inner o.1 >>= λ s.
    (if is_set_operation n.0.0 s.0.items then Ok (built p (p ∷ d ∷ n.0.1 ∷ o.0 ∷ s.0.marks) (Y.Use (Some (codes "ety")) n.0.0 s.0.items) s.0.height, s.1) else outside (codes "remote name") d)

-- what begins with an atom: itself, or the use of a type
unfoldable pub read_named : Reads (Measured TypeExpr) → Name → Place → Reads (Measured TypeExpr)
read_named inner a p ts = in_case (mark (codes "(") ts)
    (in_case (mark (codes ":") ts) (leaf p (Y.Atom a) ts) (λ d. if bytes_eq a (codes "ety") then read_set_operation inner p d.0 d.1 else outside (codes "remote name") d.0))
    (λ o. read_closed (codes ")") inner o.1 >>= λ s. Ok (built p (p ∷ o.0 ∷ s.0.marks) (Y.Use None a s.0.items) s.0.height, s.1))

-- a variable
unfoldable pub read_variable : Name → Place → Reads (Measured TypeExpr)
read_variable x p ts = in_case (mark (codes ":") ts) (leaf p (Y.Var x) ts) (λ d. outside (codes "remote name") d.0)

-- ---- brackets

-- `(T)`, behind the opening parenthesis
unfoldable pub read_parens : Reads (Measured TypeExpr) → Place → Reads (Measured TypeExpr)
read_parens inner o ts = inner ts >>= λ t. expect (mark (codes ")")) t.1 >>= λ c. Ok (built o (o ∷ c.0 ∷ []) (Y.Paren t.0.tree) t.0.height, c.1)

-- `{T, ..}`, behind the opening brace
unfoldable pub read_tuple : Reads (Measured TypeExpr) → Place → Reads (Measured TypeExpr)
read_tuple inner o ts = read_closed (codes "}") inner ts >>= λ s. Ok (built o (o ∷ s.0.marks) (Y.Tuple s.0.items) s.0.height, s.1)

-- what stands behind the type in brackets: `]`, or `, ...]`
unfoldable pub read_list_end : Place → Measured TypeExpr → Reads (Measured TypeExpr)
read_list_end o t ts = in_case (mark (codes ",") ts)
    (expect (mark (codes "]")) ts >>= λ c. Ok (built o (o ∷ c.0 ∷ []) (Y.ListOf t.tree) t.height, c.1))
    (λ m. expect (mark (codes "...")) m.1 >>= λ d. expect (mark (codes "]")) d.1 >>= λ c. Ok (built o (o ∷ m.0 ∷ d.0 ∷ c.0 ∷ []) (Y.NonEmpty t.tree) t.height, c.1))

-- `[]`, `[T]`, `[T, ...]`, behind the opening bracket
unfoldable pub read_list : Reads (Measured TypeExpr) → Place → Reads (Measured TypeExpr)
read_list inner o ts = in_case (mark (codes "]") ts) (inner ts >>= λ t. read_list_end o t.0 t.1) (λ c. Ok (built o (o ∷ c.0 ∷ []) Y.Nil flat, c.1))

-- `K := T`, `K => T`
unfoldable pub read_map_part : Reads (Measured TypeExpr) → Reads (Measured (Node MapPart))
read_map_part inner ts = inner ts >>= λ k. read_arrow true k.1 >>= λ a. inner a.1 >>= λ v. Ok (measured (node k.0.tree.place (a.0.1 ∷ []) (map_part_of k.0.tree a.0.0 v.0.tree)) (higher k.0.height v.0.height), v.1)

-- `field :: T`
unfoldable pub read_typed_field : Reads (Measured TypeExpr) → Reads (Measured (Node (Name × TypeExpr)))
read_typed_field inner ts = expect atom ts >>= λ a. expect (mark (codes "::")) a.1 >>= λ m. inner m.1 >>= λ t. Ok (measured (node a.0.1 (a.0.1 ∷ m.0 ∷ []) (a.0.0, t.0.tree)) t.0.height, t.1)

-- `#name{field :: T, ..}`, behind `#`
unfoldable pub read_record : Reads (Measured TypeExpr) → Place → Reads (Measured TypeExpr)
read_record inner h ts = expect atom ts >>= λ a. expect (mark (codes "{")) a.1 >>= λ o. read_closed (codes "}") (read_typed_field inner) o.1 >>= λ s. Ok (built h (h ∷ a.0.1 ∷ o.0 ∷ s.0.marks) (Y.Rec a.0.0 a.0.0 s.0.items) s.0.height, s.1)

-- a map or a record, behind `#`
unfoldable pub read_hash : Reads (Measured TypeExpr) → Place → Reads (Measured TypeExpr)
read_hash inner h ts = in_case (mark (codes "{") ts) (read_record inner h ts) (λ o. read_closed (codes "}") (read_map_part inner) o.1 >>= λ s. Ok (built h (h ∷ o.0 ∷ s.0.marks) (Y.Map s.0.items) s.0.height, s.1))

-- ---- parameters

-- the name of a token that is a variable
abbrev pub variable_name : Token → Option Name
variable_name (T.Var x) = Some x
variable_name _ = None

-- `X ::`: the name, and both places
unfoldable pub name_of_parameter : Accepts (Name × Place × Place)
name_of_parameter (t ∷ ts) = in_case (variable_name t.token) None (λ x. in_case (mark (codes "::") ts) None (λ m. Some ((x, t.place, m.0), m.1)))
name_of_parameter [] = None

-- what the first of these readers reads, or a node at this place is too deep
abbrev pub read_inside : List (Reads (Measured TypeExpr)) → Place → Reads (Measured TypeExpr)
read_inside [] p ts = Err (faults.TooDeep p)
read_inside (inner ∷ deeper) p ts = inner ts

-- `T`, `X :: T`, of which the first is read by the inner reader and the type behind `::` by the first of the others, which read less deep
unfoldable pub read_parameter : List (Reads (Measured TypeExpr)) → Reads (Measured TypeExpr) → Reads (Measured TypeExpr)
read_parameter deeper inner ts = in_case (name_of_parameter ts) (inner ts) (λ x. read_inside deeper x.0.1 x.1 >>= λ t. Ok (built x.0.1 (x.0.1 ∷ x.0.2 ∷ []) (Y.Named x.0.0 t.0.tree) t.0.height, t.1))

-- ---- funs

-- `(T, ..) -> T)`, behind the parenthesis of the fun
unfoldable pub read_fun_type : List (Reads (Measured TypeExpr)) → Reads (Measured TypeExpr) → (f o : Place) → Reads (Measured TypeExpr)
read_fun_type deeper inner f o ts = expect (mark (codes "(")) ts >>= λ q. read_parameters (read_parameter deeper inner) q.1 >>= λ s. expect (mark (codes "->")) s.1 >>= λ a. inner a.1 >>= λ r. expect (mark (codes ")")) r.1 >>= λ c.
    Ok (built f (f ∷ o ∷ q.0 ∷ (s.0.marks ++ a.0 ∷ c.0 ∷ [])) (Y.Fun s.0.items r.0.tree) (higher s.0.height r.0.height), c.1)

-- `fun()`, `fun((T, ..) -> T)`, behind `fun`
unfoldable pub read_fun : List (Reads (Measured TypeExpr)) → Reads (Measured TypeExpr) → Place → Reads (Measured TypeExpr)
read_fun deeper inner f ts = expect (mark (codes "(")) ts >>= λ o. in_case (mark (codes ")") o.1) (read_fun_type deeper inner f o.0 o.1) (λ c. Ok (built f (f ∷ o.0 ∷ c.0 ∷ []) Y.FunAll flat, c.1))

-- ---- types

-- the type that begins with this punctuation
abbrev pub type_from_mark : List ℕ → Place → Reads (Measured TypeExpr) → Reads (Measured TypeExpr)
type_from_mark m p inner ts =
    if bytes_eq m (codes "(") then read_parens inner p ts else
    if bytes_eq m (codes "{") then read_tuple inner p ts else
    if bytes_eq m (codes "[") then read_list inner p ts else
    if bytes_eq m (codes "#") then read_hash inner p ts else
    if bytes_eq m (codes "-") then read_negative p ts else Err (faults.Unexpected p)

-- the type that begins with this reserved word
abbrev pub type_from_word : List ℕ → Place → List (Reads (Measured TypeExpr)) → Reads (Measured TypeExpr) → Reads (Measured TypeExpr)
type_from_word w p deeper inner ts = if bytes_eq w (codes "fun") then read_fun deeper inner p ts else wrong_word w p

-- the type whose first token this is; its parts are read by the inner reader, and what is one level deeper by the first of the others
abbrev pub type_from : Token → Place → List (Reads (Measured TypeExpr)) → Reads (Measured TypeExpr) → Reads (Measured TypeExpr)
type_from (T.Atom a) p deeper inner ts = read_named inner a p ts
type_from (T.Var x) p deeper inner ts = read_variable x p ts
type_from (T.Int n) p deeper inner ts = read_behind_literal (node p (p ∷ []) (L.Int n)) ts
type_from (T.Char c) p deeper inner ts = read_behind_literal (node p (p ∷ []) (L.Char c)) ts
type_from (T.Mark m) p deeper inner ts = type_from_mark m p inner ts
type_from (T.Word w) p deeper inner ts = type_from_word w p deeper inner ts
type_from _ p deeper inner ts = Err (faults.Unexpected p)

-- a type without `|` outside of brackets, whose parts are read by these readers, each one level deeper than the one before
unfoldable pub read_simple_type : List (Reads (Measured TypeExpr)) → Reads (Measured TypeExpr)
read_simple_type levels [] = unexpected []
read_simple_type [] (t ∷ ts) = Err (faults.TooDeep t.place)
read_simple_type (inner ∷ deeper) (t ∷ ts) = type_from t.token t.place deeper inner ts

-- `T | U`
abbrev pub union_of : Measured TypeExpr → Place → Measured TypeExpr → Measured TypeExpr
union_of t m u = built t.tree.place (m ∷ []) (Y.Or t.tree u.tree) (higher t.height u.height)

-- what follows a type without `|`: `|` and a type, or nothing of it
abbrev pub read_union : List (Reads (Measured TypeExpr)) → Measured TypeExpr → Reads (Measured TypeExpr)
read_union [] t ts = Ok (t, ts)
read_union (inner ∷ deeper) t ts = in_case (mark (codes "|") ts) (Ok (t, ts)) (λ m. within (length deeper) t (inner m.1 >>= λ u. Ok (union_of t m.0 u.0, u.1)))

-- what follows where no form outside of the profile stands there
abbrev pub none_outside : {A : Type 0} → List Placed → Answer A → Answer A
none_outside [] answer = answer
none_outside (t ∷ ts) answer = in_case (outside_behind_type t.token) answer (λ form. outside form t.place)

-- a type, whose parts are read by these readers
unfoldable pub read_type_with : List (Reads (Measured TypeExpr)) → Reads (Measured TypeExpr)
read_type_with levels ts = read_simple_type levels ts >>= λ t. none_outside t.1 (read_union levels t.0 t.1)

-- the readers of types nested at most so many levels deep and fewer
unfoldable pub type_levels : ℕ → List (Reads (Measured TypeExpr))
type_levels zero = []
type_levels (suc d) = read_type_with (type_levels d) ∷ type_levels d

-- a type nested at most so many levels deep
abbrev pub read_type : ℕ → Reads (Measured TypeExpr)
read_type d = read_type_with (type_levels d)

-- a parameter nested at most so many levels deep
abbrev pub read_parameter_at : ℕ → Reads (Measured TypeExpr)
read_parameter_at d = read_parameter (type_levels d) (read_type d)

-- one type nested at most so many levels deep, and the end of the text
unfoldable pub read_whole_type : ℕ → List Placed → Answer TypeExpr
read_whole_type d ts = read_type d ts >>= λ t. in_case (end t.1) (unexpected t.1) (λ p. Ok t.0.tree)
