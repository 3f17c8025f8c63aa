-- Reading patterns.
use Rattle.std.specs.Prelude.{ℕ, zero, suc, List, [], ◌∷◌, length, None, Ok, Err, if◌then◌else◌, codes}
use Rattle.std.specs.Str.{bytes_eq}
use Rattle.erl_tree.specs.declared.token.Place.{Place}
use Rattle.erl_tree.specs.declared.token.Placed.{Placed}
use Rattle.erl_tree.specs.declared.token.Node.{Node}
use Rattle.erl_tree.specs.declared.token.Token.{Token}
use Rattle.erl_tree.specs.declared.token.Token.TheVariants as T
use Rattle.erl_tree.specs.declared.pattern.LiteralKind.{LiteralKind}
use Rattle.erl_tree.specs.declared.pattern.LiteralKind.TheVariants as L
use Rattle.erl_tree.specs.declared.pattern.PatternKind.{PatternKind}
use Rattle.erl_tree.specs.declared.pattern.PatternKind.TheVariants as P
use Rattle.erl_grammar.specs.Grammar.{node}
use Rattle.erl_grammar.specs.Nesting.{nesting_limit}
use Rattle.erl_parser_tokens.specs.declared.height.Measured.{Measured}
use Rattle.erl_parser_tokens.specs.declared.fault.ParseFault.TheVariants as faults
use Rattle.erl_parser_tokens.specs.Heights.{flat, higher, measured}
use Rattle.erl_parser_tokens.specs.Tokens.{Answer, Reads, ◌>>=◌, in_case, first_place, unexpected, outside, expect, mark, atom, integer, string_next, end, begins_no_key, outside_next, wrong_word}
use Rattle.erl_parser_patterns.specs.Scan.{leads_to}
use Rattle.erl_parser_tokens.specs.Parts.{built, within, no_parts, with_part, read_closed, Cells, read_cells, read_field}

-- a node of one token
abbrev pub leaf : {K : Type 0} → Place → K → List Placed → Answer (Measured (Node K) × List Placed)
leaf p kind ts = Ok (built p (p ∷ []) kind flat, ts)

-- ---- keys and entries of map patterns

-- the key whose first token this is
abbrev pub key_from : Token → Place → Reads (Node LiteralKind)
key_from (T.Atom a) p ts = Ok (node p (p ∷ []) (L.Atom a), ts)
key_from (T.Int n) p ts = Ok (node p (p ∷ []) (L.Int n), ts)
key_from (T.Char c) p ts = Ok (node p (p ∷ []) (L.Char c), ts)
key_from (T.Mark m) p ts = if bytes_eq m (codes "-") then (expect integer ts >>= λ n. Ok (node p (p ∷ n.0.1 ∷ []) (L.NegInt n.0.0), n.1)) else (if begins_no_key (T.Mark m) then outside (codes "map key") p else Err (faults.Unexpected p))
key_from t p ts = if begins_no_key t then outside (codes "map key") p else Err (faults.Unexpected p)

-- `a`, `1`, `-1`, `$c`
unfoldable pub read_key : Reads (Node LiteralKind)
read_key [] = unexpected []
read_key (t ∷ ts) = key_from t.token t.place ts

-- `K := P`
unfoldable pub read_entry : Reads (Measured (Node PatternKind)) → Reads (Measured (Node (Node LiteralKind × Node PatternKind)))
read_entry inner ts = read_key ts >>= λ k. expect (mark (codes ":=")) k.1 >>= λ m. inner m.1 >>= λ p. Ok (measured (node k.0.place (m.0 ∷ []) (k.0, p.0.tree)) p.0.height, p.1)

-- ---- patterns

-- a pattern
abbrev pub Pattern : Type 0
Pattern = Node PatternKind

-- a string
unfoldable pub read_string_pattern : List ℕ → Place → Reads (Measured Pattern)
read_string_pattern s p ts = if string_next ts then outside (codes "adjacent strings") p else leaf p (P.Str s) ts

-- an integer behind a minus sign, which stands at this place
unfoldable pub read_negative : Place → Reads (Measured Pattern)
read_negative p ts = expect integer ts >>= λ n. Ok (built p (p ∷ n.0.1 ∷ []) (P.NegInt n.0.0) flat, n.1)

-- `(P)`, behind the opening parenthesis
unfoldable pub read_paren_pattern : Reads (Measured Pattern) → Place → Reads (Measured Pattern)
read_paren_pattern inner o ts = inner ts >>= λ p. expect (mark (codes ")")) p.1 >>= λ c. Ok (built o (o ∷ c.0 ∷ []) (P.Paren p.0.tree) p.0.height, c.1)

-- `{P, ..}`, behind the opening brace
unfoldable pub read_tuple_pattern : Reads (Measured Pattern) → Place → Reads (Measured Pattern)
read_tuple_pattern inner o ts = read_closed (codes "}") inner ts >>= λ s. Ok (built o (o ∷ s.0.marks) (P.Tuple s.0.items) s.0.height, s.1)

-- the list with these cells
abbrev pub list_pattern : Place → Cells Pattern → Measured Pattern
list_pattern o cs = built o (o ∷ cs.marks) (P.Cells cs.items cs.tail) cs.height

-- `[P, .. | P]`, behind the opening bracket
unfoldable pub read_list_pattern : List (Reads (Measured Pattern)) → Reads (Measured Pattern) → Place → Reads (Measured Pattern)
read_list_pattern deeper inner o ts = in_case (mark (codes "]") ts)
    (inner ts >>= λ p. read_cells deeper inner zero (with_part no_parts p.0) p.1 >>= λ cs. Ok (list_pattern o cs.0, cs.1))
    (λ c. Ok (built o (o ∷ c.0 ∷ []) (P.Cells [] None) flat, c.1))

-- `#{K := P, ..}`, behind `#{`
unfoldable pub read_map_pattern : Reads (Measured Pattern) → (h o : Place) → Reads (Measured Pattern)
read_map_pattern inner h o ts = read_closed (codes "}") (read_entry inner) ts >>= λ s. Ok (built h (h ∷ o ∷ s.0.marks) (P.Map s.0.items) s.0.height, s.1)

-- `#name{field = P, ..}`, behind `#`, or a field without a record in front
unfoldable pub read_record_pattern : Reads (Measured Pattern) → Place → Reads (Measured Pattern)
read_record_pattern inner h ts = expect atom ts >>= λ a. in_case (mark (codes ".") a.1)
    (expect (mark (codes "{")) a.1 >>= λ o. read_closed (codes "}") (read_field inner) o.1 >>= λ s. Ok (built h (h ∷ a.0.1 ∷ o.0 ∷ s.0.marks) (P.Rec a.0.0 a.0.0 s.0.items) s.0.height, s.1))
    (λ d. outside (codes "record index") h)

-- a map or a record, behind `#`
unfoldable pub read_hash_pattern : Reads (Measured Pattern) → Place → Reads (Measured Pattern)
read_hash_pattern inner h ts = in_case (mark (codes "{") ts) (read_record_pattern inner h ts) (λ o. read_map_pattern inner h o.0 o.1)

-- the pattern that begins with this punctuation
abbrev pub pattern_from_mark : List ℕ → Place → List (Reads (Measured Pattern)) → Reads (Measured Pattern) → Reads (Measured Pattern)
pattern_from_mark m p deeper inner ts =
    if bytes_eq m (codes "(") then read_paren_pattern inner p ts else
    if bytes_eq m (codes "{") then read_tuple_pattern inner p ts else
    if bytes_eq m (codes "[") then read_list_pattern deeper inner p ts else
    if bytes_eq m (codes "#") then read_hash_pattern inner p ts else
    if bytes_eq m (codes "-") then read_negative p ts else Err (faults.Unexpected p)

-- the pattern whose first token this is
abbrev pub pattern_from : Token → Place → List (Reads (Measured Pattern)) → Reads (Measured Pattern) → Reads (Measured Pattern)
pattern_from (T.Atom a) p deeper inner ts = leaf p (P.Atom a) ts
pattern_from (T.Int n) p deeper inner ts = leaf p (P.Int n) ts
pattern_from (T.Char c) p deeper inner ts = leaf p (P.Char c) ts
pattern_from (T.Str s) p deeper inner ts = read_string_pattern s p ts
pattern_from (T.Var x) p deeper inner ts = leaf p (P.Var x) ts
pattern_from (T.Mark m) p deeper inner ts = pattern_from_mark m p deeper inner ts
pattern_from (T.Word w) p deeper inner ts = wrong_word w p
pattern_from _ p deeper inner ts = Err (faults.Unexpected p)

-- a pattern without `=` outside of brackets, whose parts are read by these readers, each one level deeper than the one before
unfoldable pub read_simple_pattern : List (Reads (Measured Pattern)) → Reads (Measured Pattern)
read_simple_pattern levels [] = unexpected []
read_simple_pattern [] (t ∷ ts) = Err (faults.TooDeep t.place)
read_simple_pattern (inner ∷ deeper) (t ∷ ts) = pattern_from t.token t.place deeper inner ts

-- what follows a pattern, where no form outside of the profile stands behind it
abbrev pub no_outside : {A : Type 0} → List Placed → Answer A → Answer A
no_outside ts answer = in_case (outside_next ts) answer (λ o. outside o.1 o.0)

-- `P = Q`
abbrev pub alias_of : Measured Pattern → Place → Measured Pattern → Measured Pattern
alias_of p m q = built p.tree.place (m ∷ []) (P.Alias p.tree q.tree) (higher p.height q.height)

-- what follows a pattern without `=`: `=` and a pattern, or nothing of it
abbrev pub read_alias : List (Reads (Measured Pattern)) → Measured Pattern → Reads (Measured Pattern)
read_alias [] p ts = Ok (p, ts)
read_alias (inner ∷ deeper) p ts = in_case (mark (codes "=") ts) (Ok (p, ts)) (λ m. within (length deeper) p (inner m.1 >>= λ q. Ok (alias_of p m.0 q.0, q.1)))

-- a pattern, whose parts are read by these readers
unfoldable pub read_pattern_with : List (Reads (Measured Pattern)) → Reads (Measured Pattern)
read_pattern_with levels ts = read_simple_pattern levels ts >>= λ p. no_outside p.1 (read_alias levels p.0 p.1)

-- the readers of patterns nested at most so many levels deep and fewer
unfoldable pub pattern_levels : ℕ → List (Reads (Measured Pattern))
pattern_levels zero = []
pattern_levels (suc d) = read_pattern_with (pattern_levels d) ∷ pattern_levels d

-- a pattern nested at most so many levels deep
abbrev pub read_pattern : ℕ → Reads (Measured Pattern)
read_pattern d = read_pattern_with (pattern_levels d)

-- the pattern of a match and the place of its `=`: of several `=` the last one is the match's
unfoldable pub read_left : List (Reads (Measured Pattern)) → Reads (Measured Pattern × Place)
read_left [] ts = Err (faults.TooDeep (first_place ts))
read_left (inner ∷ deeper) ts = read_simple_pattern (inner ∷ deeper) ts >>= λ p. no_outside p.1 (expect (mark (codes "=")) p.1 >>= λ m.
    (if leads_to (codes "=") m.1 then within (length deeper) p.0 (read_left deeper m.1 >>= λ q. Ok ((alias_of p.0 m.0 q.0.0, q.0.1), q.1)) else Ok ((p.0, m.0), m.1)))

-- a pattern of the whole text
abbrev pub read_whole_pattern : List Placed → Answer Pattern
read_whole_pattern ts = read_pattern nesting_limit ts >>= λ p. in_case (end p.1) (unexpected p.1) (λ e. Ok p.0.tree)
