-- The tokens of types whose own tokens stand between their parts, with the tokens behind them.
use Rattle.std.proofs.Common.{◌≡◌, ap, ◌∙◌, Bool, List, [], ◌∷◌, ◌++◌, map, append_assoc, append-nil}
use Rattle.std.specs.Prelude.{codes}
use Rattle.type_terms.specs.Keys.{Name}
use Rattle.erl_tree.specs.declared.token.Place.{Place}
use Rattle.erl_tree.specs.declared.token.Placed.{Placed}
use Rattle.erl_tree.specs.declared.token.Node.{Node}
use Rattle.erl_tree.specs.declared.token.Token.TheVariants as T
use Rattle.erl_tree.specs.declared.pattern.LiteralKind.{LiteralKind}
use Rattle.erl_tree.specs.declared.type_expr.TypeKind.TheVariants as Y
use Rattle.erl_grammar.specs.Pieces.{at, Piece, own, inner, fill, commas}
use Rattle.erl_grammar.specs.Grammar.{AreSeparators}
use Rattle.erl_grammar.specs.Spelling.{literal_tokens, association_text}
use Rattle.erl_grammar.specs.TypeSpelling.{type_shown, map_part_shown, type_tokens, type_field_tokens}
use Rattle.erl_grammar.specs.TypeGrammar.{map_part_of}
use Rattle.erl_grammar.proofs.TypeSpellingLaws.{type_shown-Or, type_shown-Range, type_shown-Named, type_shown-Fun, map_part_shown-map_part_of}
use Rattle.erl_parser_tokens.proofs.PartLaws.{listed, fill-listed}
use Rattle.erl_parser_types.specs.Types.{TypeExpr}

-- two texts with a mark between them, and what is behind
between_text : (xs ys : List Placed) (text : Name) (m : Place) (rest : List Placed) → (xs ++ (at (T.Mark text) m ∷ (ys ++ []))) ++ rest ≡ xs ++ (at (T.Mark text) m ∷ (ys ++ rest))
between_text xs ys text m rest = append_assoc xs (at (T.Mark text) m ∷ (ys ++ [])) rest ∙ ap (λ l. xs ++ (at (T.Mark text) m ∷ (l ++ rest))) (append-nil ys)

-- `L..H`
pub range_text : (low high : Node LiteralKind) (m : Place) (rest : List Placed) → type_shown (Y.Range low high) (m ∷ []) ++ rest ≡ literal_tokens low ++ (at (T.Mark (codes "..")) m ∷ (literal_tokens high ++ rest))
range_text low high m rest = ap (λ l. l ++ rest) (type_shown-Range low high (m ∷ [])) ∙ between_text (literal_tokens low) (literal_tokens high) (codes "..") m rest

-- `T | U`
pub union_text : (t u : TypeExpr) (m : Place) (rest : List Placed) → type_shown (Y.Or t u) (m ∷ []) ++ rest ≡ type_tokens t ++ (at (T.Mark (codes "|")) m ∷ (type_tokens u ++ rest))
union_text t u m rest = ap (λ l. l ++ rest) (type_shown-Or t u (m ∷ [])) ∙ between_text (type_tokens t) (type_tokens u) (codes "|") m rest

-- `X :: T`
pub named_text : (p m : Place) (x : Name) (t : TypeExpr) (rest : List Placed) → type_shown (Y.Named x t) (p ∷ m ∷ []) ++ rest ≡ at (T.Var x) p ∷ at (T.Mark (codes "::")) m ∷ (type_tokens t ++ rest)
named_text p m x t rest = ap (λ l. l ++ rest) (type_shown-Named x t (p ∷ m ∷ [])) ∙ between_text (at (T.Var x) p ∷ []) (type_tokens t) (codes "::") m rest

-- `field :: T`
pub field_text : (n m : Place) (name : Name) (t : TypeExpr) (rest : List Placed) → type_field_tokens (record { place = n; marks = n ∷ m ∷ []; kind = (name, t) }) ++ rest ≡ at (T.Atom name) n ∷ at (T.Mark (codes "::")) m ∷ (type_tokens t ++ rest)
field_text n m name t rest = between_text (at (T.Atom name) n ∷ []) (type_tokens t) (codes "::") m rest

-- `K := V`, `K => V`
pub map_part_text : (k v : TypeExpr) (m : Place) (required : Bool) (rest : List Placed) → map_part_shown (map_part_of k required v) (m ∷ []) ++ rest ≡ type_tokens k ++ (at (T.Mark (association_text required)) m ∷ (type_tokens v ++ rest))
map_part_text k v m required rest = ap (λ l. l ++ rest) (map_part_shown-map_part_of k required v (m ∷ [])) ∙ between_text (type_tokens k) (type_tokens v) (association_text required) m rest

-- ---- funs

-- the pieces behind the parameters of a fun type, and their tokens with what is behind
abbrev result_pieces : TypeExpr → List Piece
result_pieces result = own (T.Mark (codes "->")) ∷ inner (type_tokens result) ∷ own (T.Mark (codes ")")) ∷ []

abbrev pub result_text : (a c : Place) → TypeExpr → List Placed → List Placed
result_text a c result rest = at (T.Mark (codes "->")) a ∷ (type_tokens result ++ at (T.Mark (codes ")")) c ∷ rest)

-- parameters with the parenthesis behind them, and what is behind
abbrev pub parameters_text : List TypeExpr → List Place → Place → List Placed → List Placed
parameters_text params ms r rest = listed type_tokens (T.Mark (codes ",")) params ms ++ at (T.Mark (codes ")")) r ∷ rest

parameters_filled : (params : List TypeExpr) (ms : List Place) (r a c : Place) (result : TypeExpr) (rest : List Placed) → AreSeparators params ms
    → fill ((commas (map type_tokens params) ++ own (T.Mark (codes ")")) ∷ []) ++ result_pieces result) (ms ++ r ∷ a ∷ c ∷ []) ++ rest ≡ parameters_text params ms r (result_text a c result rest)
parameters_filled params ms r a c result rest g =
    let ps : List Piece = own (T.Mark (codes ")")) ∷ result_pieces result in
    let us : List Placed = listed type_tokens (T.Mark (codes ",")) params ms in
    ap (λ qs. fill qs (ms ++ r ∷ a ∷ c ∷ []) ++ rest) (append_assoc (commas (map type_tokens params)) (own (T.Mark (codes ")")) ∷ []) (result_pieces result))
    ∙ (ap (λ l. l ++ rest) (fill-listed type_tokens (T.Mark (codes ",")) params ms ps (r ∷ a ∷ c ∷ []) g)
    ∙ (append_assoc us (at (T.Mark (codes ")")) r ∷ at (T.Mark (codes "->")) a ∷ (type_tokens result ++ at (T.Mark (codes ")")) c ∷ [])) rest
    ∙ ap (λ l. us ++ (at (T.Mark (codes ")")) r ∷ at (T.Mark (codes "->")) a ∷ l)) (append_assoc (type_tokens result) (at (T.Mark (codes ")")) c ∷ []) rest)))

-- `fun((T, ..) -> T)`
pub fun_text : (f o q r a c : Place) (ms : List Place) (params : List TypeExpr) (result : TypeExpr) (rest : List Placed) → AreSeparators params ms
    → type_shown (Y.Fun params result) (f ∷ o ∷ q ∷ (ms ++ r ∷ a ∷ c ∷ [])) ++ rest ≡ at (T.Word (codes "fun")) f ∷ at (T.Mark (codes "(")) o ∷ at (T.Mark (codes "(")) q ∷ parameters_text params ms r (result_text a c result rest)
fun_text f o q r a c ms params result rest g = ap (λ l. l ++ rest) (type_shown-Fun params result (f ∷ o ∷ q ∷ (ms ++ r ∷ a ∷ c ∷ [])))
    ∙ ap (λ l. at (T.Word (codes "fun")) f ∷ at (T.Mark (codes "(")) o ∷ at (T.Mark (codes "(")) q ∷ l) (parameters_filled params ms r a c result rest g)
