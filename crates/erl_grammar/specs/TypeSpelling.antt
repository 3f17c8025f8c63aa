-- The tokens of type expressions, as functions of their trees (Erlang Reference Manual, "Types and Function Specifications").
use Rattle.std.specs.Prelude.{ℕ, List, [], ◌∷◌, ◌++◌, map, codes}
use Rattle.erl_tree.specs.declared.token.Placed.{Placed}
use Rattle.erl_tree.specs.declared.token.Node.{Node}
use Rattle.erl_tree.specs.declared.token.Token.TheVariants as T
use Rattle.erl_tree.specs.declared.type_expr.TypeKind.{TypeKind, fold-TypeKind}
use Rattle.erl_tree.specs.declared.type_expr.MapPart.{MapPart, fold-MapPart}
use Rattle.erl_tree.specs.declared.type_expr.TypeKind.TheOpen as Y
use Rattle.erl_grammar.specs.Pieces.{Piece, own, inner, fill, mark, word, name, commas}
use Rattle.erl_grammar.specs.Spelling.{Shown, shown, literal_tokens, map_pieces, record_pieces, prefix_pieces, argument_pieces, association_text}

-- a field of a record type: `field :: T`
abbrev pub annotated_field_tokens : {A : Type 0} → (A → List Placed) → Node (List ℕ × A) → List Placed
annotated_field_tokens tokens n = fill (name n.kind.0 ∷ mark (codes "::") ∷ inner (tokens n.kind.1) ∷ []) n.marks

-- one level of a type
abbrev pub type_pieces : Y.TypeKind-F Shown Shown → List Piece
type_pieces (Y.Atom a) = name a ∷ []
type_pieces (Y.Int n) = own (T.Int n) ∷ []
type_pieces (Y.NegInt n) = mark (codes "-") ∷ own (T.Int n) ∷ []
type_pieces (Y.Char c) = own (T.Char c) ∷ []
type_pieces (Y.Var x) = own (T.Var x) ∷ []
type_pieces (Y.Paren t) = mark (codes "(") ∷ inner (shown t) ∷ mark (codes ")") ∷ []
type_pieces (Y.Or t u) = inner (shown t) ∷ mark (codes "|") ∷ inner (shown u) ∷ []
type_pieces (Y.Named x t) = own (T.Var x) ∷ mark (codes "::") ∷ inner (shown t) ∷ []
type_pieces (Y.Range low high) = inner (literal_tokens low) ∷ mark (codes "..") ∷ inner (literal_tokens high) ∷ []
type_pieces (Y.Use prefix used args) = prefix_pieces prefix ++ name used ∷ argument_pieces (map shown args)
type_pieces Y.Nil = mark (codes "[") ∷ mark (codes "]") ∷ []
type_pieces (Y.ListOf t) = mark (codes "[") ∷ inner (shown t) ∷ mark (codes "]") ∷ []
type_pieces (Y.NonEmpty t) = mark (codes "[") ∷ inner (shown t) ∷ mark (codes ",") ∷ mark (codes "...") ∷ mark (codes "]") ∷ []
type_pieces (Y.Tuple ts) = mark (codes "{") ∷ (commas (map shown ts) ++ mark (codes "}") ∷ [])
type_pieces (Y.Map parts) = map_pieces (map shown parts)
type_pieces Y.FunAll = word (codes "fun") ∷ mark (codes "(") ∷ mark (codes ")") ∷ []
type_pieces (Y.Fun params result) = word (codes "fun") ∷ mark (codes "(") ∷ (argument_pieces (map shown params) ++ mark (codes "->") ∷ inner (shown result) ∷ mark (codes ")") ∷ [])
type_pieces (Y.Rec record_name tag fields) = record_pieces record_name (map (annotated_field_tokens shown) fields)

-- one level of a part of a map type: `K := T`, `K => T`
abbrev pub map_part_pieces : Y.MapPart-F Shown Shown → List Piece
map_part_pieces part = inner (shown part.key) ∷ mark (association_text part.required) ∷ inner (shown part.value) ∷ []

-- the tokens of what stands in the nodes of types and of parts of map types
unfoldable pub type_shown : TypeKind → Shown
type_shown t = fold-TypeKind Shown Shown (λ l. fill (type_pieces l)) (λ l. fill (map_part_pieces l)) t

unfoldable pub map_part_shown : MapPart → Shown
map_part_shown part = fold-MapPart Shown Shown (λ l. fill (type_pieces l)) (λ l. fill (map_part_pieces l)) part

-- the tokens of a type
abbrev pub type_tokens : Node TypeKind → List Placed
type_tokens t = type_shown t.kind t.marks

-- the tokens of a part of a map type
abbrev pub map_part_tokens : Node MapPart → List Placed
map_part_tokens part = map_part_shown part.kind part.marks

-- the tokens of a field of a record type
abbrev pub type_field_tokens : Node (List ℕ × Node TypeKind) → List Placed
type_field_tokens n = annotated_field_tokens type_tokens n
