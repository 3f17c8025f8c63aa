-- A well-formed type has as many marks as tokens of its own.
use Rattle.std.proofs.Common.{[], ◌∷◌, ◌++◌, suc, refl, ap, map}
use Rattle.std.specs.Prelude.{Some, None, codes}
use Rattle.type_terms.specs.Keys.{Name}
use Rattle.erl_tree.specs.declared.token.Node.{Node}
use Rattle.erl_tree.specs.declared.token.Token.TheVariants as T
use Rattle.erl_tree.specs.declared.pattern.LiteralKind.{LiteralKind}
use Rattle.erl_tree.specs.declared.type_expr.TypeKind.{TypeKind}
use Rattle.erl_tree.specs.declared.type_expr.MapPart.{MapPart}
use Rattle.erl_grammar.specs.Pieces.{own, inner, mark, word, name, commas, HasMarkEach}
use Rattle.erl_grammar.specs.Spelling.{literal_tokens, map_pieces, record_pieces, prefix_pieces, argument_pieces, association_text}
use Rattle.erl_grammar.specs.TypeSpelling.{type_tokens, map_part_tokens, type_field_tokens}
use Rattle.erl_grammar.specs.TypeGrammar.{IsRangeEnd, IsType, IsParameter, IsSimpleType, IsMapPart, IsFieldType}
use Rattle.erl_grammar.specs.TypeGrammar as G
use Rattle.erl_grammar.proofs.MarkLaws.{as_pieces, nested, only_gaps, closed}
use Rattle.erl_grammar.proofs.TypeSpellingLaws as S

pub range_end_marks : {k : Node LiteralKind} → IsRangeEnd k → HasMarkEach literal_tokens k
range_end_marks (G.integer_end p n) = as_pieces (own (T.Int n) ∷ []) (λ ms. refl) refl
range_end_marks (G.negative_end h p n) = as_pieces (mark (codes "-") ∷ own (T.Int n) ∷ []) (λ ms. refl) refl
range_end_marks (G.character_end p c) = as_pieces (own (T.Char c) ∷ []) (λ ms. refl) refl

simple_type_marks : {t : Node TypeKind} → IsSimpleType t → HasMarkEach type_tokens t
simple_type_marks (G.atom_type p a) = as_pieces (name a ∷ []) (S.type_shown-Atom a) refl
simple_type_marks (G.integer_type p n) = as_pieces (own (T.Int n) ∷ []) (S.type_shown-Int n) refl
simple_type_marks (G.negative_type h p n) = as_pieces (mark (codes "-") ∷ own (T.Int n) ∷ []) (S.type_shown-NegInt n) refl
simple_type_marks (G.character_type p c) = as_pieces (own (T.Char c) ∷ []) (S.type_shown-Char c) refl
simple_type_marks (G.variable_type p x) = as_pieces (own (T.Var x) ∷ []) (S.type_shown-Var x) refl
simple_type_marks (G.paren_type o c t h) = as_pieces (mark (codes "(") ∷ inner (type_tokens t) ∷ mark (codes ")") ∷ []) (S.type_shown-Paren t) refl
simple_type_marks (G.range low high m h k) = as_pieces (inner (literal_tokens low) ∷ mark (codes "..") ∷ inner (literal_tokens high) ∷ []) (S.type_shown-Range low high) refl
simple_type_marks (G.used_type n o c ms used args g h) = as_pieces (prefix_pieces None ++ name used ∷ argument_pieces (map type_tokens args)) (S.type_shown-Use None used args) (ap (λ n. suc (suc n)) (closed type_tokens args ms (T.Mark (codes ")")) c g))
simple_type_marks (G.set_operation p d n o c ms used args i g h) = as_pieces (prefix_pieces (Some (codes "ety")) ++ name used ∷ argument_pieces (map type_tokens args)) (S.type_shown-Use (Some (codes "ety")) used args) (ap (λ n. suc (suc (suc (suc n)))) (closed type_tokens args ms (T.Mark (codes ")")) c g))
simple_type_marks (G.nil_type o c) = as_pieces (mark (codes "[") ∷ mark (codes "]") ∷ []) S.type_shown-Nil refl
simple_type_marks (G.list_type o c t h) = as_pieces (mark (codes "[") ∷ inner (type_tokens t) ∷ mark (codes "]") ∷ []) (S.type_shown-ListOf t) refl
simple_type_marks (G.nonempty_list_type o m d c t h) = as_pieces (mark (codes "[") ∷ inner (type_tokens t) ∷ mark (codes ",") ∷ mark (codes "...") ∷ mark (codes "]") ∷ []) (S.type_shown-NonEmpty t) refl
simple_type_marks (G.tuple_type o c ms ts g h) = as_pieces (mark (codes "{") ∷ (commas (map type_tokens ts) ++ mark (codes "}") ∷ [])) (S.type_shown-Tuple ts) (ap suc (closed type_tokens ts ms (T.Mark (codes "}")) c g))
simple_type_marks (G.map_type h o c ms parts g k) = as_pieces (map_pieces (map map_part_tokens parts)) (S.type_shown-Map parts) (ap (λ n. suc (suc n)) (closed map_part_tokens parts ms (T.Mark (codes "}")) c g))
simple_type_marks (G.any_fun_type f o c) = as_pieces (word (codes "fun") ∷ mark (codes "(") ∷ mark (codes ")") ∷ []) S.type_shown-FunAll refl
simple_type_marks (G.fun_type f o q r a c ms params result i g h k) = as_pieces (word (codes "fun") ∷ mark (codes "(") ∷ (argument_pieces (map type_tokens params) ++ mark (codes "->") ∷ inner (type_tokens result) ∷ mark (codes ")") ∷ [])) (S.type_shown-Fun params result)
    (ap (λ n. suc (suc (suc n))) (nested (commas (map type_tokens params)) (mark (codes ")") ∷ []) (mark (codes "->") ∷ inner (type_tokens result) ∷ mark (codes ")") ∷ []) ms (r ∷ a ∷ c ∷ []) (only_gaps (T.Mark (codes ",")) type_tokens params ms g) refl))
simple_type_marks (G.record_type h n o c ms given fields g k) = as_pieces (record_pieces given (map type_field_tokens fields)) (S.type_shown-Rec given given fields) (ap (λ n. suc (suc (suc n))) (closed type_field_tokens fields ms (T.Mark (codes "}")) c g))

pub type_marks : {t : Node TypeKind} → IsType t → HasMarkEach type_tokens t
type_marks (G.one_type t h) = simple_type_marks h
type_marks (G.union t u m h k) = as_pieces (inner (type_tokens t) ∷ mark (codes "|") ∷ inner (type_tokens u) ∷ []) (S.type_shown-Or t u) refl

pub parameter_marks : {t : Node TypeKind} → IsParameter t → HasMarkEach type_tokens t
parameter_marks (G.unnamed t h) = type_marks h
parameter_marks (G.named p m x t h) = as_pieces (own (T.Var x) ∷ mark (codes "::") ∷ inner (type_tokens t) ∷ []) (S.type_shown-Named x t) refl

pub map_part_marks : {part : Node MapPart} → IsMapPart part → HasMarkEach map_part_tokens part
map_part_marks (G.map_part k v m required h g) = as_pieces (inner (type_tokens k) ∷ mark (association_text required) ∷ inner (type_tokens v) ∷ []) (S.map_part_shown-map_part_of k required v) refl

pub field_type_marks : {f : Node (Name × Node TypeKind)} → IsFieldType f → HasMarkEach type_field_tokens f
field_type_marks (G.field_type n m field t h) = as_pieces (name field ∷ mark (codes "::") ∷ inner (type_tokens t) ∷ []) (λ ms. refl) refl
