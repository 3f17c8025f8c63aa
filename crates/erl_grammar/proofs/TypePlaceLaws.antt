-- The place of a well-formed type is that of its first token.
use Rattle.std.proofs.Common.{refl}
use Rattle.std.specs.Prelude.{Some, None, codes}
use Rattle.type_terms.specs.Keys.{Name}
use Rattle.erl_tree.specs.declared.token.Node.{Node}
use Rattle.erl_tree.specs.declared.pattern.LiteralKind.{LiteralKind}
use Rattle.erl_tree.specs.declared.type_expr.TypeKind.{TypeKind}
use Rattle.erl_tree.specs.declared.type_expr.MapPart.{MapPart}
use Rattle.erl_grammar.specs.Pieces.{BeginsAt}
use Rattle.erl_grammar.specs.Spelling.{literal_tokens}
use Rattle.erl_grammar.specs.TypeSpelling.{type_tokens, map_part_tokens, type_field_tokens}
use Rattle.erl_grammar.specs.TypeGrammar.{IsRangeEnd, IsType, IsParameter, IsSimpleType, IsMapPart, IsFieldType}
use Rattle.erl_grammar.specs.TypeGrammar as G
use Rattle.erl_grammar.proofs.PlaceLaws.{begins_by, begins_with}
use Rattle.erl_grammar.proofs.TypeSpellingLaws as S

pub range_end_begins : {k : Node LiteralKind} → IsRangeEnd k → BeginsAt k.place (literal_tokens k)
range_end_begins (G.integer_end p n) = begins_by _ _ refl
range_end_begins (G.negative_end h p n) = begins_by _ _ refl
range_end_begins (G.character_end p c) = begins_by _ _ refl

simple_type_begins : {t : Node TypeKind} → IsSimpleType t → BeginsAt t.place (type_tokens t)
simple_type_begins (G.atom_type p a) = begins_by _ _ (S.type_shown-Atom a _)
simple_type_begins (G.integer_type p n) = begins_by _ _ (S.type_shown-Int n _)
simple_type_begins (G.negative_type h p n) = begins_by _ _ (S.type_shown-NegInt n _)
simple_type_begins (G.character_type p c) = begins_by _ _ (S.type_shown-Char c _)
simple_type_begins (G.variable_type p x) = begins_by _ _ (S.type_shown-Var x _)
simple_type_begins (G.paren_type o c t h) = begins_by _ _ (S.type_shown-Paren t _)
simple_type_begins (G.range low high m h k) = begins_with (literal_tokens low) _ (S.type_shown-Range low high _) (range_end_begins h)
simple_type_begins (G.used_type n o c ms name args g h) = begins_by _ _ (S.type_shown-Use None name args _)
simple_type_begins (G.set_operation p d n o c ms name args i g h) = begins_by _ _ (S.type_shown-Use (Some (codes "ety")) name args _)
simple_type_begins (G.nil_type o c) = begins_by _ _ (S.type_shown-Nil _)
simple_type_begins (G.list_type o c t h) = begins_by _ _ (S.type_shown-ListOf t _)
simple_type_begins (G.nonempty_list_type o m d c t h) = begins_by _ _ (S.type_shown-NonEmpty t _)
simple_type_begins (G.tuple_type o c ms ts g h) = begins_by _ _ (S.type_shown-Tuple ts _)
simple_type_begins (G.map_type h o c ms parts g k) = begins_by _ _ (S.type_shown-Map parts _)
simple_type_begins (G.any_fun_type f o c) = begins_by _ _ (S.type_shown-FunAll _)
simple_type_begins (G.fun_type f o q r a c ms params result i g h k) = begins_by _ _ (S.type_shown-Fun params result _)
simple_type_begins (G.record_type h n o c ms name fields g k) = begins_by _ _ (S.type_shown-Rec name name fields _)

pub type_begins : {t : Node TypeKind} → IsType t → BeginsAt t.place (type_tokens t)
type_begins (G.one_type t h) = simple_type_begins h
type_begins (G.union t u m h k) = begins_with (type_tokens t) _ (S.type_shown-Or t u _) (simple_type_begins h)

pub parameter_begins : {t : Node TypeKind} → IsParameter t → BeginsAt t.place (type_tokens t)
parameter_begins (G.unnamed t h) = type_begins h
parameter_begins (G.named p m x t h) = begins_by _ _ (S.type_shown-Named x t _)

pub map_part_begins : {part : Node MapPart} → IsMapPart part → BeginsAt part.place (map_part_tokens part)
map_part_begins (G.map_part k v m required h g) = begins_with (type_tokens k) _ (S.map_part_shown-map_part_of k required v _) (type_begins h)

pub field_type_begins : {f : Node (Name × Node TypeKind)} → IsFieldType f → BeginsAt f.place (type_field_tokens f)
field_type_begins (G.field_type n m name t h) = begins_by _ _ refl
