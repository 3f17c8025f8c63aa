-- Every well-formed type stays within some number of levels.
use Rattle.type_terms.specs.Keys.{Name}
use Rattle.erl_tree.specs.declared.token.Node.{Node}
use Rattle.erl_tree.specs.declared.type_expr.TypeKind.{TypeKind}
use Rattle.erl_tree.specs.declared.type_expr.MapPart.{MapPart}
use Rattle.erl_grammar.specs.Nesting.{deep_second}
use Rattle.erl_grammar.specs.TypeNesting.{type_kind_deep, type_deep, map_part_deep}
use Rattle.erl_grammar.specs.TypeGrammar.{IsType, IsParameter, IsSimpleType, IsMapPart, IsFieldType}
use Rattle.erl_grammar.specs.TypeGrammar as G
use Rattle.erl_grammar.proofs.DepthLaws.{Bounded, bounded_as, bounded_none, bounded_both, bounded_node, bounded_all}
use Rattle.erl_grammar.proofs.TypeNestingLaws as N

type_up : (t : Node TypeKind) → Bounded (type_kind_deep t.kind) → Bounded (type_deep t)
type_up t b = bounded_node t.place t.marks b

mutual
  type_in : {t : Node TypeKind} → IsType t → Bounded (type_kind_deep t.kind)
  type_in (G.one_type t h) = simple_type_bounded h
  type_in (G.union t u m h k) = bounded_as (N.type_kind_deep-Or t u) (bounded_both (type_up t (simple_type_bounded h)) (type_up u (type_in k)))

  parameter_in : {t : Node TypeKind} → IsParameter t → Bounded (type_kind_deep t.kind)
  parameter_in (G.unnamed t h) = type_in h
  parameter_in (G.named p m x t h) = bounded_as (N.type_kind_deep-Named x t) (type_up t (type_in h))

  simple_type_bounded : {t : Node TypeKind} → IsSimpleType t → Bounded (type_kind_deep t.kind)
  simple_type_bounded (G.atom_type p a) = bounded_as (N.type_kind_deep-Atom a) bounded_none
  simple_type_bounded (G.integer_type p n) = bounded_as (N.type_kind_deep-Int n) bounded_none
  simple_type_bounded (G.negative_type h p n) = bounded_as (N.type_kind_deep-NegInt n) bounded_none
  simple_type_bounded (G.character_type p c) = bounded_as (N.type_kind_deep-Char c) bounded_none
  simple_type_bounded (G.variable_type p x) = bounded_as (N.type_kind_deep-Var x) bounded_none
  simple_type_bounded (G.paren_type o c t h) = bounded_as (N.type_kind_deep-Paren t) (type_up t (type_in h))
  simple_type_bounded (G.range low high m h k) = bounded_as (N.type_kind_deep-Range low high) bounded_none
  simple_type_bounded (G.used_type n o c ms name args g h) = bounded_as (N.type_kind_deep-Use _ name args) (bounded_all type_deep args (λ t i. type_up t (type_in (h t i))))
  simple_type_bounded (G.set_operation p d n o c ms name args i g h) = bounded_as (N.type_kind_deep-Use _ name args) (bounded_all type_deep args (λ t i. type_up t (type_in (h t i))))
  simple_type_bounded (G.nil_type o c) = bounded_as N.type_kind_deep-Nil bounded_none
  simple_type_bounded (G.list_type o c t h) = bounded_as (N.type_kind_deep-ListOf t) (type_up t (type_in h))
  simple_type_bounded (G.nonempty_list_type o m d c t h) = bounded_as (N.type_kind_deep-NonEmpty t) (type_up t (type_in h))
  simple_type_bounded (G.tuple_type o c ms ts g h) = bounded_as (N.type_kind_deep-Tuple ts) (bounded_all type_deep ts (λ t i. type_up t (type_in (h t i))))
  simple_type_bounded (G.map_type h o c ms parts g k) = bounded_as (N.type_kind_deep-Map parts) (bounded_all map_part_deep parts (λ part i. map_part_bounded (k part i)))
  simple_type_bounded (G.any_fun_type f o c) = bounded_as N.type_kind_deep-FunAll bounded_none
  simple_type_bounded (G.fun_type f o q r a c ms params result i g h k) = bounded_as (N.type_kind_deep-Fun params result) (bounded_both (bounded_all type_deep params (λ t i. type_up t (parameter_in (h t i)))) (type_up result (type_in k)))
  simple_type_bounded (G.record_type h n o c ms name fields g k) = bounded_as (N.type_kind_deep-Rec name name fields) (bounded_all (deep_second type_deep) fields (λ f i. field_type_bounded (k f i)))

  map_part_bounded : {part : Node MapPart} → IsMapPart part → Bounded (map_part_deep part)
  map_part_bounded (G.map_part k v m required h g) = bounded_as (N.map_part_kind_deep-map_part_of k required v) (bounded_both (type_up k (type_in h)) (type_up v (type_in g)))

  field_type_bounded : {f : Node (Name × Node TypeKind)} → IsFieldType f → Bounded (deep_second type_deep f)
  field_type_bounded (G.field_type n m name t h) = type_up t (type_in h)

pub type_bounded : {t : Node TypeKind} → IsType t → Bounded (type_deep t)
type_bounded {t} h = type_up t (type_in h)

pub parameter_bounded : {t : Node TypeKind} → IsParameter t → Bounded (type_deep t)
parameter_bounded {t} h = type_up t (parameter_in h)
