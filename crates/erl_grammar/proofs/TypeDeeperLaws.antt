-- What of a type is nested deeper than so many levels, is nested deeper than fewer levels too.
use Rattle.std.proofs.Common.{subst}
use Rattle.erl_tree.specs.declared.token.Node.{Node}
use Rattle.erl_tree.specs.declared.type_expr.TypeKind.{TypeKind, roll-TypeKind, map-TypeKind, ind-TypeKind}
use Rattle.erl_tree.specs.declared.type_expr.TypeKind.TheOpen as O
use Rattle.erl_tree.specs.declared.type_expr.MapPart.{MapPart, roll-MapPart, map-MapPart, ind-MapPart}
use Rattle.erl_grammar.specs.Grammar.{node}
use Rattle.erl_grammar.specs.Nesting.{Deep, deep_node}
use Rattle.erl_grammar.specs.TypeNesting.{deep_in_type, deep_in_map_part, type_kind_deep, map_part_kind_deep, type_deep, map_part_deep}
use Rattle.erl_grammar.proofs.DeeperLaws.{Falls, falls_as, none_falls, both_falls, node_falls, Part, bare, all_nodes_fall, all_parts_fall, all_fields_fall}
use Rattle.erl_grammar.proofs.TypeNestingLaws.{type_rolled, map_part_rolled}

abbrev FallingType : Type 0
FallingType = Part type_kind_deep

abbrev FallingMapPart : Type 0
FallingMapPart = Part map_part_kind_deep

abbrev plain_type : O.TypeKind-F FallingType FallingMapPart → O.TypeKind-F TypeKind MapPart
plain_type y = map-TypeKind FallingType FallingMapPart TypeKind MapPart (bare type_kind_deep) (bare map_part_kind_deep) y

abbrev plain_map_part : O.MapPart-F FallingType FallingMapPart → O.MapPart-F TypeKind MapPart
plain_map_part y = map-MapPart FallingType FallingMapPart TypeKind MapPart (bare type_kind_deep) (bare map_part_kind_deep) y

type_node_falls : (t : Node FallingType) → Falls (deep_node (node t.place t.marks (type_kind_deep t.kind.0)))
type_node_falls t = node_falls (node t.place t.marks (type_kind_deep t.kind.0)) t.kind.1

type_layer_falls : (y : O.TypeKind-F FallingType FallingMapPart) → Falls (deep_in_type (map-TypeKind TypeKind MapPart Deep Deep type_kind_deep map_part_kind_deep (plain_type y)))
type_layer_falls (O.Paren t) = type_node_falls t
type_layer_falls (O.Or t u) = both_falls (type_node_falls t) (type_node_falls u)
type_layer_falls (O.Named x t) = type_node_falls t
type_layer_falls (O.Use prefix name args) = all_nodes_fall type_kind_deep args
type_layer_falls (O.ListOf t) = type_node_falls t
type_layer_falls (O.NonEmpty t) = type_node_falls t
type_layer_falls (O.Tuple ts) = all_nodes_fall type_kind_deep ts
type_layer_falls (O.Map parts) = all_parts_fall map_part_kind_deep parts
type_layer_falls (O.Fun params result) = both_falls (all_nodes_fall type_kind_deep params) (type_node_falls result)
type_layer_falls (O.Rec name tag fields) = all_fields_fall type_kind_deep fields
type_layer_falls _ = none_falls

map_part_layer_falls : (y : O.MapPart-F FallingType FallingMapPart) → Falls (deep_in_map_part (map-MapPart TypeKind MapPart Deep Deep type_kind_deep map_part_kind_deep (plain_map_part y)))
map_part_layer_falls y = both_falls (type_node_falls y.key) (type_node_falls y.value)

type_kind_falls : (k : TypeKind) → Falls (type_kind_deep k)
type_kind_falls = ind-TypeKind (λ k. Falls (type_kind_deep k)) (λ k. Falls (map_part_kind_deep k))
    (λ x y e. subst (λ z. Falls (type_kind_deep (roll-TypeKind z))) e (falls_as (type_rolled (plain_type y)) (type_layer_falls y)))
    (λ x y e. subst (λ z. Falls (map_part_kind_deep (roll-MapPart z))) e (falls_as (map_part_rolled (plain_map_part y)) (map_part_layer_falls y)))

map_part_kind_falls : (k : MapPart) → Falls (map_part_kind_deep k)
map_part_kind_falls = ind-MapPart (λ k. Falls (type_kind_deep k)) (λ k. Falls (map_part_kind_deep k))
    (λ x y e. subst (λ z. Falls (type_kind_deep (roll-TypeKind z))) e (falls_as (type_rolled (plain_type y)) (type_layer_falls y)))
    (λ x y e. subst (λ z. Falls (map_part_kind_deep (roll-MapPart z))) e (falls_as (map_part_rolled (plain_map_part y)) (map_part_layer_falls y)))

pub type_falls : (t : Node TypeKind) → Falls (type_deep t)
type_falls t = node_falls (node t.place t.marks (type_kind_deep t.kind)) (type_kind_falls t.kind)

pub map_part_falls : (part : Node MapPart) → Falls (map_part_deep part)
map_part_falls part = map_part_kind_falls part.kind
