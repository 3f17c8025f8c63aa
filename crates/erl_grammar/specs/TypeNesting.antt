-- How deep types are nested. A leaf that is the whole stands at level 1, and what stands in a node is one level deeper. Parts of map types, fields of record types and the ends of ranges add no level.
use Rattle.std.specs.Prelude.{◌≡◌, ℕ, [], ◌++◌}
use Rattle.erl_tree.specs.declared.token.Node.{Node}
use Rattle.erl_tree.specs.declared.type_expr.TypeKind.{TypeKind, fold-TypeKind}
use Rattle.erl_tree.specs.declared.type_expr.MapPart.{MapPart, fold-MapPart}
use Rattle.erl_tree.specs.declared.type_expr.TypeKind.TheOpen as Y
use Rattle.erl_grammar.specs.Nesting.{Deep, deep_node, deep_part, deep_all, deep_second}

-- what stands in a type's node
abbrev pub deep_in_type : Y.TypeKind-F Deep Deep → Deep
deep_in_type (Y.Paren t) levels = deep_node t levels
deep_in_type (Y.Or t u) levels = deep_node t levels ++ deep_node u levels
deep_in_type (Y.Named x t) levels = deep_node t levels
deep_in_type (Y.Use prefix name args) levels = deep_all deep_node args levels
deep_in_type (Y.ListOf t) levels = deep_node t levels
deep_in_type (Y.NonEmpty t) levels = deep_node t levels
deep_in_type (Y.Tuple ts) levels = deep_all deep_node ts levels
deep_in_type (Y.Map parts) levels = deep_all deep_part parts levels
deep_in_type (Y.Fun params result) levels = deep_all deep_node params levels ++ deep_node result levels
deep_in_type (Y.Rec name tag fields) levels = deep_all (deep_second deep_node) fields levels
deep_in_type _ levels = []

-- a part of a map type
abbrev pub deep_in_map_part : Y.MapPart-F Deep Deep → Deep
deep_in_map_part part levels = deep_node part.key levels ++ deep_node part.value levels

unfoldable pub type_kind_deep : TypeKind → Deep
type_kind_deep t = fold-TypeKind Deep Deep deep_in_type deep_in_map_part t

unfoldable pub map_part_kind_deep : MapPart → Deep
map_part_kind_deep part = fold-MapPart Deep Deep deep_in_type deep_in_map_part part

-- the places of a type's nodes that are nested deeper than so many levels
abbrev pub type_deep : Node TypeKind → Deep
type_deep t = deep_node (record { place = t.place; marks = t.marks; kind = type_kind_deep t.kind })

-- the same of a part of a map type, which counts as no level
abbrev pub map_part_deep : Node MapPart → Deep
map_part_deep part levels = map_part_kind_deep part.kind levels

-- a type nested at most so many levels deep
abbrev pub IsTypeWithin : ℕ → Node TypeKind → Type 0
IsTypeWithin levels t = type_deep t levels ≡ []
