-- The type expressions that stand in a type expression, at any depth.
use Rattle.std.specs.Prelude.{List, [], ◌∷◌, ◌++◌}
use Rattle.erl_tree.specs.declared.token.Node.{Node}
use Rattle.erl_tree.specs.declared.type_expr.TypeKind.{TypeKind, para-TypeKind}
use Rattle.erl_tree.specs.declared.type_expr.MapPart.{MapPart, para-MapPart}
use Rattle.erl_tree.specs.declared.type_expr.TypeKind.TheOpen as Y
use Rattle.erl_grammar.specs.Grammar.{node}

-- what each element of a list gives, one after the other
abbrev pub from_each : {A B : Type 0} → (A → List B) → List A → List B
from_each gives [] = []
from_each gives (x ∷ xs) = gives x ++ from_each gives xs

-- the type expressions that stand inside one, in text order
abbrev pub Inside : Type 0
Inside = List (Node TypeKind)

-- a type expression, and those inside it
abbrev pub with_inside : Node (TypeKind × Inside) → Inside
with_inside n = node n.place n.marks n.kind.0 ∷ n.kind.1

-- those in one level of a type expression. The keys of a map type are type expressions too
abbrev pub inside_layer : Y.TypeKind-F (TypeKind × Inside) (MapPart × Inside) → Inside
inside_layer (Y.Paren t) = with_inside t
inside_layer (Y.Or t u) = with_inside t ++ with_inside u
inside_layer (Y.Named x t) = with_inside t
inside_layer (Y.Use prefix name args) = from_each with_inside args
inside_layer (Y.ListOf t) = with_inside t
inside_layer (Y.NonEmpty t) = with_inside t
inside_layer (Y.Tuple ts) = from_each with_inside ts
inside_layer (Y.Map parts) = from_each (λ part. part.kind.1) parts
inside_layer (Y.Fun params result) = from_each with_inside params ++ with_inside result
inside_layer (Y.Rec name tag fields) = from_each (λ field. with_inside field.kind.1) fields
inside_layer _ = []

-- those in a part of a map type: its key and its value
abbrev pub inside_map_part_layer : Y.MapPart-F (TypeKind × Inside) (MapPart × Inside) → Inside
inside_map_part_layer part = with_inside part.key ++ with_inside part.value

-- what stands inside what stands in a type's node, and in that of a part of a map type
unfoldable pub inside_kind : TypeKind → Inside
inside_kind t = para-TypeKind Inside Inside inside_layer inside_map_part_layer t

unfoldable pub inside_map_part_kind : MapPart → Inside
inside_map_part_kind part = para-MapPart Inside Inside inside_layer inside_map_part_layer part

-- a type expression, and all that stand inside it
abbrev pub types_within : Node TypeKind → List (Node TypeKind)
types_within t = t ∷ inside_kind t.kind
