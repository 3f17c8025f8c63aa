-- Lists of references to type expressions.
use Rattle.std.specs.Prelude.{List, map}
use Rattle.std.specs.Borrow.{Bor}
use Rattle.type_terms.specs.Keys.{Name}
use Rattle.erl_tree.specs.declared.token.Node.{Node}
use Rattle.erl_tree.specs.declared.type_expr.TypeKind.{TypeKind}
use Rattle.erl_tree.specs.declared.type_expr.MapPart.{MapPart}
use Rattle.typespecs_rules.specs.TypeParts.{Inside, inside_map_part_kind, types_within}

-- the type expressions to which references lead
abbrev pub seen : List (Bor (Node TypeKind)) → List (Node TypeKind)
seen list = map (λ b. b.now) list

-- those in a part of a map type
abbrev pub inside_part : Node MapPart → Inside
inside_part part = inside_map_part_kind part.kind

-- those in a field of a record type
abbrev pub inside_field : Node (Name × Node TypeKind) → Inside
inside_field field = types_within field.kind.1
