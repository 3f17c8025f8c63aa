-- The functions that a guard may call, in two parts.
use Rattle.std.specs.Prelude.{ℕ, List, Bool, ◌||◌, codes}
use Rattle.std.specs.Str.{bytes_eq}

-- one that tests which kind of value its argument is
unfoldable pub is_type_test : List ℕ → Bool
is_type_test name = bytes_eq name (codes "is_atom") || (bytes_eq name (codes "is_boolean") || (bytes_eq name (codes "is_integer") || (bytes_eq name (codes "is_list") || (bytes_eq name (codes "is_map") || (bytes_eq name (codes "is_tuple") || bytes_eq name (codes "is_function"))))))

-- one that gives a part or a size of its argument
unfoldable pub is_part_function : List ℕ → Bool
is_part_function name = bytes_eq name (codes "hd") || (bytes_eq name (codes "tl") || (bytes_eq name (codes "length") || (bytes_eq name (codes "tuple_size") || (bytes_eq name (codes "map_size") || bytes_eq name (codes "abs")))))
