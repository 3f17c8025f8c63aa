-- The fields of a map term in the order of their keys.
use Rattle.std.specs.Prelude.{List, [], ◌∷◌, cond}
use Rattle.type_terms.specs.Keys.{key_lt}
use Rattle.type_terms.specs.declared.term.Field.{Field}

-- a field among others, before the first one with a greater key
abbrev pub placed : Field → List Field → List Field
placed field [] = field ∷ []
placed field (next ∷ fields) = cond (key_lt field.key next.key) (field ∷ next ∷ fields) (next ∷ placed field fields)

-- fields in the order of their keys; of those with one key the later ones come first
abbrev pub in_order : List Field → List Field
in_order [] = []
in_order (field ∷ fields) = placed field (in_order fields)
