-- Which keys are in the contents of a set.
use Rattle.std.specs.Prelude.{ℕ, List, Bool, ◌||◌}
use Rattle.std.specs.List.{list_any}
use Rattle.std.specs.declared.vec.Vec.{Vec}
use Rattle.std.specs.declared.alloc.Global.{Global}
use Rattle.type_terms.specs.declared.term.Key.{Key}
use Rattle.type_terms.specs.declared.term.Key.TheVariants.{Int as IntKey, Atom as AtomKey}
use Rattle.type_terms.specs.Keys.{Name, same_name}
use Rattle.key_sets.specs.declared.range.Range.{Range}
use Rattle.key_sets.specs.declared.contents.Contents.{Contents}
use Rattle.key_sets.specs.Ranges.{range_has}

-- whether an atom is among the names
abbrev pub listed : List (Vec ℕ Global) → Name → Bool
listed names a = list_any (λ name. same_name a name.items) names

-- whether a key is an integer in a range, or one of all atoms, or an atom with a name
abbrev pub is_among : List Range → Bool → List (Vec ℕ Global) → Key → Bool
is_among ranges all_atoms names (IntKey n) = list_any (λ r. range_has r n) ranges
is_among ranges all_atoms names (AtomKey a) = all_atoms || listed names a

-- whether a key is in the contents
abbrev pub contents_have : Contents → Key → Bool
contents_have c key = is_among c.ranges.items c.all_atoms c.names.keys key

-- whether an atom is in the contents
abbrev pub has_atom : Contents → Name → Bool
has_atom c a = contents_have c (AtomKey a)
