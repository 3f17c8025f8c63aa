-- What contracts see of the keys of map types.
use Rattle.std.specs.Prelude.{◌≡◌, List, [], ◌∷◌, Bool, false}
use Rattle.std.specs.List.{list_any}
use Rattle.type_terms.specs.Keys.{Name, same_int}
use Rattle.type_terms.specs.declared.term.Key.TheVariants.{Int as IntKey, Atom as AtomKey}
use Rattle.erl_tree.specs.declared.token.Node.{Node}
use Rattle.erl_tree.specs.declared.type_expr.TypeKind.{TypeKind}
use Rattle.typespecs_rules.specs.TypeTerms.{MapKey, this_key, integer_keys, atom_keys, no_key, keys_of_type}
use Rattle.typespecs_rules.specs.TypeFaults.{same_map_key, stands_among}
use Rattle.typespecs_faults.specs.NameSets.{names_in}
use Rattle.typespecs_faults.specs.declared.keys.Key.{Key}
use Rattle.typespecs_faults.specs.declared.keys.Key.TheVariants as K
use Rattle.typespecs_faults.specs.declared.keys.SeenKeys.{SeenKeys}

-- what a key means
abbrev pub meant : Key → MapKey
meant (K.Int n) = this_key (IntKey n)
meant (K.Atom a) = this_key (AtomKey a.now)
meant K.AllIntegers = integer_keys
meant K.AllAtoms = atom_keys
meant K.None = no_key

-- the key that a type without a prefix is, with these arguments
abbrev pub use_key : Name → List (Node TypeKind) → MapKey
use_key name [] = keys_of_type name
use_key name (t ∷ ts) = no_key

-- whether a key was seen
abbrev pub was_seen : SeenKeys → MapKey → Bool
was_seen seen (this_key (IntKey n)) = list_any (same_int n) seen.integers.keys
was_seen seen (this_key (AtomKey a)) = stands_among a (names_in seen.atoms.keys)
was_seen seen integer_keys = seen.all_integers
was_seen seen atom_keys = seen.all_atoms
was_seen seen no_key = false

-- the same keys stand among these
pub record IsSeen (seen : SeenKeys) (before : List MapKey) : Type 0 where
  pub same : (k : MapKey) → was_seen seen k ≡ list_any (same_map_key k) before
