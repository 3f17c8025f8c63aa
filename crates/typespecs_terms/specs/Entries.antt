-- The entries of map types, as contracts see them.
use Rattle.std.specs.Prelude.{◌≡◌, List, [], ◌∷◌, ◌++◌}
use Rattle.type_terms.specs.declared.term.Field.{Field}
use Rattle.typespecs_rules.specs.TypeTerms.{MapKey, this_key, integer_keys, atom_keys, no_key, MapEntry, rest_for_integers, rest_for_atoms}
use Rattle.typespecs_terms.specs.declared.maps.EntryKey.{EntryKey}
use Rattle.typespecs_terms.specs.declared.maps.EntryKey.TheVariants as K
use Rattle.typespecs_terms.specs.declared.maps.Entry.{Entry}
use Rattle.typespecs_terms.specs.declared.maps.Parts.{Parts}

abbrev pub key_as : EntryKey → MapKey
key_as (K.This k) = this_key k
key_as K.Integers = integer_keys
key_as K.Atoms = atom_keys
key_as K.NoKey = no_key

abbrev pub entry_as : Entry → MapEntry
entry_as e = record { key = key_as e.key; required = e.required; value = e.value }

-- fields from the last to the first, and one more where the entry before has one key
abbrev pub with_key : EntryKey → Entry → List Field → List Field
with_key (K.This k) e fields = fields ++ record { key = k; required = e.required; term = e.value } ∷ []
with_key _ e fields = fields

-- What comes of the parts of a map type's term when the entry before is taken
abbrev pub IsTaken : Parts → Entry → Parts → Type 0
IsTaken old e new =
    (new.fields.items ≡ with_key e.key e old.fields.items)
    × (new.rest_int ≡ rest_for_integers (key_as e.key) e.value old.rest_int)
    × (new.rest_atom ≡ rest_for_atoms (key_as e.key) e.value old.rest_atom)
