-- What contracts see of the entries of the map in a table.
use Rattle.std.specs.Prelude.{ℕ, List, map, Option}
use Rattle.erl_tree.specs.declared.token.Place.{Place}
use Rattle.erl_scope_numbers.specs.declared.place_numbers.PlaceKey.{PlaceKey}
use Rattle.erl_scope_numbers.specs.Table.{Entry}

-- the place that a key names
abbrev pub key_place : PlaceKey → Place
key_place k = record { line = k.line; column = k.column }

abbrev pub entry_of : PlaceKey × Option ℕ → Entry
entry_of e = (key_place e.0, e.1)

-- the entries of the map, in its order
abbrev pub entries_of : List (PlaceKey × Option ℕ) → List Entry
entries_of es = map entry_of es
