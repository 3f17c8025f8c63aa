-- What contracts see of the entries of the map in a table.
use Rattle.std.specs.Prelude.{ℕ, List, map}
use Rattle.erl_tree.specs.Functions.{FunctionId, of_function}
use Rattle.name_table.specs.declared.NameKey.{NameKey}
use Rattle.name_table.specs.Table.{Entry}

-- the name and the arity of a key
abbrev pub key_id : NameKey → FunctionId
key_id k = of_function k.name.items k.arity

abbrev pub entry_of : NameKey × ℕ → Entry
entry_of e = (key_id e.0, e.1)

-- the entries of the map, in its order
abbrev pub entries_of : List (NameKey × ℕ) → List Entry
entries_of es = map entry_of es
