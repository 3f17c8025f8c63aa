-- What contracts see of the table of records.
use Rattle.std.specs.Prelude.{◌≡◌, List, [], ◌∷◌, map, Bool, Option, Some, None, cond}
use Rattle.type_terms.specs.Keys.{Name, same_name}
use Rattle.erl_tree.specs.declared.form.RecDefKind.{RecDefKind}
use Rattle.erl_runs.specs.Records.{fields_of, has_field}
use Rattle.typespecs_rules.specs.declared.specs.RecordSpec.{RecordSpec}
use Rattle.typespecs_rules.specs.TypeFaults.{stands_among}
use Rattle.typespecs_faults.specs.declared.record_table.RecordTable.{RecordTable}
use Rattle.typespecs_faults.specs.NameSets.{has_name}

-- a record: its name, and which names its fields have
abbrev pub Record : Type 0
Record = Name × (Name → Bool)

-- the fields of the first of some records with this name
abbrev pub find_fields : List Record → Name → Option (Name → Bool)
find_fields [] name = None
find_fields (r ∷ rs) name = cond (same_name r.0 name) (Some r.1) (find_fields rs name)

-- a record by its declaration
abbrev pub of_declaration : RecDefKind → Record
of_declaration r = (r.name, has_field (fields_of r))

-- a record as the specs of its module tell it
abbrev pub of_spec : RecordSpec → Record
of_spec r = (r.name, λ x. stands_among x r.fields)

-- the records in a table, in the order in which they were added
abbrev pub table_records : RecordTable → List Record
table_records table = map (λ e. (e.0.now, has_name e.1)) table.sets.entries

-- the same records are found in both
abbrev pub HasSameRecords : List Record → List Record → Type 0
HasSameRecords rs qs = (name : Name) → find_fields rs name ≡ find_fields qs name
