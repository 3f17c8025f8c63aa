-- The fields of record types, by the fields of their records.
use Rattle.std.specs.Prelude.{◌≡◌, List, ◌++◌, not, Option}
use Rattle.std.specs.Option.{option_map}
use Rattle.type_terms.specs.Keys.{Name}
use Rattle.erl_tree.specs.declared.token.Place.{Place}
use Rattle.erl_tree.specs.declared.form.RecDefKind.{RecDefKind}
use Rattle.erl_runs.specs.Records.{fields_of, has_field}
use Rattle.typespecs_rules.specs.declared.fault.PlacedFault.{PlacedFault}
use Rattle.typespecs_rules.specs.declared.fault.TypeFault.TheVariants.{NoSuchType, Repeated}
use Rattle.typespecs_rules.specs.TypeFaults.{unless, may_have, stands_among}
use Rattle.typespecs_faults.specs.declared.name_set.NameSet.{NameSet}
use Rattle.typespecs_faults.specs.NameSets.{has_name}

-- a field behind others with these names
abbrev pub field_faults : Option RecDefKind → Name → List Name → Place → List PlacedFault
field_faults declared name before place = unless (may_have declared name) NoSuchType place ++ unless (not (stands_among name before)) Repeated place

-- a set has the names of the fields of a record that is declared, and there is none of one that isn't
abbrev pub HasFieldsOf : Option NameSet → Option RecDefKind → Type 0
HasFieldsOf set declared = option_map has_name set ≡ option_map (λ r. has_field (fields_of r)) declared
