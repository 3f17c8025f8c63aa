-- What stands in the forms before a form, in tables.
use Rattle.std.specs.Prelude.{◌≡◌, ℕ, List, [], Option}
use Rattle.std.specs.List.{list_any}
use Rattle.type_terms.specs.Keys.{Name}
use Rattle.erl_tree.specs.declared.token.Node.{Node}
use Rattle.erl_tree.specs.declared.type_expr.TypeKind.{TypeKind}
use Rattle.erl_tree.specs.Functions.{FunctionId, of_function}
use Rattle.erl_runs.specs.Names.{same_id}
use Rattle.name_table.specs.Table.{ids}
use Rattle.typespecs_rules.specs.declared.fault.PlacedFault.{PlacedFault}
use Rattle.typespecs_rules.specs.TypeParts.{from_each}
use Rattle.typespecs_rules.specs.Declarations.{Declarations, is_type_named}
use Rattle.typespecs_rules.specs.RegularUse.{field_types}
use Rattle.typespecs_rules.specs.TypeFaults.{Behind, stands_among, type_faults, no_variable}
use Rattle.typespecs_faults.specs.declared.forms.Before.{Before}

-- the tables have what stands before a form
pub record IsBehind (before : Before) (b : Behind) : Type 0 where
  pub types : (name : Name) (count : ℕ) → list_any (same_id (of_function name count)) (ids before.types) ≡ list_any (is_type_named name count) b.types
  pub records : (name : Name) → list_any (same_id (of_function name 0)) (ids before.records) ≡ stands_among name b.records
  pub specs : (id : FunctionId) → list_any (same_id id) (ids before.specs) ≡ list_any (same_id id) b.specs

-- nothing stands before the first form
abbrev pub nothing_behind : Behind
nothing_behind = record { types = []; records = []; specs = [] }

-- what is wrong with the type of a field of a record declaration
abbrev pub field_type_faults : Declarations → Option (Node TypeKind) → List PlacedFault
field_type_faults declared of = from_each (type_faults declared no_variable) (field_types of)
