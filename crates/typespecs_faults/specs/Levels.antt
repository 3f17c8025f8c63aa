-- What is wrong with the forms of one level of a type expression.
use Rattle.std.specs.Prelude.{ℕ, List, [], ◌++◌, Option, Some, None, is_some}
use Rattle.type_terms.specs.Keys.{Name}
use Rattle.erl_tree.specs.declared.token.Place.{Place}
use Rattle.erl_tree.specs.declared.token.Node.{Node}
use Rattle.erl_tree.specs.declared.type_expr.TypeKind.{TypeKind}
use Rattle.erl_runs.specs.Records.{find_record}
use Rattle.typespecs_rules.specs.declared.fault.PlacedFault.{PlacedFault}
use Rattle.typespecs_rules.specs.declared.fault.TypeFault.TheVariants.{NoSuchType}
use Rattle.typespecs_rules.specs.Declarations.{Declarations}
use Rattle.typespecs_rules.specs.TypeTerms.{is_prefixed_type}
use Rattle.typespecs_rules.specs.TypeFaults.{unless, use_faults, fields_faults}

-- a use of a type with so many arguments
abbrev pub named_faults : Declarations → Option Name → Name → ℕ → Place → List PlacedFault
named_faults declared None name count place = use_faults declared name count place
named_faults declared (Some prefix) name count place = unless (is_prefixed_type prefix name count) NoSuchType place

-- a record type
abbrev pub record_faults : Declarations → Name → List (Node (Name × Node TypeKind)) → Place → List PlacedFault
record_faults declared name fields place = unless (is_some (find_record declared.records name)) NoSuchType place ++ fields_faults (find_record declared.records name) [] fields
