-- What the checks look at in a declaration: its parameters, and all type expressions inside it, at any depth.
use Rattle.std.specs.Prelude.{◌≡◌, ℕ, List, map, slice_get, Some}
use Rattle.type_terms.specs.Keys.{Name}
use Rattle.erl_tree.specs.declared.token.Node.{Node}
use Rattle.erl_tree.specs.declared.type_expr.TypeKind.{TypeKind}
use Rattle.erl_tree.specs.declared.form.TreeForm.{TreeForm}
use Rattle.typespecs_rules.specs.declared.fault.PlacedFault.{PlacedFault}
use Rattle.typespecs_rules.specs.Declarations.{Declarations, types_in}
use Rattle.erl_runs.specs.Records.{records_in}
use Rattle.typespecs_rules.specs.RegularUse.{Declaration, of_type, of_record, by_number, all_types}
use Rattle.typespecs_names.specs.Seen.{seen}
use Rattle.typespecs_cycles.specs.declared.parts.Parts.{Parts}
use Rattle.typespecs_cycles.specs.FirstFaults.{OfSome}
use Rattle.typespecs_cycles.specs.GraphFaults.{IsIrregularUse}

-- parameters, and type expressions
abbrev pub Inner : Type 0
Inner = List Name × List (Node TypeKind)

-- what a table has of a declaration
abbrev pub inner_of : Parts → Inner
inner_of p = (p.params.now, seen p.types.items)

-- what a declaration has
abbrev pub inside : Declaration → Inner
inside d = (d.params, all_types d)

-- what the types and the records among forms have
abbrev pub inside_types : List TreeForm → List Inner
inside_types forms = map (λ d. inside (of_type d.kind)) (types_in forms)

abbrev pub inside_records : List TreeForm → List Inner
inside_records forms = map (λ r. inside (of_record r)) (records_in forms)

-- what all declarations have, by their numbers
abbrev pub inside_all : Declarations → List Inner
inside_all declared = map inside (by_number declared)

-- the irregular uses in declarations, each of which has the number of its place
abbrev pub IsIrregularIn : Declarations → List Inner → PlacedFault → Type 0
IsIrregularIn declared ds f = (n : ℕ) × (d : Inner) × (slice_get ds n ≡ Some d) × OfSome (IsIrregularUse declared n d.0) d.1 f
