use Rattle.std.proofs.Common.{◌∙◌, ◌++◌, List}
use Rattle.type_terms.specs.Keys.{Name}
use Rattle.type_terms.specs.declared.term.Term.{Term}
use Rattle.typespecs_built_ins.specs.PlainTypes.{first_types, integer_types, atom_types, list_types, other_types}
use Rattle.typespecs_built_ins.proofs.TypesByName.{found_first, not_first}
use Rattle.typespecs_built_ins.proofs.plain.plain_type.Goals as goal

abbrev behind_integers : List (Name × Term)
behind_integers = atom_types ++ list_types ++ other_types

pub returns-in-Some : goal.returns-in-Some
returns-in-Some c = found_first first_types (integer_types ++ behind_integers) c.args.name.now _ c.in-Some.ensures

pub returns-in-Some-integer_type : goal.returns-in-Some-integer_type
returns-in-Some-integer_type c =
    found_first integer_types behind_integers c.args.name.now _ c.in-Some-integer_type.ensures
    ∙ not_first first_types (integer_types ++ behind_integers) c.args.name.now c.in-None.ensures
