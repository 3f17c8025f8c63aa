use Rattle.std.proofs.Common.{◌≡◌, map, take}
use Rattle.std.specs.Option.{option_map}
use Rattle.erl_runs.specs.Specs.{all_present}
use Rattle.typespecs_rules.specs.Declarations.{Declarations}
use Rattle.typespecs_names.specs.Numbers.{KnowsNumbers}
use Rattle.typespecs_terms.specs.Tables.{terms_in, tuples_in}
use Rattle.typespecs_terms.specs.Entries.{entry_as}
use Rattle.typespecs_terms.specs.Parts.{of_node, of_part, of_field}
use Rattle.typespecs_terms.proofs.reading.+reading.Given as goal

abbrev pub invariant-read_each-loop-one : goal.invariant-read_each-loop-one
invariant-read_each-loop-one l = (d : Declarations) → KnowsNumbers l.reading.numbers.now d → l.terms ≡ all_present (map (of_node d (tuples_in l.reading.tuples.now) (terms_in l.reading.variables.now)) (take l.one-index l.types))

abbrev pub invariant-read_parts-loop-part : goal.invariant-read_parts-loop-part
invariant-read_parts-loop-part l = (d : Declarations) → KnowsNumbers l.reading.numbers.now d → option_map (map entry_as) l.entries ≡ all_present (map (of_part d (tuples_in l.reading.tuples.now) (terms_in l.reading.variables.now)) (take l.part-index l.parts))

abbrev pub invariant-read_fields-loop-field : goal.invariant-read_fields-loop-field
invariant-read_fields-loop-field l = (d : Declarations) → KnowsNumbers l.reading.numbers.now d → l.terms ≡ all_present (map (of_field d (tuples_in l.reading.tuples.now) (terms_in l.reading.variables.now)) (take l.field-index l.fields))
