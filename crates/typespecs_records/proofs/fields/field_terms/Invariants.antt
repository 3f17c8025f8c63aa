use Rattle.std.proofs.Common.{◌≡◌, take, map}
use Rattle.erl_runs.specs.Specs.{all_present}
use Rattle.typespecs_rules.specs.Declarations.{Declarations}
use Rattle.typespecs_rules.specs.TypeTerms.{type_kind_term}
use Rattle.typespecs_names.specs.Numbers.{KnowsNumbers}
use Rattle.typespecs_terms.specs.Tables.{terms_in, tuples_in}
use Rattle.typespecs_records.specs.Settled.{of_field}
use Rattle.typespecs_records.proofs.fields.field_terms.Given as goal

abbrev pub invariant-fields : goal.invariant-fields
invariant-fields l = (d : Declarations) → KnowsNumbers l.reading.numbers.now d → l.terms ≡ all_present (map (of_field (type_kind_term d (tuples_in l.reading.tuples.now) (terms_in l.reading.variables.now))) (take l.field-index l.fields))
