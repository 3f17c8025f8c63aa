use Rattle.typespecs_names.proofs.Known.{known_by_specs}
use Rattle.typespecs_names.proofs.numbers.DeclaredNumbers.of_specs.Goals as goal

pub returns : goal.returns
returns c = known_by_specs _ c.args.specs.now c.as_slice.result.now c.as_slice-2.result.now _ _ c.as_slice.ensures c.as_slice-2.ensures c.in_ok-types.ensures c.in_ok-records.ensures
