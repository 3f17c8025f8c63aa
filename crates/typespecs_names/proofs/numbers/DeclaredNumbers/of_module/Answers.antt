use Rattle.typespecs_names.proofs.Known.{known_by_forms}
use Rattle.typespecs_names.proofs.numbers.DeclaredNumbers.of_module.Goals as goal

pub returns : goal.returns
returns c = known_by_forms _ c.args.module.now c.as_slice-forms.result.now _ _ c.as_slice-forms.ensures c.in_ok-types.ensures c.in_ok-records.ensures
