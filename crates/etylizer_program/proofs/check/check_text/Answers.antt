use Rattle.etylizer_program.proofs.Completes.{right_is_accepted, unbuilt_is_refused, no_module_is_refused, wrong_is_refused, wrong_specs_are_refused}
use Rattle.etylizer_program.proofs.check.check_text.Goals as goal

pub returns-clause-complete : goal.returns-clause-complete
returns-clause-complete c = λ right short. right_is_accepted c.args.text.now c.read_and_check.result c.read_and_check.ensures.refused right short

pub returns-clause-not_built : goal.returns-clause-not_built
returns-clause-not_built c = λ unbuilt short. unbuilt_is_refused c.args.text.now c.read_and_check.result c.read_and_check.ensures.safe c.read_and_check.ensures.refused unbuilt short

pub returns-clause-no_module : goal.returns-clause-no_module
returns-clause-no_module c = λ none short. no_module_is_refused c.args.text.now c.read_and_check.result c.read_and_check.ensures.safe c.read_and_check.ensures.refused none short

pub returns-clause-wrong_names : goal.returns-clause-wrong_names
returns-clause-wrong_names c = λ fault wrong short. wrong_is_refused c.args.text.now fault c.read_and_check.result c.read_and_check.ensures.safe c.read_and_check.ensures.refused wrong short

pub returns-clause-wrong_specs : goal.returns-clause-wrong_specs
returns-clause-wrong_specs c = λ fault wrong short. wrong_specs_are_refused c.args.text.now fault c.read_and_check.result c.read_and_check.ensures.safe c.read_and_check.ensures.refused wrong short
