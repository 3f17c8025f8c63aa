use Rattle.text_reader.proofs.Completes.{readable_is_read, no_module_is_refused, wrong_is_refused, wrong_specs_are_refused}
use Rattle.text_reader.proofs.reading.read_text.Goals as goal

pub returns-clause-complete : goal.returns-clause-complete
returns-clause-complete c = λ has short. readable_is_read c.args.text.now c.read_or_refuse.result c.read_or_refuse.ensures.refused has short

pub returns-clause-no_module : goal.returns-clause-no_module
returns-clause-no_module c = λ none short. no_module_is_refused c.args.text.now c.read_or_refuse.result c.read_or_refuse.ensures.read c.read_or_refuse.ensures.refused none short

pub returns-clause-wrong_names : goal.returns-clause-wrong_names
returns-clause-wrong_names c = λ fault wrong short. wrong_is_refused c.args.text.now fault c.read_or_refuse.result c.read_or_refuse.ensures.read c.read_or_refuse.ensures.refused wrong short

pub returns-clause-wrong_specs : goal.returns-clause-wrong_specs
returns-clause-wrong_specs c = λ fault wrong short. wrong_specs_are_refused c.args.text.now fault c.read_or_refuse.result c.read_or_refuse.ensures.read c.read_or_refuse.ensures.refused wrong short
