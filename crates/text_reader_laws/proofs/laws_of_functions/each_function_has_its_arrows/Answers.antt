use Rattle.text_reader_laws.proofs.FunctionArrows.{its-arrows}
use Rattle.text_reader_laws.proofs.laws_of_functions.each_function_has_its_arrows.Goals as goal

pub returns : goal.returns
returns c = its-arrows
