use Rattle.erl_tree.proofs.TextExamples.{quote_spells_nothing}
use Rattle.erl_tree.proofs.examples_of_text.an_open_quote.Goals as goal

pub returns : goal.returns
returns c = quote_spells_nothing
