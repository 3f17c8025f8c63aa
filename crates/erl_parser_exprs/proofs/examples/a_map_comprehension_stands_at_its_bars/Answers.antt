use Rattle.erl_parser_exprs.proofs.TextExamples.{comprehension_stands}
use Rattle.erl_parser_exprs.proofs.examples.a_map_comprehension_stands_at_its_bars.Goals as goal

pub returns : goal.returns
returns c = record { bars = comprehension_stands }
