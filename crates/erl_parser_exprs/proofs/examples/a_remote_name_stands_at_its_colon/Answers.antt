use Rattle.erl_parser_exprs.proofs.TextExamples.{name_stands}
use Rattle.erl_parser_exprs.proofs.examples.a_remote_name_stands_at_its_colon.Goals as goal

pub returns : goal.returns
returns c = record { colon = name_stands }
