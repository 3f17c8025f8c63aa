use Rattle.erl_parser_exprs.proofs.TextExamples.{tuple_no_arity}
use Rattle.erl_parser_exprs.proofs.examples.a_tuple_has_no_parameters.Goals as goal

pub returns : goal.returns
returns c = record { none = tuple_no_arity }
