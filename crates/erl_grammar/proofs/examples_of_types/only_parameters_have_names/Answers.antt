use Rattle.erl_grammar.proofs.TypeExamples.{named-alone-formed, named-alone-no-type, named-in-tuple-not-formed}
use Rattle.erl_grammar.proofs.examples_of_types.only_parameters_have_names.Goals as goal

pub returns-clause-parameter : goal.returns-clause-parameter
returns-clause-parameter c = named-alone-formed

pub returns-clause-type_expression : goal.returns-clause-type_expression
returns-clause-type_expression c = named-alone-no-type

pub returns-clause-in_tuple : goal.returns-clause-in_tuple
returns-clause-in_tuple c = named-in-tuple-not-formed
