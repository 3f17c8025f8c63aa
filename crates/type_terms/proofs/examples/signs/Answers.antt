use Rattle.type_terms.proofs.SmallCases.{negated-fun, fun-negated-twice, negated-any-fun, through-a-name}
use Rattle.type_terms.proofs.SignExamples.{fun-among-parameters, odd-in-rest, unused-argument}
use Rattle.type_terms.proofs.examples.signs.Goals as goal

pub returns-clause-negated_fun : goal.returns-clause-negated_fun
returns-clause-negated_fun c = negated-fun

pub returns-clause-fun_negated_twice : goal.returns-clause-fun_negated_twice
returns-clause-fun_negated_twice c = fun-negated-twice

pub returns-clause-negated_any_fun : goal.returns-clause-negated_any_fun
returns-clause-negated_any_fun c = negated-any-fun

pub returns-clause-through_a_name : goal.returns-clause-through_a_name
returns-clause-through_a_name c = through-a-name

pub returns-clause-among_parameters : goal.returns-clause-among_parameters
returns-clause-among_parameters c = fun-among-parameters

pub returns-clause-in_a_rest : goal.returns-clause-in_a_rest
returns-clause-in_a_rest c = odd-in-rest

pub returns-clause-unused_argument : goal.returns-clause-unused_argument
returns-clause-unused_argument c = unused-argument
