use Rattle.runs_with_right_names.proofs.KnownExamples.{named_funs-function, named_funs-other_name, named_funs-other_arity, named_funs-inside}
use Rattle.runs_with_right_names.proofs.examples.named_funs.Goals as goal

pub returns-clause-function : goal.returns-clause-function
returns-clause-function c outside = named_funs-function outside

pub returns-clause-other_name : goal.returns-clause-other_name
returns-clause-other_name c outside h = named_funs-other_name outside h

pub returns-clause-other_arity : goal.returns-clause-other_arity
returns-clause-other_arity c outside h = named_funs-other_arity outside h

pub returns-clause-inside : goal.returns-clause-inside
returns-clause-inside c outside h = named_funs-inside outside h
