use Rattle.flat_modules.proofs.FlatTermExamples.{empty-formed, empty-term, union-formed, union-term}
use Rattle.flat_modules.proofs.examples_of_types.terms_of_types.Goals as goal

pub returns-clause-union_formed : goal.returns-clause-union_formed
returns-clause-union_formed c = union-formed

pub returns-clause-union : goal.returns-clause-union
returns-clause-union c = union-term

pub returns-clause-empty_formed : goal.returns-clause-empty_formed
returns-clause-empty_formed c = empty-formed

pub returns-clause-empty : goal.returns-clause-empty
returns-clause-empty c = empty-term
