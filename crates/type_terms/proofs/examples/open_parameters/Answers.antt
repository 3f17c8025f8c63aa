use Rattle.type_terms.proofs.ListExamples.{ends-open}
use Rattle.type_terms.proofs.MoreExamples.{ends-first}
use Rattle.type_terms.proofs.examples.open_parameters.Goals as goal

pub returns-clause-second : goal.returns-clause-second
returns-clause-second c = ends-open

pub returns-clause-first : goal.returns-clause-first
returns-clause-first c = ends-first
