use Rattle.std.proofs.Common.{sym, ◌∙◌}
use Rattle.erl_parser.proofs.WholeModules.{one_module}
use Rattle.unique_answers.proofs.Ends.{one-pattern-text, one-type-text, one-expr-text}
use Rattle.unique_answers.proofs.parsing.one_tree_of_a_text.Goals as goal

pub returns-clause-patterns : goal.returns-clause-patterns
returns-clause-patterns c = λ tokens. one-pattern-text tokens

pub returns-clause-types : goal.returns-clause-types
returns-clause-types c = λ tokens. one-type-text tokens

pub returns-clause-exprs : goal.returns-clause-exprs
returns-clause-exprs c = λ tokens. one-expr-text tokens

pub returns-clause-modules : goal.returns-clause-modules
returns-clause-modules c = λ tokens m n h k s t. one_module m n h k (s ∙ sym t)
