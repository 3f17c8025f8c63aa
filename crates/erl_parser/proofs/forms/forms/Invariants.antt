use Rattle.std.proofs.Common.{[], suc, length}
use Rattle.erl_grammar.specs.Nesting.{nesting_limit}
use Rattle.erl_parser.specs.Forms.{read_forms}
use Rattle.erl_parser.proofs.FormLoops.{GoingForms}
use Rattle.erl_parser.proofs.forms.forms.Given as goal

-- going on with the forms that were read gives what reading gives
abbrev pub invariant-forms : goal.invariant-forms
invariant-forms l = GoingForms nesting_limit l.found l.rest (read_forms nesting_limit (suc (length l.tokens)) [] l.tokens)

abbrev pub decreases-forms : goal.decreases-forms
decreases-forms l = length l.rest
