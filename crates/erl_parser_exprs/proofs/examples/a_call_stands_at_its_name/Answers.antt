use Rattle.erl_parser_exprs.proofs.TextExamples.{call_stands, atom_no_call}
use Rattle.erl_parser_exprs.proofs.examples.a_call_stands_at_its_name.Goals as goal

pub returns-clause-call : goal.returns-clause-call
returns-clause-call c = call_stands

pub returns-clause-none : goal.returns-clause-none
returns-clause-none c = atom_no_call
