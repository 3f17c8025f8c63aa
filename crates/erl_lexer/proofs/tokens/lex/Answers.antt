use Rattle.std.proofs.Common.{Err}
use Rattle.erl_lexer.specs.declared.LexFault.TheVariants.{NotUtf8}
use Rattle.erl_lexer.proofs.Answered.{only_by, exact_by}
use Rattle.erl_lexer.proofs.tokens.lex.Goals as goal

pub returns-in-Err-clause-exact : goal.returns-in-Err-clause-exact
returns-in-Err-clause-exact c = exact_by c.args.bytes.now (Err (NotUtf8 c.valid_up_to.result)) tt (c.in-Err.ensures.cases.0, rw c.valid_up_to.ensures c.in-Err.ensures.cases.1)

pub returns-in-Ok-clause-only : goal.returns-in-Ok-clause-only
returns-in-Ok-clause-only c = only_by c.args.bytes.now c.lex_characters.result c.lex_characters.ensures.found c.lex_characters.ensures.fault

pub returns-in-Ok-clause-exact : goal.returns-in-Ok-clause-exact
returns-in-Ok-clause-exact c = exact_by c.args.bytes.now c.lex_characters.result c.lex_characters.ensures.found c.lex_characters.ensures.fault
