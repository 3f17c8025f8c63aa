use Rattle.erl_parser_exprs.proofs.TextExamples.{ended_once, never_ended, ended_twice}
use Rattle.erl_parser_exprs.proofs.examples.a_text_ends_once.Goals as goal

pub returns-clause-once : goal.returns-clause-once
returns-clause-once c = ended_once

pub returns-clause-never : goal.returns-clause-never
returns-clause-never c = never_ended

pub returns-clause-twice : goal.returns-clause-twice
returns-clause-twice c = ended_twice
