use Rattle.erl_grammar.proofs.TreeExamples.{andalso-first-formed, orelse-first-not-formed, andalso-orelse-tokens}
use Rattle.erl_grammar.proofs.examples.andalso_binds_more_tightly_than_orelse.Goals as goal

pub returns-clause-andalso_first : goal.returns-clause-andalso_first
returns-clause-andalso_first c = andalso-first-formed

pub returns-clause-orelse_first : goal.returns-clause-orelse_first
returns-clause-orelse_first c = orelse-first-not-formed

pub returns-clause-same_tokens : goal.returns-clause-same_tokens
returns-clause-same_tokens c = andalso-orelse-tokens
