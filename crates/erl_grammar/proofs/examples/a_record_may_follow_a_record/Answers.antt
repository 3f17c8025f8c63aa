use Rattle.erl_grammar.proofs.TreeExamples.{field-of-record-formed, field-of-record-tokens, field-of-map-not-formed, changed-record-as-map-not-formed}
use Rattle.erl_grammar.proofs.examples.a_record_may_follow_a_record.Goals as goal

pub returns-clause-of_record : goal.returns-clause-of_record
returns-clause-of_record c = field-of-record-formed

pub returns-clause-of_record_tokens : goal.returns-clause-of_record_tokens
returns-clause-of_record_tokens c = field-of-record-tokens

pub returns-clause-of_map : goal.returns-clause-of_map
returns-clause-of_map c = field-of-map-not-formed

pub returns-clause-map_of_record : goal.returns-clause-map_of_record
returns-clause-map_of_record c = changed-record-as-map-not-formed
