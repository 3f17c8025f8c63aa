use Rattle.erl_grammar.proofs.PlaceLaws.{pattern_begins, key_begins, entry_begins, field_pattern_begins, expr_begins, item_begins, qualifier_begins, assoc_begins, field_begins, guard_begins, case_clause_begins, if_clause_begins, fun_clause_begins, catch_begins}
use Rattle.erl_grammar.proofs.laws.each_node_begins_at_its_place.Goals as goal

pub returns-clause-pattern : goal.returns-clause-pattern
returns-clause-pattern c p h = pattern_begins h

pub returns-clause-key : goal.returns-clause-key
returns-clause-key c k h = key_begins h

pub returns-clause-entry : goal.returns-clause-entry
returns-clause-entry c n h = entry_begins h

pub returns-clause-field_of_pattern : goal.returns-clause-field_of_pattern
returns-clause-field_of_pattern c f h = field_pattern_begins h

pub returns-clause-expr : goal.returns-clause-expr
returns-clause-expr c least e h = expr_begins h

pub returns-clause-item : goal.returns-clause-item
returns-clause-item c i h = item_begins h

pub returns-clause-qualifier : goal.returns-clause-qualifier
returns-clause-qualifier c q h = qualifier_begins h

pub returns-clause-association : goal.returns-clause-association
returns-clause-association c x a h = assoc_begins h

pub returns-clause-field : goal.returns-clause-field
returns-clause-field c f h = field_begins h

pub returns-clause-guard : goal.returns-clause-guard
returns-clause-guard c g h = guard_begins h

pub returns-clause-case_clause : goal.returns-clause-case_clause
returns-clause-case_clause c d h = case_clause_begins h

pub returns-clause-if_clause : goal.returns-clause-if_clause
returns-clause-if_clause c d h = if_clause_begins h

pub returns-clause-fun_clause : goal.returns-clause-fun_clause
returns-clause-fun_clause c d h = fun_clause_begins h

pub returns-clause-catch_clause : goal.returns-clause-catch_clause
returns-clause-catch_clause c d h = catch_begins h
