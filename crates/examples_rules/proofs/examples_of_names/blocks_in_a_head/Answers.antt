use Rattle.examples_rules.proofs.ScopeExamples.{blocks_in_a_head-met_in_the_head, blocks_in_a_head-used_in_the_head, blocks_in_a_head-pattern_of_the_generator, blocks_in_a_head-met_in_the_list, blocks_in_a_head-used_in_the_list, blocks_in_a_head-no_fault, blocks_in_a_head-another_name}
use Rattle.examples_rules.proofs.examples_of_names.blocks_in_a_head.Goals as goal

pub returns-clause-met_in_the_head : goal.returns-clause-met_in_the_head
returns-clause-met_in_the_head c = blocks_in_a_head-met_in_the_head

pub returns-clause-used_in_the_head : goal.returns-clause-used_in_the_head
returns-clause-used_in_the_head c = blocks_in_a_head-used_in_the_head

pub returns-clause-pattern_of_the_generator : goal.returns-clause-pattern_of_the_generator
returns-clause-pattern_of_the_generator c = blocks_in_a_head-pattern_of_the_generator

pub returns-clause-met_in_the_list : goal.returns-clause-met_in_the_list
returns-clause-met_in_the_list c = blocks_in_a_head-met_in_the_list

pub returns-clause-used_in_the_list : goal.returns-clause-used_in_the_list
returns-clause-used_in_the_list c = blocks_in_a_head-used_in_the_list

pub returns-clause-no_fault : goal.returns-clause-no_fault
returns-clause-no_fault c = blocks_in_a_head-no_fault

pub returns-clause-another_name : goal.returns-clause-another_name
returns-clause-another_name c = blocks_in_a_head-another_name
