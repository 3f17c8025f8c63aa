use Rattle.typespecs_rules.proofs.TypeExamples.{faults_of_types-empty_range, faults_of_types-unknown, faults_of_types-other_arity, faults_of_types-out_of_profile, faults_of_types-out_of_profile_at_any_arity, faults_of_types-no_record, faults_of_types-other_prefix, faults_of_types-right}
use Rattle.typespecs_rules.proofs.examples.faults_of_types.Goals as goal

pub returns-clause-empty_range : goal.returns-clause-empty_range
returns-clause-empty_range c = faults_of_types-empty_range

pub returns-clause-unknown : goal.returns-clause-unknown
returns-clause-unknown c = faults_of_types-unknown

pub returns-clause-other_arity : goal.returns-clause-other_arity
returns-clause-other_arity c = faults_of_types-other_arity

pub returns-clause-out_of_profile : goal.returns-clause-out_of_profile
returns-clause-out_of_profile c = faults_of_types-out_of_profile

pub returns-clause-out_of_profile_at_any_arity : goal.returns-clause-out_of_profile_at_any_arity
returns-clause-out_of_profile_at_any_arity c = faults_of_types-out_of_profile_at_any_arity

pub returns-clause-no_record : goal.returns-clause-no_record
returns-clause-no_record c = faults_of_types-no_record

pub returns-clause-other_prefix : goal.returns-clause-other_prefix
returns-clause-other_prefix c = faults_of_types-other_prefix

pub returns-clause-right : goal.returns-clause-right
returns-clause-right c = faults_of_types-right
