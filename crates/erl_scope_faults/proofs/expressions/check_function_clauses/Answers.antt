use Rattle.std.proofs.Common.{refl}
use Rattle.name_table.specs.Table.{ids}
use Rattle.erl_scope_rules.specs.ScopeFaults.{faults_of_each}
use Rattle.erl_scope_faults.specs.PartFaults.{arity_faults, clause_faults}
use Rattle.erl_scope_faults.proofs.Steps.{if_two}
use Rattle.erl_scope_faults.proofs.expressions.check_function_clauses.Goals as goal

pub returns : goal.returns
returns c =
    if_two c.check_clauses.result c.args.first.now c.note_arities.new.first c.check_clauses.new.first (arity_faults c.args.clauses.now) (faults_of_each (clause_faults (ids c.args.names.now.functions) c.args.names.now.records) c.args.clauses.now) _ _ _ refl refl refl c.note_arities.ensures c.check_clauses.ensures
