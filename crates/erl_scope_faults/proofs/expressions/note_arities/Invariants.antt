use Rattle.erl_scope_faults.specs.PartFaults.{other_arity}
use Rattle.erl_scope_faults.proofs.Rows.{IsNotedTo}
use Rattle.erl_scope_faults.proofs.expressions.note_arities.Given as goal

abbrev pub invariant-loop-clause : goal.invariant-loop-clause
invariant-loop-clause l = IsNotedTo (other_arity l.arity) l.clauses l.initial.first l.clause-index l.first
