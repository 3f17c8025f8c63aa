use Rattle.std.proofs.Common.{◌∙◌, ap, arith}
use Rattle.typespecs_rules.specs.TypeParts.{from_each}
use Rattle.typespecs_rules.specs.TypeFaults.{clause_faults}
use Rattle.typespecs_rules.specs.Earliest.{earliest}
use Rattle.typespecs_faults.specs.Specs.{arity_faults}
use Rattle.typespecs_faults.proofs.Rows.{noted_next, noted_last, noted_two}
use Rattle.typespecs_faults.proofs.SpecLaws.{clauses-are}
use Rattle.typespecs_faults.proofs.specs.check_clauses.Goals as goal

pub loop-clause-preserved : goal.loop-clause-preserved
loop-clause-preserved c = λ d k.
    noted_next (clause_faults d) c.args.clauses.now c.note_arities.new.first c.loop-clause.clause-index c.clause-item.result c.loop-clause.first c.check_clause.new.first c.loop-clause-test.true c.clause-item.is (c.in_ok-check_clause.ensures d k) (c.loop-clause.invariant d k)

pub returns : goal.returns
returns c = λ d k.
    noted_two c.args.first.now c.note_arities.new.first c.loop-clause.first (arity_faults c.args.clauses.now) (from_each (clause_faults d) c.args.clauses.now) c.note_arities.ensures
    (noted_last (clause_faults d) c.args.clauses.now c.note_arities.new.first c.loop-clause.clause-index c.loop-clause.first (omega arith) (c.loop-clause.invariant d k))
    ∙ ap (earliest c.args.first.now) (clauses-are d c.args.clauses.now)
