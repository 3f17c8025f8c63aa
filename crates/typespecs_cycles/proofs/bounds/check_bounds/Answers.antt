use Rattle.std.proofs.Common.{arith}
use Rattle.typespecs_rules.specs.TypeParts.{from_each}
use Rattle.typespecs_cycles.specs.FirstFaults.{OfSome}
use Rattle.typespecs_cycles.specs.GraphFaults.{IsCyclicClause, form_clauses}
use Rattle.typespecs_cycles.proofs.FirstLaws.{alike, each-into, each-from, first-start, first-next, first-end}
use Rattle.typespecs_cycles.proofs.bounds.check_bounds.Goals as goal

pub loop-form-init : goal.loop-form-init
loop-form-init c = first-start (λ form. OfSome IsCyclicClause (form_clauses form)) c.args.forms.now c.args.first.now

pub loop-form-preserved : goal.loop-form-preserved
loop-form-preserved c =
    first-next (λ form. OfSome IsCyclicClause (form_clauses form)) c.args.forms.now c.args.first.now c.loop-form.form-index c.form-item.result c.loop-form.first c.check_form.new.first c.loop-form-test.true c.form-item.is c.in_ok-check_form.ensures c.loop-form.invariant

pub returns : goal.returns
returns c =
    alike (OfSome (λ form. OfSome IsCyclicClause (form_clauses form)) c.args.forms.now) (OfSome IsCyclicClause (from_each form_clauses c.args.forms.now)) c.args.first.now c.loop-form.first
    (each-into IsCyclicClause form_clauses c.args.forms.now) (each-from IsCyclicClause form_clauses c.args.forms.now)
    (first-end (λ form. OfSome IsCyclicClause (form_clauses form)) c.args.forms.now c.args.first.now c.loop-form.form-index c.loop-form.first (omega arith) c.loop-form.invariant)
