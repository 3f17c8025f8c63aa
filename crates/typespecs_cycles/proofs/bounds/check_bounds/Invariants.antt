use Rattle.typespecs_cycles.specs.FirstFaults.{OfSome}
use Rattle.typespecs_cycles.specs.GraphFaults.{IsCyclicClause, form_clauses}
use Rattle.typespecs_cycles.proofs.FirstLaws.{IsFirstTo}
use Rattle.typespecs_cycles.proofs.bounds.check_bounds.Given as goal

abbrev pub invariant-loop-form : goal.invariant-loop-form
invariant-loop-form l = IsFirstTo (λ form. OfSome IsCyclicClause (form_clauses form)) l.forms l.initial.first l.form-index l.first
