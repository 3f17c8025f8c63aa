use Rattle.std.proofs.Common.{length, nat_eq}
use Rattle.erl_tree.specs.declared.token.Node.{Node}
use Rattle.erl_tree.specs.declared.form.SpecClauseKind.{SpecClauseKind}
use Rattle.typespecs_rules.specs.declared.fault.TypeFault.TheVariants.{ArityDiffers}
use Rattle.typespecs_rules.specs.TypeFaults.{unless}
use Rattle.typespecs_faults.proofs.Rows.{IsNotedTo}
use Rattle.typespecs_faults.proofs.specs.note_arities.Given as goal

abbrev pub invariant-loop-clause : goal.invariant-loop-clause
invariant-loop-clause l = IsNotedTo (λ (x : Node SpecClauseKind). unless (nat_eq (length x.kind.params) l.count) ArityDiffers x.place) l.clauses l.initial.first l.clause-index l.first
