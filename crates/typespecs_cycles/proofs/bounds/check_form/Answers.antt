use Rattle.std.proofs.Common.{◌∙◌, ap, sym, subst}
use Rattle.std.specs.Prelude.{OnOk, List}
use Rattle.erl_tree.specs.declared.token.Node.{Node}
use Rattle.erl_tree.specs.declared.form.SpecKind.{SpecKind}
use Rattle.erl_tree.specs.declared.form.SpecClauseKind.{SpecClauseKind}
use Rattle.typespecs_cycles.specs.FirstFaults.{IsFirstWith, OfSome}
use Rattle.typespecs_cycles.specs.GraphFaults.{IsCyclicClause, form_clauses}
use Rattle.typespecs_cycles.proofs.bounds.check_form.Goals as goal

pub returns-in-Spec : goal.returns-in-Spec
returns-in-Spec c =
    subst (λ (cs : List (Node SpecClauseKind)). OnOk c.check_clauses.result (IsFirstWith c.args.first.now (OfSome IsCyclicClause cs) c.check_clauses.new.first))
    (c.as_slice.ensures ∙ (ap (λ (k : SpecKind). k.clauses) c.get.ensures ∙ sym (ap form_clauses c.in-Spec.is))) c.check_clauses.ensures
