use Rattle.std.proofs.Common.{subst}
use Rattle.erl_tree.specs.declared.form.SpecClauseKind.{SpecClauseKind}
use Rattle.typespecs_rules.specs.Bounds.{IsCyclic}
use Rattle.typespecs_clauses.proofs.ArrowLaws.{among-item}
use Rattle.typespecs_clauses.proofs.arrows.read_spec.Goals as goal

pub read_clause_of-requires : goal.read_clause_of-requires
read_clause_of-requires c = λ cyclic.
    c.requires c.clause-item.result (among-item c.as_slice-clause-items.result.now c.args.spec.now.clauses c.clauses.clause-index c.clause-item.result c.as_slice-clause-items.ensures c.clauses-test.true c.clause-item.is)
    (subst (λ (k : SpecClauseKind). IsCyclic k.bounds) c.get.ensures cyclic)
