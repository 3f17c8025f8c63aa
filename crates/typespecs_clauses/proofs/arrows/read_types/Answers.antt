use Rattle.erl_tree.specs.declared.token.Node.{Node}
use Rattle.erl_tree.specs.declared.type_expr.TypeKind.{TypeKind}
use Rattle.typespecs_rules.specs.TypeTerms.{type_kind_term}
use Rattle.typespecs_terms.specs.Tables.{terms_in, tuples_in}
use Rattle.typespecs_clauses.proofs.ArrowLaws.{terms-more}
use Rattle.typespecs_clauses.proofs.arrows.read_types.Goals as goal

pub types-preserved : goal.types-preserved
types-preserved c = λ d known.
    terms-more (λ (t : Node TypeKind). type_kind_term d (tuples_in c.args.reading.now.tuples.now) (terms_in c.args.reading.now.variables.now) t.kind) c.args.types.now c.types.t-index c.t-item.result c.types-test.true c.t-item.is
    c.types.terms c.in_ok-terms.terms c.in_ok-term.term (c.types.invariant d known) (c.in_ok-term.ensures d known) c.in_ok-terms.ensures
