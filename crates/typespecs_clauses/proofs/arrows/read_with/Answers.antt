use Rattle.std.proofs.Common.{◌∙◌}
use Rattle.erl_tree.specs.declared.token.Node.{Node}
use Rattle.erl_tree.specs.declared.type_expr.TypeKind.{TypeKind}
use Rattle.typespecs_rules.specs.TypeTerms.{type_kind_term}
use Rattle.typespecs_clauses.specs.Arrows.{arrow_by}
use Rattle.typespecs_clauses.proofs.arrows.read_with.Goals as goal

pub returns : goal.returns
returns c = λ d known.
    c.in_ok-arrow.ensures d known.numbers
    ∙ (λ j. arrow_by (λ (t : Node TypeKind). type_kind_term d (λ name. known.tuples name j) (λ x. c.in_ok-terms.ensures d known x j) t.kind) c.args.source.now.clause.now)
