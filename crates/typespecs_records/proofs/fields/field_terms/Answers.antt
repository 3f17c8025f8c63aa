use Rattle.std.proofs.Common.{◌∙◌, Option, ap}
use Rattle.type_terms.specs.declared.term.Term.{Term}
use Rattle.erl_tree.specs.declared.type_expr.TypeKind.{TypeKind}
use Rattle.typespecs_rules.specs.TypeTerms.{field_term, named_term, type_kind_term}
use Rattle.typespecs_terms.specs.Tables.{terms_in, tuples_in}
use Rattle.typespecs_terms.proofs.Collected.{collected}
use Rattle.typespecs_records.specs.Settled.{of_field}
use Rattle.typespecs_records.proofs.fields.field_terms.Goals as goal

pub fields-preserved : goal.fields-preserved
fields-preserved c = λ d k.
    let t : TypeKind → Option Term = type_kind_term d (tuples_in c.args.reading.now.tuples.now) (terms_in c.args.reading.now.variables.now) in
    c.in_ok-terms.ensures
    ∙ collected (of_field t) c.args.fields.now c.fields.field-index c.field-item.result c.fields.terms c.in_ok-field.field c.fields-test.true c.field-item.is (c.fields.invariant d k)
    (c.in_ok-field.ensures ∙ (λ j. named_term (c.get-field.ensures j).name ((c.in_ok-term.ensures d k ∙ ap (λ f. field_term t f) c.get-field.ensures) j)))
