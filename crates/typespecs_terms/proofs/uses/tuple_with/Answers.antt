use Rattle.std.proofs.Common.{◌∙◌, ◌∷◌, ap, take_all}
use Rattle.type_terms.specs.declared.term.Term.{AtomLit, Tuple}
use Rattle.typespecs_terms.specs.Tables.{terms_in}
use Rattle.typespecs_terms.proofs.GivenFields.{field_terms, terms-given}
use Rattle.typespecs_terms.proofs.uses.tuple_with.Goals as goal

pub returns : goal.returns
returns c = λ fields same.
    ap Tuple (c.loop-field.invariant
    ∙ ap (λ (terms : _). AtomLit c.args.tuple.now.tag ∷ terms) (ap (field_terms (terms_in c.args.given.now)) (take_all c.loop-field.field-index c.as_slice-field-items.result.now c.loop-field-test.false ∙ c.as_slice-field-items.ensures) ∙ terms-given (terms_in c.args.given.now) c.args.tuple.now.fields fields same))
