use Rattle.std.proofs.Common.{◌∙◌, sym, ap}
use Rattle.typespecs_terms.specs.Tables.{terms_in}
use Rattle.typespecs_terms.proofs.GivenFields.{given_onto, onto-last, onto-none}
use Rattle.typespecs_terms.proofs.uses.given_terms.Goals as goal

pub fields-init : goal.fields-init
fields-init c = λ x. ap (given_onto c.args.given x) (c.new-table.ensures x) ∙ onto-none c.args.given x

pub fields-preserved : goal.fields-preserved
fields-preserved c = λ x.
    ap (given_onto c.pop.new.self x) (c.in_ok-insert.ensures x)
    ∙ sym (onto-last c.pop.new.self c.in-Some.name c.in-Some.term x (terms_in c.fields.table x))
    ∙ ap (λ g. given_onto g x (terms_in c.fields.table x)) (sym c.in-Some.ensures)
    ∙ c.fields.invariant x
