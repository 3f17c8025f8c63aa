use Rattle.std.proofs.Common.{◌∙◌, ap, Some}
use Rattle.typespecs_single.proofs.Fields.{tuples-are}
use Rattle.typespecs_single.proofs.tuples.tuple_with.Goals as goal

pub returns-in_ok-fields_with-in-Some-AtomLit-default : goal.returns-in_ok-fields_with-in-Some-AtomLit-default
returns-in_ok-fields_with-in-Some-AtomLit-default c = λ r names elements.
    let w = c.in-Some-AtomLit-default in
    ap Some (tuples-are r c.args.names.now c.args.terms.now w.own.now w.field-0-0.now w.tag c.in_ok-copy-in-Some-AtomLit-default.field-0 c.in_ok-fields_with-in-Some-AtomLit-default.field-0 names elements w.ensures.cases.0 w.field-0-0-is
    (c.in_ok-copy-in-Some-AtomLit-default.ensures ∙ w.tag-is) c.in_ok-fields_with-in-Some-AtomLit-default.ensures)
