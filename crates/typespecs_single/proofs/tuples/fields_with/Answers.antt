use Rattle.std.proofs.Common.{◌∙◌, length, arith}
use Rattle.std.proofs.lemmas.List.{length_push}
use Rattle.std.proofs.lemmas.Slice.Zip.{zip_turn, zip_end}
use Rattle.typespecs_single.proofs.Fields.{pair-next, pairs-end}
use Rattle.typespecs_single.proofs.tuples.fields_with.Goals as goal

pub loop-name-preserved : goal.loop-name-preserved
loop-name-preserved c =
    let at = zip_turn c.args.names.now c.args.terms.now c.loop-name.yielded c.into_iter-name-iterator.result c.loop-name.name-iterator c.next.new.self c.next.result (cc) (cc) c.loop-name.yielded_by (c.in-Some.name, c.in-Some.term) c.in-Some.is c.next.ensures.steps in
    pair-next c.args.names.now c.args.terms.now (length c.loop-name.yielded) _ c.in-Some.name.now c.in_ok-copy.field-0 c.in-Some.term.now c.in_ok-copy-2.field-0 c.loop-name.fields c.push.new.self at (length_push c.loop-name.yielded (c.in-Some.name, c.in-Some.term)) c.loop-name.invariant
    c.in_ok-push.ensures.ok c.in_ok-copy.ensures c.in_ok-copy-2.ensures

pub returns : goal.returns
returns c =
    let all = zip_end c.args.names.now c.args.terms.now c.loop-name.yielded c.into_iter-name-iterator.result c.loop-name.name-iterator c.next.new.self c.next.result (cc) (cc) c.loop-name.yielded_by c.in-None.is c.next.ensures.steps in
    c.loop-name.invariant ∙ pairs-end c.args.names.now c.args.terms.now (length c.loop-name.yielded) (omega (arith, all))
