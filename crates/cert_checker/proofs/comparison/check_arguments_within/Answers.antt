use Rattle.std.proofs.Common.{◌≡◌, refl, ap, subst, length, ◌<◌, arith}
use Rattle.cert_checker.specs.Failures.{IsCompared}
use Rattle.cert_checker.proofs.Takes.{item-found}
use Rattle.cert_checker.proofs.Arguments.{stands-at, within-none, within-more, within-end, keys-miss}
use Rattle.cert_checker.proofs.comparison.check_arguments_within.Goals as goal

pub outside_param-requires-clause-type_ : goal.outside_param-requires-clause-type_
outside_param-requires-clause-type_ c =
    let f = item-found c.as_slice-found-items.result.now c.args.args.now c.loop-at.at c.found-item.result c.as_slice-found-items.ensures c.loop-at-test.true c.found-item.is in
    let r = stands-at c.args.scope.now c.args.args.now c.requires.types.0 c.loop-at.at c.found-item.result c.requires.types.1 f in
    (r.0, r.2)

pub returns-in-Some-clause-fails : goal.returns-in-Some-clause-fails
returns-in-Some-clause-fails c ts us a b =
    let f = item-found c.as_slice-found-items.result.now c.args.args.now c.loop-at.at c.found-item.result c.as_slice-found-items.ensures c.loop-at-test.true c.found-item.is in
    let l : c.loop-at.at < length c.args.params.now = let x = ap length c.as_slice-found-items.ensures in let y = c.requires.as_many in let z = c.loop-at-test.true in omega arith in
    let m = keys-miss c.args.scope.now c.args.args.now c.args.params.now c.in_ok-keys-in-Some.keys c.loop-at.at c.found-item.result c.in-Some.key ts us f l (λ s t vs w d e. subst (IsCompared s t) c.in-Some.is (c.in_ok-outside_param.ensures s t vs w d e)) (λ vs t w e k. (c.in_ok-keys-in-Some).ensures vs t w e k) a b in
    (refl, refl, refl, m.0, m.1)

pub loop-at-init : goal.loop-at-init
loop-at-init c = within-none c.args.scope.now c.args.args.now c.args.params.now

pub loop-at-preserved : goal.loop-at-preserved
loop-at-preserved c =
    let f = item-found c.as_slice-found-items.result.now c.args.args.now c.loop-at.at c.found-item.result c.as_slice-found-items.ensures c.loop-at-test.true c.found-item.is in
    within-more c.args.scope.now c.args.args.now c.args.params.now c.loop-at.at c.found-item.result f (λ s t vs w d e. subst (IsCompared s t) c.in-None.is (c.in_ok-outside_param.ensures s t vs w d e)) c.loop-at.invariant

pub returns-clause-holds : goal.returns-clause-holds
returns-clause-holds c =
    let full : c.loop-at.at ≡ length c.args.args.now = let l = ap length c.as_slice-found-items.ensures in let x = c.loop-at-test.false in let y = c.loop-at.auto.at-end in omega arith in
    within-end c.args.scope.now c.args.args.now c.args.params.now c.loop-at.at full c.requires.as_many c.loop-at.invariant
