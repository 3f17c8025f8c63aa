use Rattle.std.proofs.Common.{◌≡◌, sym, ◌∙◌, ap, subst, length, arith, length-append, [], ◌∷◌}
use Rattle.cert_checker.specs.Judging.{StandForAll}
use Rattle.cert_checker.proofs.Takes.{item-found, take-all}
use Rattle.cert_checker.proofs.Arguments.{elements-more, no-elements, stands-at}
use Rattle.cert_checker.proofs.comparison.elements.Goals as goal

pub loop-found-init : goal.loop-found-init
loop-found-init c = record { as_many = ap length c.new-keys.ensures; elements = λ ts h. no-elements c.args.scope.now c.new-keys.result ts c.new-keys.ensures h }

pub element-requires : goal.element-requires
element-requires c =
    let f = item-found c.as_slice-found-items.result.now c.args.args.now c.loop-found.found-index c.found-item.result c.as_slice-found-items.ensures c.loop-found-test.true c.found-item.is in
    let r = stands-at c.args.scope.now c.args.args.now c.requires.0 c.loop-found.found-index c.found-item.result c.requires.1 f in
    (r.0, r.2)

pub loop-found-preserved : goal.loop-found-preserved
loop-found-preserved c =
    let f = item-found c.as_slice-found-items.result.now c.args.args.now c.loop-found.found-index c.found-item.result c.as_slice-found-items.ensures c.loop-found-test.true c.found-item.is in
    record {
      as_many = ap length c.in_ok-push.ensures.ok ∙ (length-append c.loop-found.keys (c.in_ok-key.key ∷ []) ∙ (let l : length c.loop-found.keys ≡ c.loop-found.found-index = c.loop-found.invariant.as_many in omega arith));
      elements = elements-more c.args.scope.now c.args.args.now c.loop-found.found-index c.found-item.result c.loop-found.keys c.push.new.self c.in_ok-key.key f c.in_ok-push.ensures.ok c.in_ok-key.ensures c.loop-found.invariant.elements;
    }

pub returns-clause-as_many : goal.returns-clause-as_many
returns-clause-as_many c =
    let full : c.loop-found.found-index ≡ length c.args.args.now = let l = ap length c.as_slice-found-items.ensures in let x = c.loop-found-test.false in let y = c.loop-found.auto.found-index-end in omega arith in
    c.loop-found.invariant.as_many ∙ full

pub returns-clause-elements : goal.returns-clause-elements
returns-clause-elements c ts h =
    let full : c.loop-found.found-index ≡ length c.args.args.now = let l = ap length c.as_slice-found-items.ensures in let x = c.loop-found-test.false in let y = c.loop-found.auto.found-index-end in omega arith in
    c.loop-found.invariant.elements ts (subst (λ z. StandForAll c.args.scope.now z ts) (sym (take-all c.args.args.now c.loop-found.found-index full)) h)
