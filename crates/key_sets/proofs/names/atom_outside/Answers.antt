use Rattle.std.proofs.Common.{◌≡◌, ◌∙◌, ◌||◌, sym, ap, ap₂, subst, true, false, take_all}
use Rattle.std.specs.List.{All}
use Rattle.key_sets.specs.Contents.{listed}
use Rattle.key_sets.proofs.Listed.{Names, looked_up, listed-at, listed-within, within_more}
use Rattle.key_sets.proofs.names.atom_outside.Goals as goal

pub returns-then-not-contains : goal.returns-then-not-contains
returns-then-not-contains c =
    let name : c.in_ok-from_slice.field-0 ≡ c.name-item.result.items = c.in_ok-from_slice.ensures ∙ c.as_slice-then-not-contains.ensures.value in
    let there : listed c.args.left.now.names.keys c.name-item.result.items ≡ true =
    subst (λ (names : Names). listed names c.name-item.result.items ≡ true) c.as_slice-name-items.ensures.keys (listed-at c.as_slice-name-items.result.now c.loop-name.name-index c.name-item.result c.loop-name-test.true c.name-item.is) in
    let gone : listed c.args.right.now.names.keys c.name-item.result.items ≡ false =
    ap (listed c.args.right.now.names.keys) (sym c.as_slice-in-loop-name.ensures.value) ∙ sym (looked_up c.args.right.now.names.keys c.as_slice-in-loop-name.result.now) ∙ sym c.contains.ensures ∙ c.if-not-contains.true in
    (ap₂ ◌||◌ c.if-left.false (ap (listed c.args.left.now.names.keys) name ∙ there), ap₂ ◌||◌ c.if-right.false (ap (listed c.args.right.now.names.keys) name ∙ gone))

pub loop-name-preserved : goal.loop-name-preserved
loop-name-preserved c =
    within_more c.as_slice-name-items.result.now c.args.right.now.names.keys c.loop-name.name-index c.name-item.result c.loop-name-test.true c.name-item.is c.loop-name.invariant
    (ap (listed c.args.right.now.names.keys) (sym c.as_slice-in-loop-name.ensures.value) ∙ sym (looked_up c.args.right.now.names.keys c.as_slice-in-loop-name.result.now) ∙ sym c.contains.ensures ∙ c.if-not-contains.false)

pub returns : goal.returns
returns c a h =
    ap₂ ◌||◌ c.if-right.false
    (listed-within c.args.left.now.names.keys c.args.right.now.names.keys
    (subst (λ (names : Names). All (λ v. listed c.args.right.now.names.keys v.items ≡ true) names)
    (take_all c.loop-name.name-index c.as_slice-name-items.result.now c.loop-name-test.false ∙ c.as_slice-name-items.ensures.keys)
    c.loop-name.invariant)
    a (sym (ap (λ b. b || listed c.args.left.now.names.keys a) c.if-left.false) ∙ h))
