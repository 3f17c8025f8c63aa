use Rattle.std.proofs.Common.{◌≡◌, ◌∙◌, ap, length, arith}
use Rattle.std.specs.Prelude.{Some, slice_get, map}
use Rattle.erl_runs.specs.Specs.{all_present}
use Rattle.flat_modules.specs.FlatSpecs.{type_term}
use Rattle.cert_checker.specs.FlatTypes.{IsFlatType}
use Rattle.cert_checker.proofs.Lists.{some-inj}
use Rattle.cert_checker.proofs.Takes.{item-found, take-all, every-get}
use Rattle.cert_checker.proofs.TypeTables.{sets-more, no-sets}
use Rattle.cert_checker.proofs.spec_table.sets_of_types.Goals as goal
use Rattle.cert_checker.proofs.spec_table.sets_of_types.Goals.{After-expression-item}

pub loop-expression-init : goal.loop-expression-init
loop-expression-init c terms e = no-sets c.new-sets.result terms c.new-sets.ensures (some-inj _ terms e)

found : (c : After-expression-item) → slice_get c.args.types.now c.loop-expression.expression-index ≡ Some c.expression-item.result
found c = item-found c.as_slice-expression-items.result.now c.args.types.now c.loop-expression.expression-index c.expression-item.result c.as_slice-expression-items.ensures c.loop-expression-test.true c.expression-item.is

pub set_of_type-requires : goal.set_of_type-requires
set_of_type-requires c = record { flat = every-get IsFlatType c.args.types.now c.loop-expression.expression-index c.expression-item.result c.requires (found c) }

pub loop-expression-preserved : goal.loop-expression-preserved
loop-expression-preserved c =
    let f = item-found c.as_slice-expression-items.result.now c.args.types.now c.loop-expression.expression-index c.expression-item.result c.as_slice-expression-items.ensures c.loop-expression-test.true c.expression-item.is in
    sets-more c.args.types.now c.loop-expression.expression-index c.expression-item.result c.loop-expression.sets c.push.new.self c.in_ok-set.set f c.in_ok-push.ensures.ok c.in_ok-set.ensures c.loop-expression.invariant

pub returns : goal.returns
returns c terms e =
    let full : c.loop-expression.expression-index ≡ length c.args.types.now = let l = ap length c.as_slice-expression-items.ensures in let x = c.loop-expression-test.false in let y = c.loop-expression.auto.expression-index-end in omega arith in
    c.loop-expression.invariant terms (ap (λ z. all_present (map type_term z)) (take-all c.args.types.now c.loop-expression.expression-index full) ∙ e)
