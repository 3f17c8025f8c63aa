use Rattle.std.proofs.Common.{subst, arith, to_z, of_z, ◌≡◌}
use mir.Syntax.{w128}
use Rattle.std.proofs.lemmas.Int.{ints}
use Rattle.std.proofs.lemmas.Result.{IfOk-weaker}
use Rattle.erl_runs.specs.Specs.{one_integer}
use Rattle.cert_checker.specs.FlatTypes.{IsSetOf}
use Rattle.cert_checker.proofs.Comparisons.{compared, stands-Integers, stands-OneInteger, stands-OneAtom, stands-Parameter, stands-ResultAt}
use Rattle.cert_checker.proofs.expression_type.ExpressionType.first_outside.Goals as goal

pub returns-in_ok-integers-in-Integers : goal.returns-in_ok-integers-in-Integers
returns-in_ok-integers-in-Integers c =
    IfOk-weaker c.first_outside.result _ _ (λ found h s t w d. compared c.in_ok-integers-in-Integers.field-0 c.args.right.now s t found (stands-Integers c.args.scope.now c.args.self.now c.in_ok-integers-in-Integers.field-0 s c.in-Integers.is c.in_ok-integers-in-Integers.ensures w) d h) c.first_outside.ensures

pub returns-in_ok-one_integer-in-OneInteger : goal.returns-in_ok-one_integer-in-OneInteger
returns-in_ok-one_integer-in-OneInteger c =
    let set = (c.in_ok-one_integer-in-OneInteger).field-0 in
    let e : to_z w128 (of_z w128 c.in-OneInteger.number) ≡ c.in-OneInteger.number = omega (arith, ints) in
    IfOk-weaker c.first_outside-in-OneInteger.result _ _ (λ found h s t w d. compared set c.args.right.now s t found (stands-OneInteger c.args.scope.now c.args.self.now c.in-OneInteger.number set s c.in-OneInteger.is (subst (λ z. IsSetOf set (one_integer z)) e (c.in_ok-one_integer-in-OneInteger).ensures) w) d h) c.first_outside-in-OneInteger.ensures

pub returns-in_ok-one_atom-in-OneAtom : goal.returns-in_ok-one_atom-in-OneAtom
returns-in_ok-one_atom-in-OneAtom c =
    let set = (c.in_ok-one_atom-in-OneAtom).field-0 in
    IfOk-weaker c.first_outside-in-OneAtom.result _ _ (λ found h s t w d. compared set c.args.right.now s t found (stands-OneAtom c.args.scope.now c.args.self.now c.in-OneAtom.name set s c.in-OneAtom.is (c.in_ok-one_atom-in-OneAtom).ensures w) d h) c.first_outside-in-OneAtom.ensures

pub returns-in-Parameter : goal.returns-in-Parameter
returns-in-Parameter c =
    IfOk-weaker c.first_outside-in-Parameter.result _ _ (λ found h s t w d. compared c.parameter.result.now c.args.right.now s t found (stands-Parameter c.args.scope.now c.args.self.now c.in-Parameter.at c.parameter.result.now s c.in-Parameter.is c.parameter.ensures w) d h) c.first_outside-in-Parameter.ensures

pub returns-in-ResultAt : goal.returns-in-ResultAt
returns-in-ResultAt c =
    IfOk-weaker c.first_outside-in-ResultAt.result _ _ (λ found h s t w d. compared c.result_at.result.now c.args.right.now s t found (stands-ResultAt c.args.scope.now c.args.self.now c.in-ResultAt.at c.result_at.result.now s c.in-ResultAt.is c.result_at.ensures w) d h) c.first_outside-in-ResultAt.ensures
