use Rattle.std.proofs.Common.{◌≡◌, sym, subst, arith, to_z, of_z}
use mir.Syntax.{w128}
use Rattle.std.specs.Prelude.{Some}
use Rattle.std.proofs.lemmas.Int.{ints}
use Rattle.key_sets.specs.declared.part.Part.TheVariants.{Integers}
use Rattle.erl_runs.specs.Specs.{one_integer}
use Rattle.cert_checker.specs.FlatTypes.{IsPartOf}
use Rattle.cert_checker.proofs.ValueSets.{integer-part}
use Rattle.cert_checker.proofs.flat_type.one_integer.Goals as goal

pub returns : goal.returns
returns c =
    let e : to_z w128 (of_z w128 c.args.number) ≡ c.args.number = omega (arith, ints) in
    subst (λ z. IsPartOf (Integers (Some z) (Some z)) (one_integer c.args.number)) (sym e) (integer-part c.args.number c.requires)
