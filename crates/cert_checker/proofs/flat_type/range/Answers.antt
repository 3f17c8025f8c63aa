use Rattle.std.proofs.Common.{◌≡◌, sym, ◌∙◌, subst, arith, to_z, of_z}
use mir.Syntax.{w128}
use Rattle.std.specs.Prelude.{Some}
use Rattle.std.proofs.lemmas.Int.{ints}
use Rattle.key_sets.specs.declared.part.Part.TheVariants.{Integers}
use Rattle.erl_runs.specs.Specs.{and_then, range}
use Rattle.cert_checker.specs.FlatTypes.{IsPartOf}
use Rattle.cert_checker.proofs.ValueSets.{range-reads}
use Rattle.cert_checker.proofs.flat_type.range.Goals as goal

pub returns : goal.returns
returns c t h =
    let low : to_z w128 (of_z w128 c.end.result) ≡ c.end.result = omega (arith, ints) in
    let high : to_z w128 (of_z w128 c.end-2.result) ≡ c.end-2.result = omega (arith, ints) in
    let g : range c.end.result c.end-2.result ≡ Some t = sym (λ j. and_then (c.end.ensures.same j) (λ l. and_then (c.end-2.ensures.same j) (λ h. range l h))) ∙ h in
    subst (λ z. IsPartOf (Integers (Some z) (Some (to_z w128 (of_z w128 c.end-2.result)))) t) (sym low)
    (subst (λ z. IsPartOf (Integers (Some c.end.result) (Some z)) t) (sym high) (range-reads c.end.result c.end-2.result t g c.end.ensures.limit c.end-2.ensures.limit))
