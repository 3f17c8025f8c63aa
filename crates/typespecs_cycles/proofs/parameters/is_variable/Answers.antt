use Rattle.std.proofs.Common.{◌≡◌, subst}
use Rattle.typespecs_rules.specs.TypeTerms.{type_kind_term}
use Rattle.typespecs_cycles.proofs.ParameterLaws.{another}
use Rattle.typespecs_cycles.proofs.parameters.is_variable.Goals as goal

pub returns-in-Some-clause-no : goal.returns-in-Some-clause-no
returns-in-Some-clause-no c = λ f d tuples variables i e.
    another variables (type_kind_term d tuples variables c.args.t.now.kind) c.in-Some.variable.now c.as_slice.result.now c.args.name.now c.eq.result c.as_slice.ensures c.eq.ensures f
    (subst (λ k. type_kind_term d tuples variables k ≡ variables c.in-Some.variable.now) c.get.ensures (c.in-Some.ensures d tuples variables)) i e
