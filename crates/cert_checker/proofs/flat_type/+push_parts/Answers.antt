use Rattle.std.proofs.Common.{◌≡◌, sym, ◌∙◌, ap, subst, arith, to_z, of_z, rules}
use mir.Syntax.{w128}
use Rattle.std.specs.Prelude.{neg_ℤ}
use Rattle.std.proofs.lemmas.Int.{ints}
use Rattle.std.proofs.lemmas.Result.{on_ok_weaker}
use Rattle.key_sets.specs.declared.part.Part.TheVariants.{Atom}
use Rattle.erl_runs.specs.Specs.{one_integer}
use Rattle.erl_tree.specs.declared.type_expr.TypeKind.{the_lemmas}
use Rattle.cert_checker.specs.FlatTypes.{IsPartOf, AddsPartsOf, is_limited}
use Rattle.cert_checker.proofs.Lists.{some-inj}
use Rattle.cert_checker.proofs.ValueSets.{atom-part, or-adds}
use Rattle.cert_checker.proofs.FlatForms.{flat-Int, flat-NegInt, flat-Paren, flat-Or, flat-Range, Range-term, Use-term, Atom-term, Int-term, NegInt-term, Paren-term, Or-term, type-forms}
use Rattle.cert_checker.proofs.flat_type.+push_parts.Goals as goal

pub one_integer-requires : goal.one_integer-requires
one_integer-requires t c =
    let e : to_z w128 (of_z w128 c.in-Int.number) ≡ c.in-Int.number = omega (arith, ints) in
    ap is_limited e ∙ flat-Int c.args.expression.now c.in-Int.number c.requires.flat (sym c.get.ensures ∙ c.in-Int.is)

pub negated-requires : goal.negated-requires
negated-requires t c =
    let e : to_z w128 (of_z w128 c.in-NegInt.number) ≡ c.in-NegInt.number = omega (arith, ints) in
    ap is_limited e ∙ flat-NegInt c.args.expression.now c.in-NegInt.number c.requires.flat (sym c.get.ensures ∙ c.in-NegInt.is)

pub push_parts-requires : goal.push_parts-requires
push_parts-requires t c = (search (rules, the_lemmas), flat-Paren c.args.expression.now c.in-Paren.inner c.requires.flat (sym c.get.ensures ∙ c.in-Paren.is))

pub push_parts-requires-in-Or : goal.push_parts-requires-in-Or
push_parts-requires-in-Or t c = (search (rules, the_lemmas), (flat-Or c.args.expression.now c.in-Or.left c.in-Or.right c.requires.flat (sym c.get.ensures ∙ c.in-Or.is)).0)

pub push_parts-requires-in-Or-2 : goal.push_parts-requires-in-Or-2
push_parts-requires-in-Or-2 t c = (search (rules, the_lemmas), (flat-Or c.args.expression.now c.in-Or.left c.in-Or.right c.requires.flat (sym c.get.ensures ∙ c.in-Or.is)).1)

pub range-requires-clause-low_limited : goal.range-requires-clause-low_limited
range-requires-clause-low_limited t c = (flat-Range c.args.expression.now c.in-Range.low c.in-Range.high c.requires.flat (sym c.get.ensures ∙ c.in-Range.is)).0

pub range-requires-clause-high_limited : goal.range-requires-clause-high_limited
range-requires-clause-high_limited t c = (flat-Range c.args.expression.now c.in-Range.low c.in-Range.high c.requires.flat (sym c.get.ensures ∙ c.in-Range.is)).1

pub range-requires-clause-term : goal.range-requires-clause-term
range-requires-clause-term t c = (c.requires.flat.term, sym (Range-term c.args.expression.now c.in-Range.low c.in-Range.high (sym c.get.ensures ∙ c.in-Range.is)) ∙ c.requires.flat.read)

pub built_in-requires : goal.built_in-requires
built_in-requires t c = (c.requires.flat.term, sym (Use-term c.args.expression.now c.in-Use.prefix c.in-Use.name c.in-Use.args c.requires.flat (sym c.get.ensures ∙ c.in-Use.is)) ∙ c.requires.flat.read)

pub unreachable-requires : goal.unreachable-requires
unreachable-requires t c =
    let k = c.get.ensures in
    type-forms c.args.expression.now c.requires.flat
    (λ a e. c.in_default.not-Atom a (k ∙ e)) (λ n e. c.in_default.not-Int n (k ∙ e)) (λ n e. c.in_default.not-NegInt n (k ∙ e)) (λ u e. c.in_default.not-Paren u (k ∙ e))
    (λ u v e. c.in_default.not-Or u v (k ∙ e)) (λ l h e. c.in_default.not-Range l h (k ∙ e)) (λ p n a e. c.in_default.not-Use p n a (k ∙ e))

pub returns-in_ok-name-in-Atom : goal.returns-in_ok-name-in-Atom
returns-in_ok-name-in-Atom t c =
    on_ok_weaker c.push_part.result (λ h u e. h u (subst (λ z. IsPartOf (Atom z) u) (sym c.in_ok-name-in-Atom.ensures) (subst (λ z. IsPartOf (Atom c.in-Atom.name) z) (some-inj _ u (sym (Atom-term c.args.expression.now c.in-Atom.name (sym c.get.ensures ∙ c.in-Atom.is)) ∙ e)) (atom-part c.in-Atom.name)))) c.push_part.ensures

pub returns-in-Int : goal.returns-in-Int
returns-in-Int t c =
    let q : to_z w128 (of_z w128 c.in-Int.number) ≡ c.in-Int.number = omega (arith, ints) in
    on_ok_weaker c.push_part-in-Int.result (λ h u e. h u (subst (λ z. IsPartOf c.one_integer.result z) (ap one_integer q ∙ some-inj _ u (sym (Int-term c.args.expression.now c.in-Int.number (sym c.get.ensures ∙ c.in-Int.is)) ∙ e)) c.one_integer.ensures)) c.push_part-in-Int.ensures

pub returns-in-NegInt : goal.returns-in-NegInt
returns-in-NegInt t c =
    let q : to_z w128 (of_z w128 c.in-NegInt.number) ≡ c.in-NegInt.number = omega (arith, ints) in
    let r : to_z w128 (of_z w128 c.negated.result) ≡ c.negated.result = omega (arith, ints) in
    let s : to_z w128 (of_z w128 c.negated.result) ≡ neg_ℤ c.in-NegInt.number = r ∙ (c.negated.ensures.same ∙ ap neg_ℤ q) in
    on_ok_weaker c.push_part-in-NegInt.result (λ h u e. h u (subst (λ z. IsPartOf c.one_integer-in-NegInt.result z) (ap one_integer s ∙ some-inj _ u (sym (NegInt-term c.args.expression.now c.in-NegInt.number (sym c.get.ensures ∙ c.in-NegInt.is)) ∙ e)) c.one_integer-in-NegInt.ensures)) c.push_part-in-NegInt.ensures

pub returns-in-Paren : goal.returns-in-Paren
returns-in-Paren t c =
    on_ok_weaker c.push_parts.result (λ h u e. h u (sym (Paren-term c.args.expression.now c.in-Paren.inner (sym c.get.ensures ∙ c.in-Paren.is)) ∙ e)) c.push_parts.ensures

pub returns-in_ok-push_parts-in-Or : goal.returns-in_ok-push_parts-in-Or
returns-in_ok-push_parts-in-Or t c =
    on_ok_weaker c.push_parts-in-Or-2.result
    (λ h u e.
    let p = Or-term c.args.expression.now c.in-Or.left c.in-Or.right u (sym c.get.ensures ∙ c.in-Or.is) e in
    subst (λ z. AddsPartsOf z c.args.parts.now c.push_parts-in-Or-2.new.parts) p.4 (or-adds p.0 p.1 _ _ _ (c.in_ok-push_parts-in-Or.ensures p.0 p.2) (h p.1 p.3)))
    c.push_parts-in-Or-2.ensures

pub returns-in-Range : goal.returns-in-Range
returns-in-Range t c =
    on_ok_weaker c.push_part-in-Range.result (λ h u e. h u (c.range.ensures u (sym (Range-term c.args.expression.now c.in-Range.low c.in-Range.high (sym c.get.ensures ∙ c.in-Range.is)) ∙ e))) c.push_part-in-Range.ensures

pub returns-in-Use : goal.returns-in-Use
returns-in-Use t c =
    on_ok_weaker c.push_part-in-Use.result (λ h u e. h u (c.built_in.ensures u (sym (Use-term c.args.expression.now c.in-Use.prefix c.in-Use.name c.in-Use.args c.requires.flat (sym c.get.ensures ∙ c.in-Use.is)) ∙ e))) c.push_part-in-Use.ensures
