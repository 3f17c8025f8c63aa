use Rattle.std.proofs.Common.{◌≡◌, ◌∙◌, ap, Some, None, arith, neg_ℤ, of_z, to_z}
use mir.Syntax.{w128}
use Rattle.std.proofs.lemmas.Int.{ints}
use Rattle.type_terms.specs.declared.term.Key.TheVariants.{Int as IntKey}
use Rattle.erl_tree.specs.declared.type_expr.TypeKind.TheVariants as Y
use Rattle.typespecs_rules.specs.TypeTerms.{this_key}
use Rattle.typespecs_faults.proofs.MapKeyLaws.{key-is, use-is, other-key}
use Rattle.typespecs_faults.proofs.keys.key_of.Goals as goal

pub returns-in-Atom : goal.returns-in-Atom
returns-in-Atom c = key-is c.args.kind.now (Y.Atom c.in-Atom.name) _ c.in-Atom.is (Y.outs-Atom c.in-Atom.name)

pub returns-in-Int : goal.returns-in-Int
returns-in-Int c =
    let q : to_z w128 (of_z w128 c.in-Int.number) ≡ c.in-Int.number = omega (arith, ints) in
    ap (λ n. this_key (IntKey n)) q ∙ key-is c.args.kind.now (Y.Int c.in-Int.number) _ c.in-Int.is (Y.outs-Int c.in-Int.number)

pub returns-in_ok-negated-in-NegInt : goal.returns-in_ok-negated-in-NegInt
returns-in_ok-negated-in-NegInt c =
    let q : to_z w128 (of_z w128 c.in-NegInt.number) ≡ c.in-NegInt.number = omega (arith, ints) in
    let r : to_z w128 (of_z w128 c.in_ok-negated-in-NegInt.field-0) ≡ c.in_ok-negated-in-NegInt.field-0 = omega (arith, ints) in
    ap (λ n. this_key (IntKey n)) (r ∙ c.in_ok-negated-in-NegInt.ensures) ∙ (ap (λ n. this_key (IntKey (neg_ℤ n))) q ∙ key-is c.args.kind.now (Y.NegInt c.in-NegInt.number) _ c.in-NegInt.is (Y.outs-NegInt c.in-NegInt.number))

pub returns-in-Char : goal.returns-in-Char
returns-in-Char c =
    let q : to_z w128 (of_z w128 c.from.result) ≡ c.from.result = omega (arith, ints) in
    ap (λ n. this_key (IntKey n)) (q ∙ c.from.ensures) ∙ key-is c.args.kind.now (Y.Char c.in-Char.code) _ c.in-Char.is (Y.outs-Char c.in-Char.code)

pub returns-in-None : goal.returns-in-None
returns-in-None c =
    c.key_of_name.ensures c.in-Use.args c.len.ensures ∙ (use-is c.in-Use.name c.in-Use.args ∙ key-is c.args.kind.now (Y.Use None c.in-Use.name c.in-Use.args) _ (c.in-Use.is ∙ ap (λ p. Y.Use p c.in-Use.name c.in-Use.args) c.in-None.is) (Y.outs-Use None c.in-Use.name c.in-Use.args))

pub returns-in-Some : goal.returns-in-Some
returns-in-Some c = key-is c.args.kind.now (Y.Use (Some c.in-Some.field-0) c.in-Use.name c.in-Use.args) _ (c.in-Use.is ∙ ap (λ p. Y.Use p c.in-Use.name c.in-Use.args) c.in-Some.is) (Y.outs-Use (Some c.in-Some.field-0) c.in-Use.name c.in-Use.args)

pub returns-in_default : goal.returns-in_default
returns-in_default c = other-key c.args.kind.now c.in_default.not-Atom c.in_default.not-Int c.in_default.not-NegInt c.in_default.not-Char c.in_default.not-Use
