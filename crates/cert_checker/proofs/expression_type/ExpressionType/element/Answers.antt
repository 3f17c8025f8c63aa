use Rattle.std.proofs.Common.{sym, subst}
use Rattle.std.proofs.lemmas.Result.{IfOk-weaker}
use Rattle.type_terms.specs.declared.term.Key.TheVariants.{Atom as AtomKey}
use Rattle.type_terms.proofs.KeyLaws.{name-refl}
use Rattle.key_sets.specs.KeySets.{has}
use Rattle.cert_checker.specs.Failures.{KeyIn}
use Rattle.cert_checker.specs.Judging.{StandsFor}
use Rattle.cert_checker.proofs.Comparisons.{key-in, stands-Parameter, stands-ResultAt}
use Rattle.cert_checker.proofs.expression_type.ExpressionType.element.Goals as goal

pub returns-in_ok-copy-in-OneAtom : goal.returns-in_ok-copy-in-OneAtom
returns-in_ok-copy-in-OneAtom c t w =
    subst (λ z. KeyIn (AtomKey z) t) (sym c.in_ok-copy-in-OneAtom.ensures)
    (subst (KeyIn (AtomKey c.in-OneAtom.name)) (sym (subst (λ z. StandsFor c.args.scope.now z t) c.in-OneAtom.is w)) (name-refl c.in-OneAtom.name))

pub returns-in-Parameter : goal.returns-in-Parameter
returns-in-Parameter c =
    IfOk-weaker c.element.result _ _ (λ key h t w. key-in (has c.parameter.result.now) t (stands-Parameter c.args.scope.now c.args.self.now c.in-Parameter.at c.parameter.result.now t c.in-Parameter.is c.parameter.ensures w) key h) c.element.ensures

pub returns-in-ResultAt : goal.returns-in-ResultAt
returns-in-ResultAt c =
    IfOk-weaker c.element-in-ResultAt.result _ _ (λ key h t w. key-in (has c.result_at.result.now) t (stands-ResultAt c.args.scope.now c.args.self.now c.in-ResultAt.at c.result_at.result.now t c.in-ResultAt.is c.result_at.ensures w) key h) c.element-in-ResultAt.ensures
