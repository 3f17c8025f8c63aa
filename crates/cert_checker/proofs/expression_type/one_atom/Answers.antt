use Rattle.std.proofs.Common.{sym, subst}
use Rattle.std.proofs.lemmas.Result.{IfOk-weaker}
use Rattle.type_terms.specs.declared.term.Term.{AtomLit}
use Rattle.key_sets.specs.declared.part.Part.TheVariants.{Atom}
use Rattle.cert_checker.specs.FlatTypes.{IsPartOf}
use Rattle.cert_checker.proofs.ValueSets.{atom-part}
use Rattle.cert_checker.proofs.expression_type.one_atom.Goals as goal

pub returns : goal.returns
returns c =
    IfOk-weaker c.set_of_part.result _ _ (λ set h. h (AtomLit c.args.name.now) (subst (λ z. IsPartOf (Atom z) (AtomLit c.args.name.now)) (sym c.in_ok-name.ensures) (atom-part c.args.name.now))) c.set_of_part.ensures
