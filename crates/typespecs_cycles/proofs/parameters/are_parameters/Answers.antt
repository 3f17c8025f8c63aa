use Rattle.std.proofs.Common.{◌≡◌, ◌∙◌, ◌++◌, ◌∷◌, [], ◌<◌, refl, sym, ap, length, take, get_or, arith}
use Rattle.std.proofs.lemmas.List.{take_more}
use Rattle.type_terms.specs.Keys.{Name}
use Rattle.typespecs_rules.specs.TypeTerms.{type_term, record_tuple}
use Rattle.typespecs_rules.specs.TypeVariables.{parameters}
use Rattle.typespecs_cycles.proofs.Names.{new-name, old-name, names-more}
use Rattle.typespecs_cycles.proofs.ParameterLaws.{passes-length, passes-all, other-name, name-twice, passes-here, one-more, named-at, refutes}
use Rattle.typespecs_cycles.proofs.parameters.are_parameters.Goals as goal

pub returns-then-args-params : goal.returns-then-args-params
returns-then-args-params c = λ d. refutes _ refl (λ p. c.if-args-params.true (passes-length (type_term d (parameters c.args.params.now)) 0 c.args.args.now c.args.params.now p))

pub returns-then-not-is_variable : goal.returns-then-not-is_variable
returns-then-not-is_variable c = λ d. refutes _ refl
    (other-name (type_term d (parameters c.args.params.now)) c.args.params.now c.args.args.now c.loop-position.position c.index-args-position.result c.as_slice-name.result.now (omega arith) (omega arith) c.index-args-position.is
    (named-at c.args.params.now c.loop-position.position c.index-params-position.result c.as_slice-name.result.now c.as_slice-name.ensures c.index-params-position.is)
    (λ j e. c.is_variable.ensures.no c.if-not-is_variable.true d (record_tuple d) (parameters c.args.params.now) j e))

pub returns-then-not-is_new : goal.returns-then-not-is_new
returns-then-not-is_new c = λ d. refutes _ refl
    (name-twice (type_term d (parameters c.args.params.now)) c.args.params.now c.args.args.now c.loop-position.position c.index-args-position.result c.as_slice-name.result.now (omega arith) (omega arith) c.index-args-position.is
    (named-at c.args.params.now c.loop-position.position c.index-params-position.result c.as_slice-name.result.now c.as_slice-name.ensures c.index-params-position.is)
    (old-name c.loop-position.before.keys c.insert.new.self.keys c.as_slice-name.result c.in_ok-is_new.is_new c.in_ok-is_new.ensures.added (take c.loop-position.position c.args.params.now) c.loop-position.invariant.names c.if-not-is_new.true)
    (c.is_variable.ensures.yes c.if-not-is_variable.false d (record_tuple d) (parameters c.args.params.now)))

pub loop-position-preserved : goal.loop-position-preserved
loop-position-preserved c =
    let named : c.as_slice-name.result.now ≡ get_or c.args.params.now c.loop-position.position c.as_slice-name.result.now = named-at c.args.params.now c.loop-position.position c.index-params-position.result c.as_slice-name.result.now c.as_slice-name.ensures c.index-params-position.is in
    let within : c.loop-position.position < length c.args.params.now = omega arith in
    record {
      names =
          names-more c.loop-position.before.keys c.insert.new.self.keys c.as_slice-name.result c.in_ok-is_new.is_new c.in_ok-is_new.ensures.added (take c.loop-position.position c.args.params.now) c.loop-position.invariant.names c.in_ok-is_new.ensures.keys c.if-not-is_new.false
          ∙ sym (take_more c.args.params.now c.loop-position.position c.as_slice-name.result.now within ∙ ap (λ (n : Name). take c.loop-position.position c.args.params.now ++ n ∷ []) (sym named));
      terms = λ d. one-more (type_term d (parameters c.args.params.now)) c.args.args.now c.loop-position.position (c.loop-position.invariant.terms d)
          (passes-here (type_term d (parameters c.args.params.now)) c.args.params.now c.args.args.now c.loop-position.position c.index-args-position.result c.as_slice-name.result.now (omega arith) within c.index-args-position.is named
          (new-name c.loop-position.before.keys c.insert.new.self.keys c.as_slice-name.result c.in_ok-is_new.is_new c.in_ok-is_new.ensures.added (take c.loop-position.position c.args.params.now) c.loop-position.invariant.names c.if-not-is_new.false)
          (c.is_variable.ensures.yes c.if-not-is_variable.false d (record_tuple d) (parameters c.args.params.now)));
    }

pub returns : goal.returns
returns c = λ d. ((λ h. passes-all (type_term d (parameters c.args.params.now)) 0 c.args.args.now c.args.params.now (omega arith) (λ k t lt. c.loop-position.invariant.terms d k t (omega arith))), (λ p. refl))
