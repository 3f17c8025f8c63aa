use Rattle.std.proofs.Common.{refl}
use Rattle.std.proofs.lemmas.Result.{on_ok_weaker, IfErr-weaker}
use Rattle.cert_checker.proofs.FunctionBodies.{body-judged, clause-holds, clause-fails}
use Rattle.cert_checker.proofs.body_check.check_clauses.Goals as goal

pub check_body-requires : goal.check_body-requires
check_body-requires c = body-judged _ c.args.types.now refl c.get-clause.result.now refl c.args.clauses.now c.in-Some.clause.now c.in-Some.ensures.value c.get-clause.ensures c.requires

pub returns-clause-holds : goal.returns-clause-holds
returns-clause-holds c = on_ok_weaker c.check_body.result (λ h. clause-holds _ c.args.types.now refl c.get-clause.result.now refl c.args.clauses.now c.in-Some.clause.now c.in-Some.ensures.value c.get-clause.ensures h) c.check_body.ensures.holds

pub returns-clause-fails : goal.returns-clause-fails
returns-clause-fails c = IfErr-weaker c.check_body.result _ _ (λ refusal h. clause-fails _ c.args.types.now refl c.get-clause.result.now refl c.args.clauses.now c.in-Some.clause.now refusal c.in-Some.ensures.value c.get-clause.ensures h) c.check_body.ensures.fails
