use Rattle.std.proofs.lemmas.Result.{IfOk-weaker}
use Rattle.cert_checker.proofs.TypeTables.{first-kind}
use Rattle.cert_checker.proofs.spec_table.types_of_spec.Goals as goal

pub returns : goal.returns
returns c = IfOk-weaker c.types_of_clause.result _ _ (λ types h arrow a. h arrow (first-kind c.args.clauses.now c.in-Some.clause.now c.get-in-Some.result.now arrow c.in-Some.ensures.value c.get-in-Some.ensures a)) c.types_of_clause.ensures
