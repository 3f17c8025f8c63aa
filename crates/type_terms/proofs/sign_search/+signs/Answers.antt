use Rattle.std.proofs.Common.{rules, arith}
use Rattle.type_terms.proofs.SignTableLaws.{signs-Map}
use Rattle.type_terms.proofs.SignListLaws.{through-step}
use Rattle.type_terms.proofs.sign_search.+signs.Goals as goal

pub signs_in-returns-in-Map : goal.signs_in-returns-in-Map
signs_in-returns-in-Map t c = rw (c.in-Map.is, signs-Map c.args.table.now c.args.sought c.in-Map.fields c.in-Map.rest_int c.in-Map.rest_atom) (search rules)

pub signs_in_arguments-loop-at-preserved : goal.signs_in_arguments-loop-at-preserved
signs_in_arguments-loop-at-preserved t c =
    rw (c.either-found.ensures, c.through.ensures, c.signs_of_parameter-parameter.ensures, c.signs_in-inner.ensures, c.index-arguments-at.is)
    (through-step c.args.table.now c.args.sought c.args.number c.args.arguments.now c.loop-at.at c.index-arguments-at.result c.loop-at.found (omega arith) c.loop-at.invariant)
